-- Contradiction by sets of ports is contradiction by own paths, where the ports of each rule are those that its paths touch.
use Rattle.std.proofs.Common.{◌≡◌, ℕ, true, List, refl, ap, ◌∙◌, inl, inr}
use Rattle.std.proofs.lemmas.Bool.{false≢true}
use Rattle.kind.specs.Sense.{Sense}
use Rattle.site.specs.Plans.{Plan}
use Rattle.paths.specs.declared.ports.Port.{Port}
use Rattle.rules.specs.declared.verdict.Saying.{Saying}
use Rattle.rules.specs.declared.verdict.Saying.TheVariants.{Permit, Deny, Silent}
use Rattle.rules.specs.Rules.{Ruling}
use Rattle.book.specs.Contradictions.{Opposite, AtOddsAt, AtOddsPair}
use Rattle.pairs.specs.Disagreement.{saying, opposed, ContradictAt}
use Rattle.book.specs.Drawing.{Touching}
use Rattle.pairs.specs.Lists.{Has}
use Rattle.pairs.specs.Pairs.{Clashing}
use Rattle.pairs.proofs.Having.{nth_has}

opposite : (a b : Saying) → opposed a b ≡ true → Opposite a b
opposite Permit Deny e = inl (refl, refl)
opposite Deny Permit e = inr (refl, refl)
opposite Permit Permit e = absurd (false≢true e)
opposite Permit Silent e = absurd (false≢true e)
opposite Deny Deny e = absurd (false≢true e)
opposite Deny Silent e = absurd (false≢true e)
opposite Silent Permit e = absurd (false≢true e)
opposite Silent Deny e = absurd (false≢true e)
opposite Silent Silent e = absurd (false≢true e)

opposes : (a b : Saying) → Opposite a b → opposed a b ≡ true
opposes a b (inl o) = ap (λ x. opposed x b) o.0 ∙ ap (λ x. opposed Permit x) o.1
opposes a b (inr o) = ap (λ x. opposed x b) o.0 ∙ ap (λ x. opposed Deny x) o.1

module _ {C P : Type 0} (s : Plan) (k : Sense C P) where
  pub by_paths : (q r : Ruling C) (port : Port) (class : ℕ) (point : P) → Touching s q → Touching s r → ContradictAt s k q r port class point → AtOddsAt s k q r port class point
  by_paths q r port class point tq tr c = record {
    first_path = (tq port).0 c.share.one;
    second_path = (tr port).0 c.share.other;
    declared = c.differ.0;
    say = opposite (saying s q class) (saying s r class) c.differ.1;
    first_holds = c.first_holds;
    second_holds = c.second_holds;
  }

  by_ports : (q r : Ruling C) (port : Port) (class : ℕ) (point : P) → Touching s q → Touching s r → AtOddsAt s k q r port class point → ContradictAt s k q r port class point
  by_ports q r port class point tq tr c = record {
    share = record { one = (tq port).1 c.first_path; other = (tr port).1 c.second_path };
    differ = (c.declared, opposes (saying s q class) (saying s r class) c.say);
    first_holds = c.first_holds;
    second_holds = c.second_holds;
  }

  abbrev pub AllTouching : List (Ruling C) → Type 0
  AllTouching rs = (r : Ruling C) → Has rs r → Touching s r

  pub pair_by_paths : (rs : List (Ruling C)) (i j : ℕ) → AllTouching rs → Clashing s k rs i j → AtOddsPair s k rs i j
  pair_by_paths rs i j t c = record {
    q = c.q;
    r = c.r;
    first_is = c.first_is;
    second_is = c.second_is;
    in_turn = c.in_turn;
    at_odds = record {
      port = c.contradict.port;
      class = c.contradict.class;
      point = c.contradict.point;
      there = by_paths c.q c.r _ _ _ (t c.q (nth_has rs i c.q c.first_is)) (t c.r (nth_has rs j c.r c.second_is)) c.contradict.there;
    };
  }

  pub pair_by_ports : (rs : List (Ruling C)) (i j : ℕ) → AllTouching rs → AtOddsPair s k rs i j → Clashing s k rs i j
  pair_by_ports rs i j t c = record {
    q = c.q;
    r = c.r;
    first_is = c.first_is;
    second_is = c.second_is;
    in_turn = c.in_turn;
    contradict = record {
      port = c.at_odds.port;
      class = c.at_odds.class;
      point = c.at_odds.point;
      there = by_ports c.q c.r _ _ _ (t c.q (nth_has rs i c.q c.first_is)) (t c.r (nth_has rs j c.r c.second_is)) c.at_odds.there;
    };
  }
