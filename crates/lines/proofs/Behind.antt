-- A text, and another behind it, written to the front of a buffer; and the rules of a line.
use Rattle.std.proofs.Common.{◌≡◌, ℕ, ◌-◌, ◌<◌, ◌≤◌, Bool, true, false, List, [], ◌++◌, map, length, get_or, take, drop, Some, None, Ok, Err, Option, Result, MatchOption, Bor, inl, inr, refl, subst, sym, ap, ◌∙◌, arith, length-append, length-drop, take-append-drop}
use borrow.Rule.Slice.PartMut.{put_mid, post_of, Post-is}
use Rattle.std.specs.List.{slice_get}
use Rattle.std.proofs.lemmas.Option.{slice_get_within}
use Rattle.std.proofs.lemmas.List.{drop_all, append-nil, take_rest, length-map}
use Rattle.std.proofs.lemmas.Bool.{both_ways}
use Rattle.std.specs.Option.{ok_or}
use Rattle.std.specs.Bool.{then_some}
use Rattle.kind.specs.Sense.{Sense}
use Rattle.kind.specs.Texts.{Printed}
use Rattle.site.specs.declared.refusals.Cause.TheVariants.{NoRoom, NotTouched}
use Rattle.site.specs.declared.refusals.Refusal.{Refusal}
use Rattle.site.specs.Plans.{Plan}
use Rattle.paths.specs.declared.ports.Port.{Port}
use Rattle.rules.specs.declared.rule.Rule.{Rule}
use Rattle.rules.specs.Rules.{Ruling, rule_of}
use Rattle.pairs.specs.declared.answers.Entry.{Entry}
use Rattle.pairs.specs.Disagreement.{touches}
use Rattle.pairs.specs.Places.{IsPlace, Placed}
use Rattle.lines.specs.Lines.{Stand, Put, Lined, no_port_or_class, off_ground, not_touched}
use Rattle.pairs.proofs.Having.{nth_one}
use Rattle.pairs.proofs.Seeing.{seen_nth}

-- o is the buffer, t the first text, p the second; v is what the buffer's part behind t came to hold
module _ (o t p v : List ℕ) (fits : length t ≤ length o) where
  part : take (length o - length t) (drop (length t) o) ≡ drop (length t) o
  part = take_rest o (length t)

  whole : put_mid (length t) (length o - length t) o v ≡ take (length t) o ++ v
  whole =
      let post : post_of (length t) (length o - length t) o ≡ [] = Post-is (length t) (length o) o fits ∙ drop_all (length o) o (omega arith) in
      ap (λ z. take (length t) o ++ (v ++ z)) post ∙ ap (λ z. take (length t) o ++ z) (append-nil v)

  pub none_over : length (take (length o - length t) (drop (length t) o)) < length p → length o < length (t ++ p)
  none_over h = omega (arith, length-append t p, ap length part, length-drop (length t) o)

  pub none_kept : v ≡ take (length o - length t) (drop (length t) o) → put_mid (length t) (length o - length t) o v ≡ o
  none_kept e = whole ∙ ap (λ z. take (length t) o ++ z) (e ∙ part) ∙ take-append-drop (length t) o

  -- the second text was over the part behind the first
  pub none_put : (a : Result ℕ Refusal) (n : Option ℕ) → a ≡ Err (record { cause = NoRoom; place = 0 }) → n ≡ None → Printed p (take (length o - length t) (drop (length t) o)) n v → Put (t ++ p) o a (put_mid (length t) (length o - length t) o v)
  none_put a n e f w =
      let q : Printed p (take (length o - length t) (drop (length t) o)) None v = subst (λ z. Printed p (take (length o - length t) (drop (length t) o)) z v) f w in
      subst (λ z. Put (t ++ p) o z (put_mid (length t) (length o - length t) o v)) (sym e) (refl, none_over q.0, none_kept q.1)

-- a text put to the front of a buffer, or refused
pub put_ok : (text old new : List ℕ) (o : Option ℕ) (a : Result ℕ Refusal) (e : Refusal) → a ≡ ok_or o e → e ≡ record { cause = NoRoom; place = 0 } → Printed text old o new → Put text old a new
put_ok text old new None a e p q w = subst (λ z. Put text old z new) (sym p) (q, w.0, w.1)
put_ok text old new (Some n) a e p q w = subst (λ z. Put text old z new) (sym p) w

-- where nothing became an error
pub none_was : {A E : Type 0} (o : Option A) (e x : E) → ok_or o e ≡ Err x → (o ≡ None) × (x ≡ e)
none_was None e x p = (refl, cc)
none_was (Some a) e x p = absurd cc

pub some_was : {A E : Type 0} (o : Option A) (e : E) (a : A) → ok_or o e ≡ Ok a → o ≡ Some a
some_was None e a p = absurd cc
some_was (Some b) e a p = cc

module _ {C : Type 0} (s : Plan) (rs : List (Rule C)) (port : Port) (i : ℕ) where
  pub past : length rs ≤ i → (q : Ruling C) → slice_get (map rule_of rs) i ≡ Some q → ⊥
  past le q e = let m = slice_get_within (map rule_of rs) i q e in omega (arith, m, length-map rs (rule_of {C = C}))

  -- the rule at the position, if it touches the port
  pub touching : (b : Bool) (r : Bor (Rule C)) → i < length rs → r.now ≡ get_or rs i r.now → b ≡ touches s (rule_of r.now) port
      → MatchOption (then_some b r) ((q : Ruling C) → slice_get (map rule_of rs) i ≡ Some q → touches s q port ≡ true → ⊥) (λ r. (slice_get (map rule_of rs) i ≡ Some (rule_of r.now)) × (touches s (rule_of r.now) port ≡ true))
  touching true r lt is t = (seen_nth rs i r.now lt is, sym t)
  touching false r lt is t = λ q e on. both_ways _ (sym t) (ap (λ (z : Ruling C). touches s z port) (nth_one (seen_nth rs i r.now lt is) e) ∙ on)

module _ {C P : Type 0} (s : Plan) (k : Sense C P) (text : P → List ℕ) (rs : List (Ruling C)) (e : Entry P) (old : List ℕ) where
  -- the place of the entry is none
  pub misplaced : (a : Result ℕ Refusal) (y : Refusal) → a ≡ Err y → Placed s k e.port e.class e.point (Err y) → Lined s k text rs e old a old
  misplaced a y p (inl w) = subst (λ z. Lined s k text rs e old z old) (sym (p ∙ ap Err w.0)) (no_port_or_class w.1)
  misplaced a y p (inr w) = subst (λ z. Lined s k text rs e old z old) (sym (p ∙ ap Err w.0)) (off_ground w.1.port_is w.1.class_is w.1.point_is)

  pub untouched : (a : Result ℕ Refusal) → a ≡ Err (record { cause = NotTouched; place = 0 }) → IsPlace s k e.port e.class e.point → ((q r : Ruling C) → Stand s rs e.first e.second e.port q r → ⊥) → Lined s k text rs e old a old
  untouched a p at none = subst (λ z. Lined s k text rs e old z old) (sym p) (not_touched at.port_is at.class_is at.point_is none)
