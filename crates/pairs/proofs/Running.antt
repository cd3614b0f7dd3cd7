-- Runs of a walk over contradicting pairs: the entries that came name the pairs so far.
use Rattle.std.proofs.Common.{◌≡◌, ℕ, true, false, List, [], ◌∷◌, ◌++◌, map, Some, None, Option, MatchOption, sym, ap, ◌∙◌, subst, append_assoc, arith}
use Rattle.std.specs.Iterator.{Yields, SkipsThenYields}
use Rattle.std.specs.Option.{is_some}
use Rattle.std.proofs.lemmas.Bool.{true≢false, false≢true}
use Rattle.std.proofs.lemmas.List.{append-nil, length_push}
use Rattle.kind.specs.Sense.{Sense}
use Rattle.site.specs.Plans.{Plan}
use Rattle.site.specs.Sites.{plan}
use Rattle.rules.specs.Rules.{Ruling, rule_of}
use Rattle.pairs.specs.declared.answers.Entry.{Entry}
use Rattle.pairs.specs.declared.clashing.Clashes.{Clashes}
use Rattle.pairs.specs.Clashing.{Upto, Onward}
use Rattle.pairs.specs.Pairs.{NamesAll}
use Rattle.pairs.proofs.Naming.{Short, Suffices}

module _ {C P : Type 0} (k : Sense C P) where
  -- what one call of `next` gives
  abbrev pub Steps : Clashes C → Option (Entry P) → Clashes C → Type 0
  Steps c r d = (d.site.now ≡ c.site.now) × (d.pairs.rules.now ≡ c.pairs.rules.now) × Onward (plan c.site.now) k (map rule_of c.pairs.rules.now) c.pairs.first c.pairs.second d.pairs.first d.pairs.second r

  module _ (s : Plan) (rs : List (Ruling C)) where
    -- the walk has come to these entries
    pub record At (c : Clashes C) (es : List (Entry P)) : Type 0 where
      pub site_is : plan c.site.now ≡ s
      pub rules_are : map rule_of c.pairs.rules.now ≡ rs
      pub upto : Upto s k rs c.pairs.first c.pairs.second es

    pub onward : {s' : Plan} {rs' : List (Ruling C)} (i j i' j' : ℕ) (r : Option (Entry P)) → s' ≡ s → rs' ≡ rs → Onward s' k rs' i j i' j' r → Onward s k rs i j i' j' r
    onward {s'} {rs'} i j i' j' r p q w = subst (λ z. Onward z k rs i j i' j' r) p (subst (λ z. Onward s' k z i j i' j' r) q w)

    one : (c d : Clashes C) (e : Entry P) (es : List (Entry P)) → At c es → Steps c (Some e) d → At d (es ++ e ∷ [])
    one c d e es a w = record {
      site_is = ap plan w.0 ∙ a.site_is;
      rules_are = ap (map rule_of) w.1 ∙ a.rules_are;
      upto = onward c.pairs.first c.pairs.second d.pairs.first d.pairs.second (Some e) a.site_is a.rules_are w.2 es a.upto;
    }

    none : (c d : Clashes C) (es : List (Entry P)) → At c es → Steps c None d → NamesAll s k rs es
    none c d es a w = onward c.pairs.first c.pairs.second d.pairs.first d.pairs.second None a.site_is a.rules_are w.2 es a.upto

    run : (xs : List (Entry P)) (c d : Clashes C) (es : List (Entry P)) → Yields Steps c xs d → At c es → At d (es ++ xs)
    run [] c d es y a = subst (λ z. At z (es ++ [])) y (subst (λ z. At c z) (sym (append-nil es)) a)
    run (x ∷ xs) c d es (j, w, y) a = subst (λ z. At d z) (append_assoc es (x ∷ []) xs) (run xs j d (es ++ x ∷ []) y (one c j x es a w))

    -- the entry behind so many others, or none
    pub counted : (c u : Clashes C) (n : ℕ) (o : Option (Entry P)) → At c [] → SkipsThenYields Steps c n o u → MatchOption o (Suffices s k rs n) (λ _. Short s k rs n)
    counted c u n None a (xs, (t, y, w), l) = (xs, none t u xs (run xs c t [] y a) w, l)
    counted c u n (Some e) a (xs, (t, y, w), l) = (xs ++ e ∷ [], (one t u e xs (run xs c t [] y a) w).upto.only, omega (arith, l, length_push xs e))

pub if_none : {A : Type 0} (Y N : Type 0) (o : Option A) → is_some o ≡ false → MatchOption o Y (λ _. N) → Y
if_none Y N None e m = m
if_none Y N (Some a) e m = absurd (true≢false e)

pub if_some : {A : Type 0} (Y N : Type 0) (o : Option A) → is_some o ≡ true → MatchOption o Y (λ _. N) → N
if_some Y N None e m = absurd (false≢true e)
if_some Y N (Some a) e m = m
