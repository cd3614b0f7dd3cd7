-- A search for the next contradicting pair: those passed over do not contradict each other.
use Rattle.std.proofs.Common.{◌≡◌, ℕ, ◌+◌, ◌≤◌, List, [], ◌∷◌, ◌++◌, map, length, Some, None, Option, IfSome, MatchOption, IsTrue, true, suc, refl, sym, ap, ◌∙◌, subst, arith}
use denote.Param.Members.{Mut, Called}
use Rattle.std.specs.Iterator.{Yields, FindsMapped}
use Rattle.std.specs.Iterator.Runs.{Run, SomeRun, YieldsRun, AllItemsGive}
use Rattle.std.specs.List.{FoldsTo, slice_get}
use Rattle.std.proofs.lemmas.List.{length-map}
use Rattle.kind.specs.Sense.{Sense}
use Rattle.site.specs.Plans.{Plan}
use Rattle.rules.specs.Rules.{rule_of}
use Rattle.pairs.specs.declared.answers.Entry.{Entry}
use Rattle.pairs.specs.declared.walking.Pair.{Pair}
use Rattle.pairs.specs.declared.walking.Pairs.{Pairs}
use Rattle.pairs.specs.Clashing.{Upto}
use Rattle.pairs.specs.Disagreement.{Contradict, Tells}
use Rattle.pairs.specs.Pairs.{NamesAll}
use Rattle.pairs.specs.Walking.{Comes}
use Rattle.pairs.proofs.Naming.{turned, upto_skip, upto_push, upto_all}

-- what one call of `next` of the walk over all pairs gives
abbrev pub Steps : {C : Type 0} → Pairs C → Option (Pair C) → Pairs C → Type 0
Steps p r q = (q.rules.now ≡ p.rules.now) × MatchOption r (length p.rules.now ≤ p.first + 1) (λ x. Comes p.rules.now p.first p.second q.first q.second x)

module _ {C P F : Type 0} (s : Plan) (k : Sense C P) (g : Mut F (Pair C × Unit {0}) (Option (Entry P))) (f : F) where
  -- what the answers of the closure say
  abbrev pub Answers : Type 0
  Answers = (x : Pair C) (r : Option (Entry P)) (q : F) → Called g f (x, tt) r q
      → (q ≡ f) × MatchOption r (Contradict s k (rule_of x.one.now) (rule_of x.other.now) → ⊥) (λ e. (e.first ≡ x.first) × (e.second ≡ x.second) × Tells s k (rule_of x.one.now) (rule_of x.other.now) e)

  record At (p u : Pairs C) : Type 0 where
    pub rules_are : u.rules.now ≡ p.rules.now
    pub passed : (es : List (Entry P)) → Upto s k (map rule_of p.rules.now) p.first p.second es → Upto s k (map rule_of p.rules.now) u.first u.second es

  one : Answers → (p u v : Pairs C) (x : Pair C) (h q : F) → h ≡ f → At p u → Steps u (Some x) v → Called g h (x, tt) None q → (q ≡ f) × At p v
  one answers p u v x h q same a w call =
      let m = answers x None q (subst (λ z. Called g z (x, tt) None q) same call) in
      (m.0, record { rules_are = w.0 ∙ a.rules_are; passed = λ es o. upto_skip s k es (turned a.rules_are w.1) m.1 (a.passed es o) })

  skip : Answers → (xs : List (Pair C)) (p u v : Pairs C) (h q : F) → h ≡ f → At p u → Yields Steps u xs v → FoldsTo (λ a x b. Called g a (x, tt) None b) h xs q → (q ≡ f) × At p v
  skip answers [] p u v h q same a y fo = (sym fo ∙ same, subst (λ z. At p z) y a)
  skip answers (x ∷ xs) p u v h q same a (j, w, y) (i, call, fo) = let o = one answers p u j x h i same a w call in skip answers xs p j v i q o.0 o.1 y fo

  none_more : Answers → (xs : List (Pair C)) (p u v : Pairs C) → Yields Steps u xs v → At p u → ((m : ℕ) → IfSome (slice_get xs m) (λ x. Called g f (x, tt) None f)) → At p v
  none_more answers [] p u v y a all = subst (λ z. At p z) y a
  none_more answers (x ∷ xs) p u v (j, w, y) a all = none_more answers xs p j v y (one answers p u j x f f refl a w (all 0)).1 (λ m. all (suc m))

  none_found : Answers → (p : Pairs C) (m : Run Steps) → m.from ≡ p → m.whole ≡ true → AllItemsGive m g f None → (es : List (Entry P)) → Upto s k (map rule_of p.rules.now) p.first p.second es → NamesAll s k (map rule_of p.rules.now) es
  unfolding YieldsRun
  none_found answers p m from whole all es o =
      let d = m.gave.0 in
      let each = all (λ a r q call. (answers a.0 r q call).0) in
      let a = none_more answers m.items p m.from d.0 d.1 (subst (λ z. At p z) (sym from) (record { rules_are = refl; passed = λ es o. o })) (λ j. subst (λ z. IfSome z (λ x. Called g f (x, tt) None f)) (m.gave.1 j) (each j)) in
      let end = (d.2 whole).1.1 in
      upto_all s k (map rule_of p.rules.now) d.0.first d.0.second es (omega (arith, end, ap length a.rules_are, length-map p.rules.now (rule_of {C = C}))) (a.passed es o)

  pub found : Answers → (p v : Pairs C) (r : Option (Entry P)) (Q : Run Steps → Entry P → Type 0) → FindsMapped Steps g p f r v → SomeRun Steps p (λ m. MatchOption r (IsTrue m.whole × AllItemsGive m g f None) (λ y. Q m y))
      → (v.rules.now ≡ p.rules.now) × ((es : List (Entry P)) → Upto s k (map rule_of p.rules.now) p.first p.second es → MatchOption r (NamesAll s k (map rule_of p.rules.now) es) (λ e. Upto s k (map rule_of p.rules.now) v.first v.second (es ++ e ∷ [])))
  found answers p v None Q (xs, o, q, (t, y, w), fo, stop) (m, from, (whole, all)) =
      let b = skip answers xs p p t f q refl (record { rules_are = refl; passed = λ es o. o }) y fo in
      (w.0 ∙ b.1.rules_are, none_found answers p m from whole all)
  found answers p v (Some e) Q (xs, None, q, (t, y, w), fo, stop) runs = absurd cc
  found answers p v (Some e) Q (xs, Some x, q, (t, y, w), fo, (h, call)) runs =
      let b = skip answers xs p p t f q refl (record { rules_are = refl; passed = λ es o. o }) y fo in
      let m = answers x (Some e) h (subst (λ z. Called g z (x, tt) (Some e) h) b.0 call) in
      (w.0 ∙ b.1.rules_are, λ es o. upto_push s k es e (turned b.1.rules_are w.1) (m.1.0 ∙ w.1.first_is, m.1.1 ∙ w.1.second_is, m.1.2) (b.1.passed es o))
