-- A search through comparisons for the first that fixes a part finds the number that the list gives the part.
use Rattle.std.proofs.Common.{◌≡◌, ℕ, List, [], ◌∷◌, length, Some, None, Option, IfSome, MatchOption, IsTrue, Bor, Iter, true, suc, refl, sym, ap, ◌∙◌, subst, arith}
use denote.Param.Members.{Mut, Called}
use Rattle.std.proofs.iter.Yields.{fronts}
use Rattle.std.specs.Iterator.{Yields, FindsMapped}
use Rattle.std.specs.Iterator.Runs.{Run, SomeRun, YieldsRun, AllItemsGive}
use Rattle.std.specs.List.{FoldsTo, slice_get}
use Rattle.std.specs.Option.{option_or}
use Rattle.address.specs.declared.entry.Entry.{Entry}
use Rattle.address.specs.Choices.{fixed_at}
use Rattle.address.specs.Entries.{fixed}

module _ {F : Type 0} (g : Mut F (Bor Entry × Unit {0}) (Option ℕ)) (f : F) (i : ℕ) where
  -- what the answers of the closure say
  abbrev pub Answers : Type 0
  Answers = (x : Bor Entry) (r : Option ℕ) (q : F) → Called g f (x, tt) r q → (q ≡ f) × (r ≡ fixed i x.now)

  -- a comparison that fixes nothing is passed over
  past : (es : List Entry) (x : Entry) (ys : List Entry) (o : Option ℕ) → es ≡ x ∷ ys → o ≡ fixed i x → fixed_at i es ≡ option_or o (fixed_at i ys)
  past es x ys o is e = ap (fixed_at i) is ∙ ap (λ z. option_or z (fixed_at i ys)) (sym e)

  skip : Answers → (xs : List (Bor Entry)) (s t : Iter Entry) (h q : F) → h ≡ f → Yields fronts s xs t → FoldsTo (λ a x b. Called g a (x, tt) None b) h xs q → (q ≡ f) × (fixed_at i s.rest.now ≡ fixed_at i t.rest.now)
  skip answers [] s t h q same y fo = (sym fo ∙ same, ap (λ z. fixed_at i z.rest.now) y)
  skip answers (x ∷ xs) s t h q same (j, w, y) (k, call, fo) =
      let m = answers x None k (subst (λ z. Called g z (x, tt) None k) same call) in
      let o = skip answers xs j t k q m.0 y fo in
      (o.0, past s.rest.now x.now j.rest.now None w m.1 ∙ o.1)

  none_more : Answers → (xs : List (Bor Entry)) (s t : Iter Entry) → Yields fronts s xs t → ((m : ℕ) → IfSome (slice_get xs m) (λ x. Called g f (x, tt) None f)) → fixed_at i s.rest.now ≡ fixed_at i t.rest.now
  none_more answers [] s t y all = ap (λ z. fixed_at i z.rest.now) y
  none_more answers (x ∷ xs) s t (j, w, y) all = past s.rest.now x.now j.rest.now None w (answers x None f (all 0)).1 ∙ none_more answers xs j t y (λ m. all (suc m))

  at_end : (es : List Entry) → length es ≡ 0 → fixed_at i es ≡ None
  at_end [] e = refl
  at_end (x ∷ xs) e = absurd (omega (arith, e))

  none_found : Answers → (s : Iter Entry) (m : Run fronts) → m.from ≡ s → m.whole ≡ true → AllItemsGive m g f None → None ≡ fixed_at i s.rest.now
  unfolding YieldsRun
  none_found answers s m from whole all =
      let d = m.gave.0 in
      let each = all (λ a r q call. (answers a.0 r q call).0) in
      let n = none_more answers m.items m.from d.0 d.1 (λ j. subst (λ z. IfSome z (λ x. Called g f (x, tt) None f)) (m.gave.1 j) (each j)) in
      sym (subst (λ z. fixed_at i z.rest.now ≡ None) from (n ∙ at_end d.0.rest.now (d.2 whole).1.0))

  pub found : Answers → (s u : Iter Entry) (r : Option ℕ) (Q : Run fronts → ℕ → Type 0) → FindsMapped fronts g s f r u → SomeRun fronts s (λ m. MatchOption r (IsTrue m.whole × AllItemsGive m g f None) (λ y. Q m y))
      → r ≡ fixed_at i s.rest.now
  found answers s u None Q ran (m, from, (whole, all)) = none_found answers s m from whole all
  found answers s u (Some v) Q (xs, None, q, (t, y, w), fo, stop) runs = absurd cc
  found answers s u (Some v) Q (xs, Some x, q, (t, y, w), fo, (h, call)) runs =
      let b = skip answers xs s t f q refl y fo in
      let m = answers x (Some v) h (subst (λ z. Called g z (x, tt) (Some v) h) b.0 call) in
      sym (b.1 ∙ past t.rest.now x.now u.rest.now (Some v) w m.1)
