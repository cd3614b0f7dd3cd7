-- What a search through the days finds.
use Rattle.std.proofs.Common.{◌≡◌, ℕ, zero, suc, ◌+◌, ◌<◌, ◌≤◌, Bool, true, false, cond, Some, None, Option, refl, ap, subst, ⊎_elim, ◌&&◌, arith}
use Rattle.std.specs.Prelude.{MatchOption}
use Rattle.std.specs.List.{range_with_len, find}
use Rattle.std.proofs.lemmas.Bool.{both_ways, and_parts, and_from, cases_lt}
use Rattle.std.proofs.lemmas.Bool.Decides.{nat_tests}
use Rattle.day.specs.declared.day.Day.{Day}
use Rattle.day.specs.Days.{left, day_sense}
use Rattle.kind.specs.Sense.{Commons}

-- a search through n numbers from a on, which found r: all of them fail the test, or r is the first that passes
abbrev pub Found : (ℕ → Bool) → ℕ → ℕ → Option ℕ → Type 0
Found test a b r = MatchOption r ((k : ℕ) → a ≤ k → k < b → test k ≡ false) (λ i. (a ≤ i) × (i < b) × (test i ≡ true) × ((k : ℕ) → a ≤ k → k < i → test k ≡ false))

module _ (test : ℕ → Bool) where
  -- where one was found and the first number passes, it is that one; where the first fails, the search goes on
  later : (n a i : ℕ) (b : Bool) → test a ≡ b → (Found test (a + 1) ((a + 1) + n) (Some i) → Some i ≡ find test (range_with_len (a + 1) n)) → Found test a (a + suc n) (Some i) → Some i ≡ cond b (Some a) (find test (range_with_len (a + 1) n))
  later n a i true e next h = ⊎_elim (λ lt. absurd (both_ways _ (h.3 a (omega arith) lt) e)) (λ le. ap Some (omega arith)) (cases_lt a i)
  later n a i false e next h =
      let above : a < i = ⊎_elim (λ lt. lt) (λ le. let same : i ≡ a = omega arith in absurd (both_ways _ e (subst (λ x. test x ≡ true) same h.2))) (cases_lt a i) in
      next (omega arith, omega arith, h.2, λ k f g. h.3 k (omega arith) g)

  pub first_found : (n a : ℕ) (r : Option ℕ) → Found test a (a + n) r → r ≡ find test (range_with_len a n)
  first_found zero a None h = refl
  first_found zero a (Some i) h = absurd (omega arith)
  first_found (suc n) a None h = rw (h a (omega arith) (omega arith)) (first_found n (a + 1) None (λ k f g. h k (omega arith) (omega arith)))
  first_found (suc n) a (Some i) h = later n a i (test a) refl (first_found n (a + 1) (Some i)) h

pub least_found : (a b : Day) (r : Option ℕ) → Found (λ p. left a p && left b p) 0 7 r → Commons day_sense a b r
least_found a b None h = λ p f g. let seven : p < 7 = grind (arith, nat_tests) in both_ways _ (h p (omega arith) seven) (and_from _ _ f g)
least_found a b (Some p) h =
    let both = and_parts _ _ h.2 in record {
      in_first = both.0;
      in_second = both.1;
      none_below = λ q lt f g. both_ways _ (h.3 q (omega arith) lt) (and_from _ _ f g);
    }
