-- Looking a name up in a list of names.
use Rattle.std.proofs.Common.{◌≡◌, ℕ, zero, suc, ◌<◌, Bool, true, false, List, [], ◌∷◌, map, length, get_or, Some, None, Option, Decides, MatchOption, sym, refl, arith}
use Rattle.std.specs.Str.{bytes_eq}
use Rattle.std.proofs.lemmas.Slice.Eq.{bytes_eq-Decides}
use Rattle.std.proofs.lemmas.List.{length-map}
use Rattle.std.specs.List.{AllWithin, HoldsAt}
use Rattle.fixed.specs.Rosters.{number_of, First, Absent}

-- a test is false where what it decides does not hold
pub off : {P : Type 0} (r : Bool) → Decides r P → (P → ⊥) → r ≡ false
off true d no' = absurd (no' (d.0 refl))
off false d no' = refl

pub first_number : (n : List ℕ) (xs : List (List ℕ)) (i : ℕ) → First n xs i → number_of n xs ≡ Some i
first_number n [] i f = absurd (omega (arith, f.within))
first_number n (x ∷ xs) zero f =
    let e : bytes_eq x n ≡ true = (bytes_eq-Decides x n).1 f.here in rw e
first_number n (x ∷ xs) (suc i) f =
    let e : bytes_eq x n ≡ false = off _ (bytes_eq-Decides x n) (f.before 0 (omega arith)) in
    let rest : First n xs i = record { within = omega (arith, f.within); here = f.here; before = λ k lt. f.before (suc k) (omega arith) } in
    rw (e, first_number n xs i rest)

pub absent_number : (n : List ℕ) (xs : List (List ℕ)) → Absent n xs → number_of n xs ≡ None
absent_number n [] a = refl
absent_number n (x ∷ xs) a =
    let e : bytes_eq x n ≡ false = off _ (bytes_eq-Decides x n) (a 0 (omega arith)) in
    rw (e, absent_number n xs (λ k lt. a (suc k) (omega arith)))

-- what was found of a name among those that go by names
module _ {T : Type 0} (called : T → List ℕ) where
  nth : (P : List ℕ → Type 0) (xs : List T) (k : ℕ) → k < length xs → ((d : T) → P (called (get_or xs k d))) → P (get_or (map called xs) k [])
  nth P [] k lt h = absurd (omega arith)
  nth P (x ∷ xs) zero lt h = h x
  nth P (x ∷ xs) (suc k) lt h = nth P xs k (omega arith) h

  pub found : (n : List ℕ) (xs : List T) (r : Option ℕ) → MatchOption r (AllWithin (λ x. called x ≡ n → ⊥) xs 0 (length xs)) (λ i. (i < length xs) × HoldsAt (λ x. called x ≡ n) xs i × AllWithin (λ x. called x ≡ n → ⊥) xs 0 i) → MatchOption r (Absent n (map called xs)) (First n (map called xs))
  found n xs None a = λ k lt.
      let short : k < length xs = omega (arith, lt, length-map xs called) in
      nth (λ y. y ≡ n → ⊥) xs k short (λ d. a k d (omega arith) short)
  found n xs (Some i) f = record {
    within = omega (arith, f.0, length-map xs called);
    here = nth (λ y. y ≡ n) xs i f.0 f.1;
    before = λ k lt. nth (λ y. y ≡ n → ⊥) xs k (omega (arith, lt, f.0)) (λ d. f.2 k d (omega arith) lt);
  }

pub numbered : (n : List ℕ) (ys : List (List ℕ)) (r : Option ℕ) → MatchOption r (Absent n ys) (First n ys) → r ≡ number_of n ys
numbered n ys None a = sym (absent_number n ys a)
numbered n ys (Some i) f = sym (first_number n ys i f)
