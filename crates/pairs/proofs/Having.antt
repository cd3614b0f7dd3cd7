-- What lists have, and where.
use Rattle.std.proofs.Common.{◌≡◌, ℕ, zero, suc, ◌<◌, ◌⊎◌, List, [], ◌∷◌, ◌++◌, length, Some, Option, refl, ap, subst, inl, inr, ⊎_elim, arith}
use Rattle.std.specs.List.{slice_get}
use Rattle.pairs.specs.Lists.{Has, here, there}

pub has_cases : {X : Type 0} (xs ys : List X) (x : X) → Has (xs ++ ys) x → Has xs x ⊎ Has ys x
has_cases [] ys x h = inr h
has_cases (z ∷ xs) ys x here = inl here
has_cases (z ∷ xs) ys x (there h) = ⊎_elim (λ q. inl (there q)) (λ q. inr q) (has_cases xs ys x h)

pub has_left : {X : Type 0} (xs ys : List X) (x : X) → Has xs x → Has (xs ++ ys) x
has_left [] ys x h = elim h [ ]
has_left (z ∷ xs) ys x here = here
has_left (z ∷ xs) ys x (there h) = there (has_left xs ys x h)

pub has_right : {X : Type 0} (xs ys : List X) (x : X) → Has ys x → Has (xs ++ ys) x
has_right [] ys x h = h
has_right (z ∷ xs) ys x h = there (has_right xs ys x h)

pub has_none : {X : Type 0} {x : X} → Has [] x → ⊥
has_none h = elim h [ ]

pub has_one : {X : Type 0} {x y : X} → Has (y ∷ []) x → y ≡ x
has_one here = refl
has_one (there h) = absurd (has_none h)

pub has_nth : {X : Type 0} {xs : List X} {x : X} → Has xs x → (i : ℕ) × (slice_get xs i ≡ Some x)
has_nth here = (0, refl)
has_nth (there h) = (suc (has_nth h).0, (has_nth h).1)

pub nth_has : {X : Type 0} (xs : List X) (i : ℕ) (x : X) → slice_get xs i ≡ Some x → Has xs x
nth_has [] i x e = absurd cc
nth_has (y ∷ xs) zero x e = let q : y ≡ x = cc in subst (λ z. Has (y ∷ xs) z) q here
nth_has (y ∷ xs) (suc i) x e = there (nth_has xs i x e)

pub nth_longer : {X : Type 0} (xs ys : List X) (i : ℕ) (x : X) → slice_get xs i ≡ Some x → slice_get (xs ++ ys) i ≡ Some x
nth_longer [] ys i x e = absurd cc
nth_longer (y ∷ xs) ys zero x e = e
nth_longer (y ∷ xs) ys (suc i) x e = nth_longer xs ys i x e

pub nth_one : {X : Type 0} {o : Option X} {x y : X} → o ≡ Some x → o ≡ Some y → x ≡ y
nth_one p q = cc

-- the element at a place of a list with one more at its end
pub nth_push : {X : Type 0} (xs : List X) (x : X) (i : ℕ) (y : X) → slice_get (xs ++ x ∷ []) i ≡ Some y → ((i < length xs) × (slice_get xs i ≡ Some y)) ⊎ ((i ≡ length xs) × (x ≡ y))
nth_push [] x zero y e = inr (refl, cc)
nth_push [] x (suc i) y e = absurd cc
nth_push (w ∷ xs) x zero y e = inl (omega arith, e)
nth_push (w ∷ xs) x (suc i) y e = ⊎_elim (λ p. inl (omega (arith, p.0), p.1)) (λ p. inr (ap suc p.0, p.1)) (nth_push xs x i y e)

pub nth_front : {X : Type 0} (xs : List X) (x : X) (i : ℕ) (y : X) → i < length xs → slice_get (xs ++ x ∷ []) i ≡ Some y → slice_get xs i ≡ Some y
nth_front xs x i y lt e = ⊎_elim (λ p. p.1) (λ p. absurd (omega (arith, p.0))) (nth_push xs x i y e)
