-- Which numbers a set of numbers has.
use Rattle.std.proofs.Common.{◌≡◌, ℕ, zero, suc, ◌+◌, ◌-◌, ◌*◌, ◌/◌, ◌%◌, ◌^◌, ◌<◌, ◌≤◌, true, false, ◌||◌, eqb, ◌⊎◌, sym, refl, ap, ◌∙◌, inl, inr, ⊎_elim, one-mul, pow-suc, div-one, one-add, arith, pow_pos, pow-add, shr-shr}
use native.Mathlib.Nat.{div-eq_of_lt}
use lib.Bits.{bit_or, or_shr, or_mod}
use lib.Pow.{shl-shr, pow-lt}
use Rattle.std.proofs.lemmas.Bool.{eq-eqb, ne_eqb, cases_order}
use Rattle.paths.specs.Digits.{has}

two : (x : ℕ) → x < 2 → (x ≡ 0) ⊎ (x ≡ 1)
two zero h = inl refl
two (suc zero) h = inr refl
two (suc (suc n)) h = absurd (omega arith)

or_bit : (a b : ℕ) → (a ≡ 0) ⊎ (a ≡ 1) → (b ≡ 0) ⊎ (b ≡ 1) → eqb (bit_or a b) 1 ≡ (eqb a 1 || eqb b 1)
or_bit a b (inl p) (inl q) = rw (p, q)
or_bit a b (inl p) (inr q) = rw (p, q)
or_bit a b (inr p) (inl q) = rw (p, q)
or_bit a b (inr p) (inr q) = rw (p, q)

pow_bit : (k j : ℕ) → (k ≡ j) ⊎ ((k < j) ⊎ (j < k)) → eqb (2 ^ k / 2 ^ j % 2) 1 ≡ eqb k j
pow_bit k j (inl e) =
    let q : 2 ^ k / 2 ^ j ≡ 1 = ap (λ x. 2 ^ x / 2 ^ j) e ∙ ap (λ x. x / 2 ^ j) (sym (one-mul (2 ^ j))) ∙ shl-shr 1 j in
    ap (λ x. eqb (x % 2) 1) q ∙ sym (eq-eqb k j e)
pow_bit k j (inr (inl h)) =
    let q : 2 ^ k / 2 ^ j ≡ 0 = div-eq_of_lt (pow-lt h) in
    ap (λ x. eqb (x % 2) 1) q ∙ sym (ne_eqb k j (λ e. omega arith))
pow_bit k j (inr (inr h)) =
    let d : ℕ = k - j - 1 in
    let e : k ≡ suc d + j = omega arith in
    let q : 2 ^ k / 2 ^ j ≡ 2 ^ d * 2 = ap (λ x. 2 ^ x / 2 ^ j) e ∙ ap (λ x. x / 2 ^ j) (pow-add 2 (suc d) j) ∙ shl-shr (2 ^ suc d) j ∙ pow-suc 2 d in
    let z : 2 ^ k / 2 ^ j % 2 ≡ 0 = ap (λ x. x % 2) q ∙ omega arith in
    ap (λ x. eqb x 1) z ∙ sym (ne_eqb k j (λ e. omega arith))

pub has_or : (m n j : ℕ) → has (bit_or m n) j ≡ (has m j || has n j)
unfolding has
has_or m n j =
    ap (λ x. eqb (x % 2) 1) (or_shr m n j)
    ∙ ap (λ x. eqb x 1) (or_mod (m / 2 ^ j) (n / 2 ^ j) 1)
    ∙ or_bit (m / 2 ^ j % 2) (n / 2 ^ j % 2) (two _ (omega arith)) (two _ (omega arith))

pub has_pow : (k j : ℕ) → has (2 ^ k) j ≡ eqb k j
unfolding has
has_pow k j = pow_bit k j (cases_order k j)

pub has_with : (m k j : ℕ) → has (bit_or m (2 ^ k)) j ≡ (has m j || eqb k j)
has_with m k j = has_or m (2 ^ k) j ∙ ap (λ x. has m j || x) (has_pow k j)

pub has_none : (j : ℕ) → has 0 j ≡ false
unfolding has
has_none j = ap (λ x. eqb (x % 2) 1) (div-eq_of_lt (pow_pos j))

-- Some number stands in a set that is not empty.
pub record SomeIn (m : ℕ) : Type 0 where
  pub j : ℕ
  pub there : has m j ≡ true

has_first : (m : ℕ) → has m 0 ≡ eqb (m % 2) 1
unfolding has
has_first m = ap (λ x. eqb (x % 2) 1) (div-one m)

has_next : (m j : ℕ) → has m (suc j) ≡ has (m / 2) j
unfolding has
has_next m j = ap (λ x. eqb (m / 2 ^ x % 2) 1) (sym (one-add j)) ∙ ap (λ x. eqb (x % 2) 1) (sym (shr-shr m 1 j))

find_one : (w m : ℕ) → m ≤ w → (m ≡ 0 → ⊥) → SomeIn m
find_one zero m h ne = absurd (ne (omega arith))
find_one (suc w) m h ne =
    ⊎_elim
    (λ even.
    let s = find_one w (m / 2) (omega arith) (λ z. ne (omega arith)) in
    record { j = suc s.j; there = has_next m s.j ∙ s.there })
    (λ odd. record { j = 0; there = has_first m ∙ eq-eqb (m % 2) 1 odd })
    (two (m % 2) (omega arith))

pub some_in : (m : ℕ) → (m ≡ 0 → ⊥) → SomeIn m
some_in m ne = find_one m m (omega arith) ne
