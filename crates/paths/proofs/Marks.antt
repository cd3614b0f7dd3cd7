-- The live positions, position by position.
use Rattle.std.proofs.Common.{◌≡◌, ℕ, zero, suc, ◌+◌, ◌^◌, ◌<◌, ◌≤◌, Bool, true, false, cond, ◌||◌, eqb, sym, refl, ap, ◌∙◌, ⊎_elim, add-one, arith}
use lib.Bits.{bit_or}
use Rattle.std.proofs.lemmas.Bool.{eq-eqb, ne_eqb, or_right, cases_eq}
use Rattle.paths.specs.Digits.{has}
use Rattle.paths.specs.Live.{marks}
use Rattle.paths.proofs.Bits.{has_with}

marks_more : (g : ℕ → Bool → Bool) (first k : ℕ) → marks g first (k + 1) ≡ cond (g k (has (marks g first k) k)) (bit_or (marks g first k) (2 ^ (k + 1))) (marks g first k)
unfolding marks
marks_more g first k = ap (marks g first) (add-one k)

pub marks_none : (g : ℕ → Bool → Bool) (first : ℕ) → first ≡ marks g first 0
unfolding marks
marks_none g first = refl

pub marks_on : (g : ℕ → Bool → Bool) (first k m x : ℕ) (b : Bool) → m ≡ marks g first k → b ≡ g k (has m k) → b ≡ true → x ≡ bit_or m (2 ^ (k + 1)) → x ≡ marks g first (k + 1)
marks_on g first k m x b e q t is =
    is ∙ ap (λ y. cond y (bit_or m (2 ^ (k + 1))) m) (sym t ∙ q) ∙ ap (λ y. cond (g k (has y k)) (bit_or y (2 ^ (k + 1))) y) e ∙ sym (marks_more g first k)

pub marks_off : (g : ℕ → Bool → Bool) (first k m x : ℕ) (b : Bool) → m ≡ marks g first k → b ≡ g k (has m k) → b ≡ false → x ≡ m → x ≡ marks g first (k + 1)
marks_off g first k m x b e q t is =
    is ∙ ap (λ y. cond y (bit_or m (2 ^ (k + 1))) m) (sym t ∙ q) ∙ ap (λ y. cond (g k (has y k)) (bit_or y (2 ^ (k + 1))) y) e ∙ sym (marks_more g first k)

-- Which positions are in the set: g, from the first on.
abbrev pub flags_at : (ℕ → Bool → Bool) → Bool → ℕ → Bool
flags_at g b zero = b
flags_at g b (suc k) = g k (flags_at g b k)

pub record Flags (g : ℕ → Bool → Bool) (b : Bool) (k m : ℕ) : Type 0 where
  pub low : (j : ℕ) → j ≤ k → has m j ≡ flags_at g b j
  pub high : (j : ℕ) → k < j → has m j ≡ false

pub marks_flags : (g : ℕ → Bool → Bool) (first : ℕ) (b : Bool) → ((j : ℕ) → has first j ≡ cond (eqb j 0) b false) → (k : ℕ) → Flags g b k (marks g first k)
unfolding marks
marks_flags g first b begin zero =
    record {
      low = λ j h. let z : j ≡ 0 = omega arith in begin j ∙ ap (λ x. cond x b false) (eq-eqb j 0 z) ∙ ap (flags_at g b) (sym z);
      high = λ j h. begin j ∙ ap (λ x. cond x b false) (ne_eqb j 0 (λ e. omega arith));
    }
marks_flags g first b begin (suc k) = go (g k (has (marks g first k) k)) refl (marks_flags g first b begin k)
  where
    go : (x : Bool) → g k (has (marks g first k) k) ≡ x → Flags g b k (marks g first k) → Flags g b (suc k) (cond x (bit_or (marks g first k) (2 ^ (k + 1))) (marks g first k))
    go true e f =
        record {
          low = λ j h. ⊎_elim
              (λ q. has_with (marks g first k) (k + 1) j ∙ or_right _ _ (eq-eqb (k + 1) j (omega arith)) ∙ sym e ∙ ap (g k) (f.low k (omega arith)) ∙ ap (flags_at g b) (sym q))
              (λ ne. has_with (marks g first k) (k + 1) j ∙ ap (λ x. has (marks g first k) j || x) (ne_eqb (k + 1) j (λ q. ne (omega arith))) ∙ or_none _ ∙ f.low j (omega arith))
              (cases_eq j (suc k));
          high = λ j h. has_with (marks g first k) (k + 1) j ∙ ap (λ x. has (marks g first k) j || x) (ne_eqb (k + 1) j (λ q. omega arith)) ∙ or_none _ ∙ f.high j (omega arith);
        }
      where
        or_none : (x : Bool) → (x || false) ≡ x
        or_none true = refl
        or_none false = refl
    go false e f =
        record {
          low = λ j h. ⊎_elim
              (λ q. f.high j (omega arith) ∙ sym e ∙ ap (g k) (f.low k (omega arith)) ∙ ap (flags_at g b) (sym q))
              (λ ne. f.low j (omega arith))
              (cases_eq j (suc k));
          high = λ j h. f.high j (omega arith);
        }
