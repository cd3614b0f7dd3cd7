-- Some value is free at each part: a list excludes no more values there than it has comparisons.
use Rattle.std.proofs.Common.{◌≡◌, ℕ, zero, suc, ◌+◌, ◌<◌, ◌≤◌, true, cond, ltb, Some, None, Option, List, [], ◌∷◌, length, refl, ⊎_elim, arith}
use Rattle.std.proofs.lemmas.Bool.{both_ways, or_cases}
use Rattle.std.proofs.lemmas.Bool.Decides.{nat_tests}
use Rattle.address.specs.declared.entry.Entry.{Entry}
use Rattle.address.specs.declared.entry.Entry.TheVariants.{In, Out}
use Rattle.address.specs.Blocks.{part_at, is_number}
use Rattle.address.specs.Choices.{excluded_at}
use Rattle.address.specs.Entries.{excludes}

-- one where a part is a number below n
abbrev number_below : ℕ → Option ℕ → ℕ
number_below n None = 0
number_below n (Some m) = cond (ltb m n) 1 0

number_le : (n : ℕ) (o : Option ℕ) → number_below n o ≤ 1
number_le n None = omega arith
number_le n (Some m) = grind (arith, nat_tests)

number_more : (n : ℕ) (o : Option ℕ) → number_below n o ≤ number_below (suc n) o
number_more n None = omega arith
number_more n (Some m) = grind (arith, nat_tests)

number_new : (n : ℕ) (o : Option ℕ) → is_number o n ≡ true → number_below n o + 1 ≤ number_below (suc n) o
number_new n None h = absurd (both_ways _ refl h)
number_new n (Some m) h = grind (arith, nat_tests)

-- one where a comparison excludes a value below n at a part
abbrev one : ℕ → ℕ → Entry → ℕ
one i n (In b) = 0
one i n (Out b) = number_below n (part_at b i)

-- how many comparisons exclude a value below n at a part
abbrev below : ℕ → ℕ → List Entry → ℕ
below i n [] = 0
below i n (e ∷ es) = one i n e + below i n es

one_le : (i n : ℕ) (e : Entry) → one i n e ≤ 1
one_le i n (In b) = omega arith
one_le i n (Out b) = number_le n (part_at b i)

one_more : (i n : ℕ) (e : Entry) → one i n e ≤ one i (suc n) e
one_more i n (In b) = omega arith
one_more i n (Out b) = number_more n (part_at b i)

one_new : (i n : ℕ) (e : Entry) → excludes i n e ≡ true → one i n e + 1 ≤ one i (suc n) e
one_new i n (In b) h = absurd (both_ways _ refl h)
one_new i n (Out b) h = number_new n (part_at b i) h

below_le : (i n : ℕ) (es : List Entry) → below i n es ≤ length es
below_le i n [] = omega arith
below_le i n (e ∷ es) = omega (arith, one_le i n e, below_le i n es)

below_more : (i n : ℕ) (es : List Entry) → below i n es ≤ below i (suc n) es
below_more i n [] = omega arith
below_more i n (e ∷ es) = omega (arith, one_more i n e, below_more i n es)

below_new : (i n : ℕ) (es : List Entry) → excluded_at i n es ≡ true → below i n es + 1 ≤ below i (suc n) es
below_new i n [] h = absurd (both_ways _ refl h)
below_new i n (e ∷ es) h =
    ⊎_elim
    (λ here. omega (arith, one_new i n e here, below_more i n es))
    (λ later. omega (arith, one_more i n e, below_new i n es later))
    (or_cases (excludes i n e) (excluded_at i n es) h)

all_below : (i : ℕ) (es : List Entry) (n : ℕ) → ((u : ℕ) → u < n → excluded_at i u es ≡ true) → n ≤ below i n es
all_below i es zero h = omega arith
all_below i es (suc n) h = omega (arith, all_below i es n (λ u k. h u (omega arith)), below_new i n es (h n (omega arith)))

-- as many values from 0 on as are excluded, so many comparisons there are
pub excluded_few : (i : ℕ) (es : List Entry) (n : ℕ) → ((u : ℕ) → u < n → excluded_at i u es ≡ true) → n ≤ length es
excluded_few i es n h = omega (arith, all_below i es n h, below_le i n es)
