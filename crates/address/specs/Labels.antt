-- An address as text: four numbers with dots between.
use Rattle.std.specs.Prelude.{ℕ, ◌+◌, ◌/◌, ◌%◌, cond, List, [], ◌∷◌, ◌++◌, nat_le, slice_index}

-- a number below 1000 in digits, without leading zeros
abbrev pub digits_of : ℕ → List ℕ
digits_of n = cond (nat_le 100 n) ((48 + n / 100) ∷ []) [] ++ (cond (nat_le 10 n) ((48 + n / 10 % 10) ∷ []) [] ++ ((48 + n % 10) ∷ []))

-- an address as text
abbrev pub address_text : List ℕ → List ℕ
address_text p =
    digits_of (slice_index p 0) ++ (46 ∷ (digits_of (slice_index p 1) ++ (46 ∷ (digits_of (slice_index p 2) ++ (46 ∷ digits_of (slice_index p 3))))))
