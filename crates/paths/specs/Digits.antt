-- Sets of small numbers: a number stands in the set where its binary digit of that number is 1.
use Rattle.std.specs.Prelude.{ℕ, ◌/◌, ◌%◌, ◌^◌, Bool, ◌==◌}

-- whether k stands in the set m
unfoldable pub has : ℕ → ℕ → Bool
has m k = m / 2 ^ k % 2 == 1
