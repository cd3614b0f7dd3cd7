-- Decimal numbers as bytes.
use Rattle.std.specs.Prelude.{◌≡◌, ℕ, ◌+◌, ◌-◌, ◌*◌, ◌<◌, ◌≤◌, Bool, cond, ◌&&◌, ◌||◌, List, length, Some, None, fold, Option, ◌==◌, nat_le, nat_lt}
use Rattle.std.specs.List.{prefix_len}

-- a byte is a decimal digit
abbrev pub digit : ℕ → Bool
digit b = nat_le 48 b && nat_le b 57

-- the number that a run of digits writes
abbrev pub decimal : List ℕ → ℕ
decimal bs = fold (λ n b. 10 * n + (b - 48)) 0 bs

-- one to four digits write a number
pub record Writes (t : List ℕ) (n : ℕ) : Type 0 where
  pub some : 0 < length t
  pub few : length t ≤ 4
  pub digits : prefix_len digit t ≡ length t
  pub value : decimal t ≡ n

-- the number that one to four digits write; other bytes write none
abbrev pub number : List ℕ → Option ℕ
number bs = cond (length bs == 0 || (nat_lt 4 (length bs) || nat_lt (prefix_len digit bs) (length bs))) None (Some (decimal bs))
