-- A walk over the pairs of a list's rules, by the first and then by the second position.
use Rattle.std.specs.Prelude.{◌≡◌, ℕ, ◌+◌, ◌-◌, ◌*◌, ◌<◌, cond, List, length, Some, nat_lt}
use Rattle.std.specs.List.{slice_get}
use Rattle.rules.specs.declared.rule.Rule.{Rule}
use Rattle.pairs.specs.declared.walking.Pair.{Pair}

-- of n rules, how many pairs come at most from the place (i, j) on
abbrev pub left : ℕ → ℕ → ℕ → ℕ
left n i j = (n - i) * (n + 1) - j

-- where the walk goes on: in the same row, or where that ends, in the next
abbrev pub next_place : ℕ → ℕ → ℕ → ℕ × ℕ
next_place n i j = cond (nat_lt (j + 1) n) (i, j + 1) (i + 1, i + 1 + 1)

-- the walk came to the pair at the place (i, j), and goes on at (i', j')
pub record Comes {C : Type 0} (rs : List (Rule C)) (i j i' j' : ℕ) (p : Pair C) : Type 0 where
  pub first_is : p.first ≡ i
  pub second_is : p.second ≡ j
  pub one_is : slice_get rs i ≡ Some p.one.now
  pub other_is : slice_get rs j ≡ Some p.other.now
  pub in_turn : i < j
  pub next : (i', j') ≡ next_place (length rs) i j
