-- The live positions of a pattern, as a set of numbers, and how one more node moves them.
use Rattle.std.specs.Prelude.{ℕ, zero, suc, ◌+◌, ◌^◌, Bool, true, false, cond, ◌&&◌, ◌||◌, List, [], ◌∷◌, length, ◌==◌, bit_or, slice_index_or}
use Rattle.paths.specs.declared.pattern.Item.{Item}
use Rattle.paths.specs.declared.pattern.Item.TheVariants.{Node, Star}
use Rattle.paths.specs.Digits.{has}

-- whether an item is a star
abbrev pub is_star : Item → Bool
is_star (Node m) = false
is_star Star = true

-- whether the position past an item is live: `here` and `past` tell of the item's own position and of the one past it
-- before the node n, and `now` of the item's own after it
abbrev pub goes : Item → ℕ → Bool → Bool → Bool → Bool
goes (Node m) n here past now = m == n && here
goes Star n here past now = past || now

-- the set `first`, with k + 1 added wherever g finds it from whether k is in, for each k below a limit
unfoldable pub marks : (ℕ → Bool → Bool) → ℕ → ℕ → ℕ
marks g first zero = first
marks g first (suc k) = cond (g k (has (marks g first k) k)) (bit_or (marks g first k) (2 ^ (k + 1))) (marks g first k)

-- whether the position past item k is live before any node, where `now` tells of its own
abbrev pub opens : List Item → ℕ → Bool → Bool
opens items k now = is_star (slice_index_or items k (Node 0)) && now

-- whether the position past item k is live after the node n, where `now` tells of its own
abbrev pub moves : List Item → ℕ → ℕ → ℕ → Bool → Bool
moves items live n k now = goes (slice_index_or items k (Node 0)) n (has live k) (has live (k + 1)) now

-- the live positions before any node
abbrev pub start : List Item → ℕ
start items = marks (opens items) 1 (length items)

-- the live positions after one more node
abbrev pub after : List Item → ℕ → ℕ → ℕ
after items live n = marks (moves items live n) 0 (length items)

-- the live positions after some nodes more
unfoldable pub live_after : List Item → ℕ → List ℕ → ℕ
live_after items live [] = live
live_after items live (n ∷ ns) = live_after items (after items live n) ns
