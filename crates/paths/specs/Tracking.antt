-- What the live positions of a pattern tell of the nodes so far.
use Rattle.std.specs.Prelude.{ℕ, not, List, ◌∷◌, ◌++◌, length, Decides, ◌==◌}
use Rattle.paths.specs.declared.pattern.Item.{Item}
use Rattle.paths.specs.Digits.{has}
use Rattle.paths.specs.Live.{start, live_after}
use Rattle.paths.specs.Patterns.{Blocks, Stands}

-- some list goes on from the nodes for which the pattern stands
pub record GoesOn (items : List Item) (ns : List ℕ) : Type 0 where
  pub more : List ℕ
  pub stands : Stands items (ns ++ more)

-- some position is live exactly where the pattern can still come to stand, and the last one where its items stand for the nodes
pub record Tracked (items : List Item) : Type 0 where
  pub alive : (n : ℕ) (ns : List ℕ) → Decides (not (live_after items (start items) (n ∷ ns) == 0)) (GoesOn items (n ∷ ns))
  pub full : (ns : List ℕ) → Decides (has (live_after items (start items) ns) (length items)) (Blocks items ns)
