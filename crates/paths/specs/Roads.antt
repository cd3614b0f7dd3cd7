-- The ways on from each node: its links, each with the node at the other end.
use Rattle.std.specs.Prelude.{ℕ, ◌+◌, cond, List, [], ◌∷◌, ◌++◌, map, Some, None, Option, ◌==◌}
use Rattle.std.specs.List.{range_with_len}
use Rattle.fixed.specs.Items.{items}
use Rattle.site.specs.declared.parts.Link.{Link}
use Rattle.paths.specs.declared.roads.Step.{Step}
use Rattle.paths.specs.declared.roads.Roads.{Roads}

-- the node at the other end of a link
abbrev pub far_end : Link → ℕ → Option ℕ
far_end l n = cond (l.a == n) (Some l.b) (cond (l.b == n) (Some l.a) None)

-- the way over link i, where it leads to a node
abbrev pub over : ℕ → Option ℕ → List Step
over i None = []
over i (Some m) = record { link = i; node = m } ∷ []

-- the ways on from a node over links numbered from i on
unfoldable pub steps_of : ℕ → List Link → ℕ → List Step
steps_of i [] n = []
steps_of i (l ∷ ls) n = over i (far_end l n) ++ steps_of (i + 1) ls n

-- the ways on from each of 48 nodes
unfoldable pub roads_over : List Link → List (List Step)
roads_over ls = map (steps_of 0 ls) (range_with_len 0 48)

-- the ways on that an index has
abbrev pub roads_in : Roads → List (List Step)
roads_in r = map items r.of
