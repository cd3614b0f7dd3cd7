use Rattle.std.proofs.Common.{◌≡◌, ◌≤◌, ◌++◌, length, drop}
use Rattle.fixed.specs.Items.{items}
use Rattle.paths.specs.Roads.{steps_of}
use Rattle.paths.proofs.roads.index.steps_of.Given as goal

abbrev pub invariant-loop-i : goal.invariant-loop-i
invariant-loop-i l = (items l.steps ++ steps_of l.i (drop l.i l.links) l.node ≡ steps_of 0 l.links l.node) × (length (items l.steps) ≤ l.i)
