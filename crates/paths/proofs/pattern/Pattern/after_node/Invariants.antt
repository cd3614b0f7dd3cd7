use Rattle.std.proofs.Common.{◌≡◌}
use Rattle.paths.specs.Live.{moves, marks}
use Rattle.paths.proofs.pattern.Pattern.after_node.Given as goal

abbrev pub invariant-loop-k : goal.invariant-loop-k
invariant-loop-k l = l.out ≡ marks (moves l.item-items l.live l.node) 0 l.k
