use Rattle.std.proofs.Common.{◌≡◌}
use Rattle.paths.specs.Live.{opens, marks}
use Rattle.paths.proofs.pattern.Pattern.at_start.Given as goal

abbrev pub invariant-loop-k : goal.invariant-loop-k
invariant-loop-k l = l.live ≡ marks (opens l.item-items) 1 l.k
