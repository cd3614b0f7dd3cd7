use Rattle.std.proofs.Common.{◌+◌, length}
use Rattle.paths_cases.proofs.brute.+blocks.Given as goal

abbrev pub decreases-blocks : goal.decreases-blocks
decreases-blocks l = length l.items.now + length l.row.now
