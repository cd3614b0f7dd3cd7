use Rattle.std.proofs.Common.{◌≡◌, ◌-◌}
use Rattle.address.specs.Blocks.{block_from, block_of}
use Rattle.address.proofs.block.block_of.Given as goal

abbrev pub invariant-loop-place : goal.invariant-loop-place
invariant-loop-place l = block_from (3 - l.place) l.place l.block l.rest ≡ block_of l.text
