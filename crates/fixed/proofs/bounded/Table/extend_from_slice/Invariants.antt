use Rattle.std.proofs.Common.{◌≡◌, ◌++◌, take}
use Rattle.fixed.specs.Items.{items}
use Rattle.fixed.proofs.bounded.Table.extend_from_slice.Given as goal

abbrev pub invariant-loop-item : goal.invariant-loop-item
invariant-loop-item g l = items l.self ≡ take g.row.N (items l.initial.self ++ take l.item-index l.more)
