use Rattle.std.proofs.Common.{◌++◌, take, ap, ◌∙◌}
use Rattle.std.proofs.lemmas.List.{take_all}
use Rattle.fixed.specs.Items.{items}
use Rattle.fixed.proofs.Held.{items_within}
use Rattle.fixed.proofs.Cutting.{put_none, put_more}
use Rattle.fixed.proofs.bounded.Table.extend_from_slice.Goals as goal

pub loop-item-init : goal.loop-item-init
loop-item-init g c = put_none g.row.N (items c.args.self.now) c.args.more.now (items_within c.args.self.now)

pub loop-item-preserved : goal.loop-item-preserved
loop-item-preserved g c = put_more g.row.N (items c.args.self.now) c.args.more.now c.loop-item.item-index c.item-item.result c.loop-item.self _ c.push.result c.loop-item-test.true c.item-item.is c.loop-item.invariant c.push.ensures

pub returns : goal.returns
returns g c = c.loop-item.invariant ∙ ap (λ z. take g.row.N (items c.args.self.now ++ z)) (take_all _ _ c.loop-item-test.false)
