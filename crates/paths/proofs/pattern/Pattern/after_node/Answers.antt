use Rattle.std.proofs.Common.{◌≡◌, ◌∙◌}
use Rattle.paths.specs.Digits.{has}
use Rattle.paths.specs.Live.{moves}
use Rattle.paths.proofs.Marks.{marks_none, marks_on, marks_off}
use Rattle.paths.proofs.pattern.Pattern.after_node.Goals as goal
use Rattle.paths.proofs.pattern.Pattern.after_node.Goals.{then-goes_on, else-goes_on}

pub loop-k-init : goal.loop-k-init
loop-k-init c = marks_none (moves c.items-item-items.result.now c.args.live c.args.node) 0

pub loop-k-preserved : goal.loop-k-preserved
loop-k-preserved c =
    let g = moves c.items-item-items.result.now c.args.live c.args.node in
    let found : c.goes_on.result ≡ g c.loop-k.k (has c.loop-k.out c.loop-k.k) = c.goes_on.ensures in
    elim c.if-goes_on.branch [
      | then-goes_on w ↦ marks_on g 0 c.loop-k.k c.loop-k.out c.if-goes_on.out c.goes_on.result c.loop-k.invariant found w.if-goes_on.true (w.out-is ∙ w.with-out.ensures)
      | else-goes_on w ↦ marks_off g 0 c.loop-k.k c.loop-k.out c.if-goes_on.out c.goes_on.result c.loop-k.invariant found w.if-goes_on.false w.out-is
    ]
