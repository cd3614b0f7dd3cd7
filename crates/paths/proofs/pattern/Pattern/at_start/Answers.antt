use Rattle.std.proofs.Common.{◌≡◌, ◌∙◌}
use Rattle.paths.specs.Digits.{has}
use Rattle.paths.specs.Live.{opens}
use Rattle.paths.proofs.Marks.{marks_none, marks_on, marks_off}
use Rattle.paths.proofs.pattern.Pattern.at_start.Goals as goal
use Rattle.paths.proofs.pattern.Pattern.at_start.Goals.{then-opens_on, else-opens_on}

pub loop-k-init : goal.loop-k-init
loop-k-init c = marks_none (opens c.items-item-items.result.now) 1

pub loop-k-preserved : goal.loop-k-preserved
loop-k-preserved c =
    let g = opens c.items-item-items.result.now in
    let found : c.opens_on.result ≡ g c.loop-k.k (has c.loop-k.live c.loop-k.k) = simp c.is_live.ensures at c.opens_on.ensures in
    elim c.if-opens_on.branch [
      | then-opens_on w ↦ marks_on g 1 c.loop-k.k c.loop-k.live c.if-opens_on.live c.opens_on.result c.loop-k.invariant found w.if-opens_on.true (w.live-is ∙ w.with-live.ensures)
      | else-opens_on w ↦ marks_off g 1 c.loop-k.k c.loop-k.live c.if-opens_on.live c.opens_on.result c.loop-k.invariant found w.if-opens_on.false w.live-is
    ]
