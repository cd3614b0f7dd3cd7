use Rattle.std.proofs.Common.{◌<◌, [], ◌∷◌, ◌++◌, length, sym, ap, ◌∙◌, arith}
use Rattle.fixed.specs.Items.{items}
use Rattle.fixed.proofs.Held.{pushed}
use Rattle.paths.specs.Roads.{steps_of}
use Rattle.paths.proofs.Ways.{steps_all, step_none, step_some}
use Rattle.paths.proofs.roads.index.steps_of.Goals as goal
use Rattle.paths.proofs.roads.index.steps_of.Goals.{then-ends_at, else-ends_at}

pub loop-i-init : goal.loop-i-init
loop-i-init c = (ap (λ x. x ++ steps_of 0 c.args.links.now c.args.node) c.new-steps.ensures, omega (arith, ap length c.new-steps.ensures))

pub loop-i-preserved : goal.loop-i-preserved
loop-i-preserved c =
    let room : length (items c.loop-i.steps) < 64 = omega (arith, c.loop-i.invariant.1, c.loop-i-test.true, c.requires) in
    let all = steps_of 0 c.args.links.now c.args.node in
    elim c.if-ends_at.branch [
      | then-ends_at w ↦ rw w.steps-is (step_some c.args.links.now c.args.node c.loop-i.i (items c.loop-i.steps) (items w.push.new.self) all c.loop-i-test.true (sym c.ends_at.ensures ∙ w.if-ends_at.true) c.loop-i.invariant.1
          (pushed _ 64 _ _ _ w.push.result w.push.ensures room ∙ ap (λ m. items c.loop-i.steps ++ record { link = c.loop-i.i; node = m } ∷ []) w.far_end.ensures) c.loop-i.invariant.0)
      | else-ends_at w ↦ rw w.steps-is (
        step_none c.args.links.now c.args.node c.loop-i.i (items c.loop-i.steps) all c.loop-i-test.true (sym c.ends_at.ensures ∙ w.if-ends_at.false) c.loop-i.invariant.0,
        omega (arith, c.loop-i.invariant.1),
      )
    ]

pub returns : goal.returns
returns c = steps_all c.args.links.now c.args.node c.loop-i.i (items c.loop-i.steps) (steps_of 0 c.args.links.now c.args.node) c.loop-i-test.false c.loop-i.invariant.0
