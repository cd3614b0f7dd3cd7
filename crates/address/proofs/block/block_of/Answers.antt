use Rattle.std.proofs.Common.{Some, None, sym, ◌∙◌, arith}
use Rattle.address.proofs.Patterns.{without_dot, with_dot, at_last}
use Rattle.address.proofs.block.block_of.Goals as goal

pub returns-in_err-part : goal.returns-in_err-part
returns-in_err-part c =
    c.from_residual.ensures
    ∙ sym (without_dot c.loop-place.place c.loop-place.block c.loop-place.rest.now (omega arith) c.in_err-part.ensures)
    ∙ c.loop-place.invariant

pub returns-in_err-block : goal.returns-in_err-block
returns-in_err-block c =
    c.from_residual-in_err-block.ensures
    ∙ sym (with_dot c.loop-place.place c.loop-place.block c.loop-place.rest.now (omega arith) c.in_ok-part.part.now c.in_ok-part.after.now None c.in_ok-part.ensures c.in_err-block.ensures)
    ∙ c.loop-place.invariant

pub loop-place-preserved : goal.loop-place-preserved
loop-place-preserved c =
    sym (with_dot c.loop-place.place c.loop-place.block c.loop-place.rest.now (omega arith) c.in_ok-part.part.now c.in_ok-part.after.now (Some c.in_ok-block.block) c.in_ok-part.ensures c.in_ok-block.ensures)
    ∙ c.loop-place.invariant

pub returns : goal.returns
returns c =
    c.with_text-2.ensures
    ∙ sym (at_last c.loop-place.place c.loop-place.block c.loop-place.rest.now (omega arith) (omega arith))
    ∙ c.loop-place.invariant
