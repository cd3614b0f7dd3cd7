use Rattle.std.proofs.Common.{Err, ap, ◌∙◌, sym}
use Rattle.std.proofs.lemmas.Result.{err_from_is_err_and}
use Rattle.kind.specs.Texts.{shown}
use Rattle.lines.proofs.Behind.{none_put, none_was}
use Rattle.lines.proofs.lines.put_with_point.Goals as goal

pub returns-in_err-len : goal.returns-in_err-len
returns-in_err-len g c =
    let p = err_from_is_err_and c.from_residual.result c.from_residual.ensures.1 in
    let w = none_was c.write_text.result c.at-2.result _ (sym c.ok_or.ensures.value ∙ c.in_err-len.was) in
    none_put c.args.out.now c.args.text.now (shown g.K.Kind.sense g.K.Printable.text c.args.point.now) c.write_text.new.out c.if-text-out.false c.from_residual.result c.write_text.result (p.1 ∙ ap Err (p.2 ∙ w.1 ∙ c.at-2.ensures)) w.0 c.write_text.ensures
