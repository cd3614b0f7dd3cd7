use Rattle.std.proofs.Common.{sym, subst, arith}
use Rattle.std.proofs.lemmas.Result.{err_from_is_err_and}
use Rattle.sections.specs.Meeting.{Section as Course, read_section}
use Rattle.sections.proofs.Folds.{Sofar, one_more, unread, unmet, ended, passed_on, as_due}
use Rattle.sections.proofs.section.read.Goals as goal

pub returns-in_err-found-clause-is : goal.returns-in_err-found-clause-is
returns-in_err-found-clause-is g c =
    let p = err_from_is_err_and c.from_residual.result c.from_residual.ensures.1 in
    let due = as_due c.args.text.now c.loop-due.at c.in_err-found.ensures.is c.in-Some.ensures.1 in
    passed_on g.S.Section.view _ _ _ p.1 p.2 (unread c.loop-due.invariant.read _ c.in-Some.ensures.0 due)

pub returns-in_err-meet-clause-is : goal.returns-in_err-meet-clause-is
returns-in_err-meet-clause-is g c =
    let p = err_from_is_err_and c.from_residual-in_err-meet.result c.from_residual-in_err-meet.ensures.1 in
    let due = as_due c.args.text.now c.loop-due.at c.in_ok-found.ensures.is c.in-Some.ensures.1 in
    passed_on g.S.Section.view _ _ _ p.1 p.2 (unmet c.loop-due.invariant.read c.in_ok-found.found _ c.in-Some.ensures.0 due c.bytes.ensures c.in_err-meet.ensures.met)

pub loop-due-preserved : goal.loop-due-preserved
loop-due-preserved g c =
    let w = c.in_ok-found.ensures.within in
    let v = g.S.Section.view c.meet.new.self in
    let due = as_due c.args.text.now c.loop-due.at c.in_ok-found.ensures.is c.in-Some.ensures.1 in
    let next = one_more c.loop-due.invariant.read c.in_ok-found.found v c.in-Some.ensures.0 due c.bytes.ensures c.in_ok-meet.ensures.met (omega arith) w.0.1 in
    record {
      read = subst (λ (m : Course g.S.Section.State). Sofar m c.args.text.now v c.in_ok-found.found.to (read_section (g.S.Section.course c.args.section) c.args.text.now (g.S.Section.view c.args.section) c.args.at)) (sym c.in_ok-meet.ensures.same) next;
      inside = λ _. w.0.1;
    }

pub returns-clause-is : goal.returns-clause-is
returns-clause-is g c = ended c.loop-due.invariant.read c.in_default.ensures
