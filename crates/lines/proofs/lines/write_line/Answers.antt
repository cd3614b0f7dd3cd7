use Rattle.std.proofs.Common.{◌≡◌, ℕ, List, ◌++◌, map, Err, sym, ap, ◌∙◌, subst}
use Rattle.std.proofs.lemmas.Result.{err_from_is_err_and}
use Rattle.std.proofs.lemmas.Option.{MatchOption-at_some, MatchOption-at_none}
use Rattle.kind.specs.Texts.{shown}
use Rattle.rules.specs.Rules.{Ruling, rule_of}
use Rattle.site.specs.Sites.{plan}
use Rattle.lines.specs.Lines.{written, entry_front, Stand, Put, lined}
use Rattle.lines.proofs.Behind.{none_was, some_was, misplaced, untouched}
use Rattle.lines.proofs.lines.write_line.Goals as goal

pub returns-in_err-check_place : goal.returns-in_err-check_place
returns-in_err-check_place g c =
    let p = err_from_is_err_and c.from_residual.result c.from_residual.ensures.1 in
    misplaced (plan c.args.site.now) g.K.Kind.sense g.K.Printable.text (map rule_of c.args.rules.now) c.args.entry.now c.args.out.now c.from_residual.result _ (p.1 ∙ ap Err p.2) c.in_err-check_place.ensures

pub returns-in_err-line : goal.returns-in_err-line
returns-in_err-line g c =
    let p = err_from_is_err_and c.from_residual-in_err-line.result c.from_residual-in_err-line.ensures.1 in
    let w = none_was c.heading.result c.at.result _ (sym c.ok_or.ensures.value ∙ c.in_err-line.was) in
    untouched (plan c.args.site.now) g.K.Kind.sense g.K.Printable.text (map rule_of c.args.rules.now) c.args.entry.now c.args.out.now c.from_residual-in_err-line.result
    (p.1 ∙ ap Err (p.2 ∙ w.1 ∙ c.at.ensures)) c.in_ok-check_place.ensures (MatchOption-at_none _ _ w.0 c.heading.ensures)

pub returns : goal.returns
returns g c =
    let s = plan c.args.site.now in
    let rs = map rule_of c.args.rules.now in
    let e = c.args.entry.now in
    let p = shown g.K.Kind.sense g.K.Printable.text e.point in
    let line = c.in_ok-line.line in
    let at = c.in_ok-check_place.ensures in
    let w : (q : Ruling g.row.K.Denot) × (r : Ruling g.row.K.Denot) × Stand s rs e.first e.second e.port q r × (written line ≡ entry_front s q r e.mark e.port e.class) =
    MatchOption-at_some _ _ line (some_was c.heading.result c.at.result line (sym c.ok_or.ensures.value ∙ c.in_ok-line.was)) c.heading.ensures in
    lined {q = w.0} {r = w.1} at.port_is at.class_is at.point_is w.2
    (subst (λ (z : List ℕ). Put (z ++ p) c.args.out.now c.put_with_point.result c.put_with_point.new.out) (c.as_slice.ensures ∙ w.3) c.put_with_point.ensures)
