use Rattle.std.proofs.Common.{sym, subst}
use Rattle.words.specs.Words.{More}
use Rattle.words.proofs.Runs.{more_law, more_rest}
use Rattle.words.proofs.blanks.more.Goals as goal

pub returns : goal.returns
returns c =
    let e = more_rest c.args.text.now c.args.place c.min-from.result c.min-from.ensures _ c.blank_run.ensures.is in
    record { is = e; law = subst (More c.args.text.now c.args.place) (sym e) (more_law c.args.text.now c.args.place) }
