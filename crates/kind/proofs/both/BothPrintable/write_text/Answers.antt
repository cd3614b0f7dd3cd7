use Rattle.std.proofs.Common.{sym}
use Rattle.std.proofs.lemmas.Bool.{cond-true}
use Rattle.kind.proofs.Writing.{both_written}
use Rattle.kind.proofs.both.BothPrintable.write_text.Goals as goal

pub returns-in_ok-write_text : goal.returns-in_ok-write_text
returns-in_ok-write_text g c =
    both_written c.args.out.now _ _ _ c.write_text.new.out c.in_ok-first.first c.in_ok-len.len (cond-true _ _ _ (sym c.if-on_ground.ensures))
    c.in_ok-len.ensures.0 c.in_ok-len.ensures.1 c.in_ok-first.ensures.0 c.in_ok-first.ensures.2
    c.write_text-then-on_ground.new.out c.in_ok-write_text.ensures.2
