use Rattle.std.proofs.Common.{sym, ap}
use Rattle.lines.specs.Lines.{mark_word}
use Rattle.lines.proofs.lines.mark_word.Goals as goal

pub returns-in-First : goal.returns-in-First
returns-in-First c = sym (ap mark_word c.in-First.is)
