use Rattle.std.proofs.Common.{[]}
use Rattle.fixed.proofs.Held.{items_within}
use Rattle.lines.specs.Lines.{written}
use Rattle.fixed.proofs.Cutting.{put_none}
use Rattle.lines.proofs.line.Line.put_name.Goals as goal

pub returns-in_default : goal.returns-in_default
returns-in_default c = rw c.in_default.is (put_none 128 (written c.args.self.now) [] (items_within c.args.self.now.text))
