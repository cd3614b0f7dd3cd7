use Rattle.std.proofs.Common.{take, string_bytes}
use Rattle.fixed.specs.Names.{spelling}
use Rattle.site.specs.Sites.{plan}
use Rattle.sheet.specs.Sheets.{Appended, each_from, node_note}
use Rattle.sheet.proofs.lines.put_notes.Given as goal

abbrev pub invariant-loop-i : goal.invariant-loop-i
invariant-loop-i l = Appended (string_bytes l.initial.text) (each_from (λ k name. node_note (plan l.site) k (spelling name)) 0 (take l.i l.name-items)) (string_bytes l.text)
