use Rattle.std.proofs.Common.{take, string_bytes}
use Rattle.site.specs.Sites.{plan}
use Rattle.sheet.specs.Sheets.{Appended, each_from, link_note}
use Rattle.sheet.proofs.lines.put_link_notes.Given as goal

abbrev pub invariant-loop-i : goal.invariant-loop-i
invariant-loop-i l = Appended (string_bytes l.initial.text) (each_from (link_note (plan l.site) l.node) 0 (take l.i-counter l.link-items)) (string_bytes l.text)
