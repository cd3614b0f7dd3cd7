use Rattle.std.proofs.Common.{take, string_bytes}
use Rattle.std.specs.List.{flat_map}
use Rattle.fixed.specs.Names.{spelling}
use Rattle.sheet.specs.Sheets.{Appended, name_line}
use Rattle.sheet.proofs.lines.put_names.Given as goal

abbrev pub invariant-loop-name : goal.invariant-loop-name
invariant-loop-name l = Appended (string_bytes l.initial.text) (flat_map (λ name. name_line l.word (spelling name)) (take l.name-index l.names)) (string_bytes l.text)
