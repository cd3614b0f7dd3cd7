use Rattle.std.proofs.Common.{take, string_bytes}
use Rattle.std.specs.List.{flat_map}
use Rattle.site.specs.Sites.{plan}
use Rattle.sheet.specs.Sheets.{Appended, link_line}
use Rattle.sheet.proofs.lines.put_links.Given as goal

abbrev pub invariant-loop-link : goal.invariant-loop-link
invariant-loop-link l = Appended (string_bytes l.initial.text) (flat_map (link_line (plan l.site)) (take l.link-index l.link-items)) (string_bytes l.text)
