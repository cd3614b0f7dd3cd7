use Rattle.std.proofs.Common.{take, string_bytes}
use Rattle.site.specs.Sites.{plan}
use Rattle.site.specs.Users.{called}
use Rattle.sheet.specs.Sheets.{Appended, each_from, user_line}
use Rattle.sheet.proofs.lines.put_users.Given as goal

abbrev pub invariant-loop-user : goal.invariant-loop-user
invariant-loop-user l =
    Appended (string_bytes l.initial.text) (each_from (λ k user. user_line (plan l.site) k (called user)) 0 (take l.user-index l.user-items)) (string_bytes l.text)
