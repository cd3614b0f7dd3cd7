use Rattle.std.proofs.Common.{ℕ, List, ◌++◌, codes, get_or, string_bytes, sym, ap, ◌∙◌}
use Rattle.std.proofs.lemmas.List.{get_or-map}
use Rattle.site.specs.Sites.{plan}
use Rattle.site.specs.Users.{called, rank}
use Rattle.sheet.specs.Sheets.{Appended, count, user_line}
use Rattle.sheet.proofs.Putting.{each_more, named}
use Rattle.sheet.proofs.lines.put_users.Goals as goal

pub loop-user-preserved : goal.loop-user-preserved
loop-user-preserved c =
    let users = c.users-user-items.result.now in
    let i = c.loop-user.user-index in
    let user = c.user-item.result in
    let line : Appended (string_bytes c.loop-user.text) (codes "user " ++ (called user ++ (codes " " ++ count user.rank (codes "\n")))) (string_bytes c.writeln.new.self) = record { is = c.in_ok-writeln.ensures.bytes } in
    each_more _ (λ k u. user_line (plan c.args.site.now) k (called u)) users i user c.loop-user.invariant c.loop-user-test.true
    (named _ (ap (λ u. codes "user " ++ (called u ++ (codes " " ++ count (rank u) (codes "\n")))) c.user-item.is
    ∙ ap (λ n. codes "user " ++ (called (get_or users i user) ++ (codes " " ++ count n (codes "\n")))) (sym (get_or-map rank users i user 0 c.loop-user-test.true) ∙ ap (λ (rs : List ℕ). get_or rs i 0) c.users-user-items.ensures.ranks)) line)
