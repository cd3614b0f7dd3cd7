use Rattle.std.proofs.Common.{◌-◌, length, take, drop, arith}
use Rattle.std.proofs.lemmas.List.{length-map}
use Rattle.fixed.specs.Rosters.{held, names}
use Rattle.fixed.proofs.Enrolling.{enrolled}
use Rattle.site.specs.Users.{called}
use Rattle.site.proofs.draft.Draft.declare_user.Goals as goal

pub returns-in_err-push : goal.returns-in_err-push
returns-in_err-push c =
    let room = (enrolled 16 (names called c.args.self.now.users) (take (length c.args.body.now - 1) (drop 1 c.args.body.now)) _ c.in_ok-name.ensures.1).room_left in
    absurd (omega (arith, room, c.in_err-push.ensures.0, length-map (held c.args.self.now.users) called))
