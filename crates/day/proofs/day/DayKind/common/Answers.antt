use Rattle.std.proofs.Common.{◌≡◌, true, false, ◌&&◌, rules}
use Rattle.std.proofs.lemmas.Iterator.{first_from_Range}
use Rattle.day.specs.Days.{left}
use Rattle.day.proofs.Found.{least_found}
use Rattle.day.proofs.day.DayKind.common.Goals as goal

pub returns : goal.returns
returns c =
    least_found c.args.self.now c.args.other.now _
    (first_from_Range _ _ _ _ (λ p. (left c.args.self.now p && left c.args.other.now p) ≡ true) (λ p. (left c.args.self.now p && left c.args.other.now p) ≡ false) c.find.ensures.ran (λ x q k. search rules) (λ x q k. search rules))
