use Rattle.std.proofs.Common.{◌≡◌, ◌&&◌, rules}
use Rattle.address.specs.Addresses.{in_set}
use Rattle.address.proofs.Choices.{chosen_common}
use Rattle.address.proofs.address.AddressKind.common.Goals as goal
use Rattle.address.proofs.address.AddressKind.common.Goals.{then-contains, else-contains}

pub returns : goal.returns
returns c =
    let p = c.choose-point.result in
    let in_both : c.if-contains.then_some ≡ (in_set c.args.self.now p && in_set c.args.other.now p) = elim c.if-contains.branch [ then-contains w ↦ search rules | else-contains w ↦ search rules ] in
    rw c.then_some.ensures (chosen_common c.args.self.now c.args.other.now p c.if-contains.then_some c.choose-point.ensures in_both)
