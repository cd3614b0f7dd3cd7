use Rattle.std.proofs.Common.{refl}
use Rattle.paths.proofs.Bits.{has_or}
use Rattle.paths.proofs.ports.PortSet.union.Goals as goal

pub returns : goal.returns
returns c = record { bits = refl; each = λ k. has_or c.args.self.bits c.args.other.bits k }
