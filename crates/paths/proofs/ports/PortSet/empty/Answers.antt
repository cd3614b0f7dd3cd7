use Rattle.std.proofs.Common.{refl}
use Rattle.std.proofs.lemmas.Bool.{and_right}
use Rattle.paths.specs.Digits.{has}
use Rattle.paths.specs.PortSets.{is_port, number_of}
use Rattle.paths.proofs.Bits.{has_none}
use Rattle.paths.proofs.ports.PortSet.empty.Goals as goal

pub returns : goal.returns
returns c = record { bits = refl; none = λ ls q. and_right (is_port ls q) (has 0 (number_of ls q)) (has_none (number_of ls q)) }
