use Rattle.kind.specs.PairsLemmas.{pair_laws}
use Rattle.kind.proofs.both.pair.Goals as goal

pub returns-clause-lawful : goal.returns-clause-lawful
returns-clause-lawful g c = pair_laws g.A.Kind.sense g.B.Kind.sense g.met.A.Kind.laws g.met.B.Kind.laws
