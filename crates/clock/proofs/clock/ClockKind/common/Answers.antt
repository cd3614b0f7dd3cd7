use Rattle.clock.proofs.Earliest.{earliest}
use Rattle.clock.proofs.clock.ClockKind.common.Goals as goal

pub returns : goal.returns
returns c = earliest c.args.self.now c.args.other.now c.min.result c.max.result (cc) (cc) _ c.first_in_both.ensures
