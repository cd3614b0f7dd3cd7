use Rattle.std.proofs.Common.{refl}
use Rattle.paths.specs.Walks.{unmarked}
use Rattle.paths.proofs.trail.Trail.new.Goals as goal

pub returns : goal.returns
unfolding unmarked
returns c = refl
