use Rattle.std.proofs.Common.{length}
use Rattle.site.specs.Plans.{plan_of}
use Rattle.site.proofs.Folds.{Sofar}
use Rattle.site.proofs.reader.declare_all.Given as goal

abbrev pub invariant-loop-rest : goal.invariant-loop-rest
invariant-loop-rest l = Sofar l.bytes l.at (plan_of l.draft) l.rest

abbrev pub decreases-loop-rest : goal.decreases-loop-rest
decreases-loop-rest l = length l.rest
