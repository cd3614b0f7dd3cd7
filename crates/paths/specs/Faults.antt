-- The cause by which a refused pattern is refused.
use Rattle.site.specs.declared.refusals.Cause.{Cause}
use Rattle.site.specs.declared.refusals.Cause.TheVariants as cause
use Rattle.paths.specs.declared.finding.Fault.{Fault}
use Rattle.paths.specs.declared.finding.Fault.TheVariants.{TooMany, NoPath}

-- the cause by which a fault of the search is refused
abbrev pub cause_of : Fault → Cause
cause_of TooMany = cause.TooManyPaths
cause_of NoPath = cause.NoPath
