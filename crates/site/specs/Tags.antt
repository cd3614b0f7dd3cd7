-- The tags of a map's fields.
use Rattle.std.specs.Prelude.{ℕ, cond, Ok, Err, Result, ◌==◌}
use Rattle.site.specs.declared.refusals.Cause.{Cause}
use Rattle.site.specs.declared.refusals.Cause.TheVariants.{UnknownTag}
use Rattle.site.specs.declared.tags.Tag.{Tag}
use Rattle.site.specs.declared.tags.Tag.TheVariants.{Node, Link, Class, User, Reading}

abbrev pub tagged : ℕ → Result Tag Cause
tagged b =
    cond (b == 1) (Ok Node)
    (cond (b == 2) (Ok Link)
    (cond (b == 3) (Ok Class)
    (cond (b == 4) (Ok User)
    (cond (b == 5) (Ok Reading)
    (Err UnknownTag)))))
