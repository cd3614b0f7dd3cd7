use Rattle.std.proofs.Common.{◌≡◌, length, drop, map}
use Rattle.site.specs.Sites.{plan}
use Rattle.paths.specs.Unions.{united}
use Rattle.paths.proofs.uniting.touched.Given as goal

abbrev pub invariant-loop-i : goal.invariant-loop-i
invariant-loop-i g l =
    united (plan l.site).links (length (plan l.site).nodes) l.i l.ports (drop l.i (map g.P.Patterned.items l.patterns))
    ≡ united (plan l.site).links (length (plan l.site).nodes) 0 (record { bits = 0 }) (map g.P.Patterned.items l.patterns)
