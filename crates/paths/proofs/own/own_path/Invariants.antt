use Rattle.std.proofs.Common.{◌≡◌, List, length, map, take}
use Rattle.site.specs.Sites.{plan}
use Rattle.paths.specs.declared.pattern.Item.{Item}
use Rattle.paths.specs.Paths.{In}
use Rattle.paths.specs.Routes.{Untouched}
use Rattle.paths.proofs.own.own_path.Given as goal

abbrev pub invariant-loop-pattern : goal.invariant-loop-pattern
invariant-loop-pattern g l =
    (l.front ≡ l.initial.front)
    × ((p : List Item) → In p (take l.pattern-index (map g.P.Patterned.items l.patterns)) → Untouched (plan l.site).links (length (plan l.site).nodes) l.port p)
