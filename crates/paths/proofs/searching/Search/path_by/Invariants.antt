use Rattle.std.proofs.Common.{◌≡◌, ◌-◌, length, Some}
use Rattle.paths.specs.Found.{starting}
use Rattle.paths.specs.Patterns.{items_of}
use Rattle.paths.specs.Roads.{roads_in}
use Rattle.paths.specs.Routes.{first_hit}
use Rattle.paths.specs.Walks.{unmarked}
use Rattle.paths.proofs.searching.Search.path_by.Given as goal

abbrev pub invariant-loop-number : goal.invariant-loop-number
invariant-loop-number l =
    (l.trail.marked ≡ unmarked)
    × (l.out ≡ l.initial.out)
    × (first_hit (length (items_of l.self.pattern.now)) (Some l.link) (starting (items_of l.self.pattern.now) (roads_in l.self.roads.now) l.number (l.self.roads.now.nodes - l.number)) ≡ first_hit (length (items_of l.self.pattern.now)) (Some l.link) (starting (items_of l.self.pattern.now) (roads_in l.self.roads.now) 0 l.self.roads.now.nodes))
