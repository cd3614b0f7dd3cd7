use Rattle.std.proofs.Common.{◌≡◌, ◌-◌, length}
use Rattle.paths.specs.Found.{starting}
use Rattle.paths.specs.Patterns.{items_of}
use Rattle.paths.specs.Roads.{roads_in}
use Rattle.paths.specs.Walks.{unmarked}
use Rattle.paths.proofs.Counting.{Going}
use Rattle.paths.proofs.searching.Search.tally.Given as goal

abbrev pub invariant-loop-number : goal.invariant-loop-number
invariant-loop-number l =
    (l.trail.marked ≡ unmarked)
    × Going (length (items_of l.self.pattern.now)) (starting (items_of l.self.pattern.now) (roads_in l.self.roads.now) 0 l.self.roads.now.nodes)
    (starting (items_of l.self.pattern.now) (roads_in l.self.roads.now) l.number (l.self.roads.now.nodes - l.number)) 0 l.initial.tally l.tally
