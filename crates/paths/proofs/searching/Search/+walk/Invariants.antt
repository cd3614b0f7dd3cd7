use Rattle.std.proofs.Common.{◌≡◌, ◌+◌, ◌*◌, [], length, get_or, drop}
use Rattle.paths.specs.Patterns.{items_of}
use Rattle.paths.specs.Roads.{roads_in}
use Rattle.paths.specs.Walks.{free, beyond}
use Rattle.paths.proofs.Counting.{Going}
use Rattle.paths.proofs.searching.Search.+walk.Given as goal

abbrev pub decreases-along_links : goal.decreases-along_links
decreases-along_links l = 2 * free l.trail.now.marked + 1

abbrev pub decreases-at_node : goal.decreases-at_node
decreases-at_node l = 2 * free l.trail.now.marked

abbrev pub invariant-along_links-loop-step : goal.invariant-along_links-loop-step
invariant-along_links-loop-step l =
    (l.trail.marked ≡ l.initial.trail.marked)
    × Going (length (items_of l.self.pattern.now))
    (beyond (items_of l.self.pattern.now) (roads_in l.self.roads.now) l.initial.trail.marked l.tip.node.number l.tip.live (get_or (roads_in l.self.roads.now) l.tip.node.number []))
    (beyond (items_of l.self.pattern.now) (roads_in l.self.roads.now) l.initial.trail.marked l.tip.node.number l.tip.live (drop l.step-index (get_or (roads_in l.self.roads.now) l.tip.node.number [])))
    l.tip.used.bits l.initial.tally l.tally
