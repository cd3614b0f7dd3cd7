use Rattle.std.proofs.Common.{◌≡◌, ◌+◌, ◌*◌, [], length, get_or, drop}
use Rattle.paths.specs.Patterns.{items_of}
use Rattle.paths.specs.Roads.{roads_in}
use Rattle.paths.specs.Routes.{first_hit}
use Rattle.paths.specs.Walks.{free, beyond}
use Rattle.paths.proofs.searching.Search.+find.Given as goal

abbrev pub decreases-find_along_links : goal.decreases-find_along_links
decreases-find_along_links l = 2 * free l.trail.now.marked + 1

abbrev pub decreases-find_at_node : goal.decreases-find_at_node
decreases-find_at_node l = 2 * free l.trail.now.marked

abbrev pub invariant-find_along_links-loop-step : goal.invariant-find_along_links-loop-step
invariant-find_along_links-loop-step l =
    (l.trail.marked ≡ l.initial.trail.marked)
    × (l.out ≡ l.initial.out)
    × (first_hit (length (items_of l.self.pattern.now)) l.tip.unmet (beyond (items_of l.self.pattern.now) (roads_in l.self.roads.now) l.initial.trail.marked l.tip.node.number l.tip.live (drop l.step-index (get_or (roads_in l.self.roads.now) l.tip.node.number [])))
    ≡ first_hit (length (items_of l.self.pattern.now)) l.tip.unmet (beyond (items_of l.self.pattern.now) (roads_in l.self.roads.now) l.initial.trail.marked l.tip.node.number l.tip.live (get_or (roads_in l.self.roads.now) l.tip.node.number [])))
