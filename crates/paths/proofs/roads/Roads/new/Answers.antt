use Rattle.std.proofs.Common.{rules, ◌≡◌, map, length, sym, subst}
use Rattle.fixed.specs.Items.{items}
use Rattle.fixed.proofs.Held.{items_within}
use Rattle.site.specs.Sites.{plan}
use Rattle.paths.specs.Roads.{steps_of, roads_over}
use Rattle.paths.specs.Walks.{Sound}
use Rattle.paths.proofs.Nodes.{node_count_within}
use Rattle.paths.proofs.Ways.{calls_all, roads_sound}
use Rattle.paths.proofs.roads.Roads.new.Goals as goal

pub invariant_of-result : goal.invariant_of-result
unfolding roads_over
invariant_of-result c =
    let links = (plan c.args.site.now).links in
    let ways : map items c.from_fn.result ≡ roads_over links =
    calls_all _ _ items (steps_of 0 links) c.from_fn.result 48 c.from_fn.ensures.items (λ k y q lt call. search rules) in
    record {
      whole = c.from_fn.ensures.items.long;
      sound = subst Sound (sym ways) (roads_sound (length (plan c.args.site.now).nodes) links (node_count_within c.args.site.now) (items_within c.args.site.now.draft.links) c.args.site.now.two_ended);
      few = c.node_count.ensures.within;
    }

pub returns-clause-ways : goal.returns-clause-ways
unfolding roads_over
returns-clause-ways c = calls_all _ _ items (steps_of 0 (plan c.args.site.now).links) c.from_fn.result 48 c.from_fn.ensures.items (λ k y q lt call. search rules)
