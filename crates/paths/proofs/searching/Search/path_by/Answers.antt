use Rattle.std.proofs.Common.{◌≡◌, ◌-◌, false, length, get_or, Some, refl, ap, ◌∙◌, arith}
use Rattle.paths.specs.Found.{starting}
use Rattle.paths.specs.Patterns.{items_of}
use Rattle.paths.specs.Roads.{roads_in}
use Rattle.paths.specs.Routes.{first_hit}
use Rattle.paths.specs.Walks.{free}
use Rattle.paths.proofs.Drawing.{start_found, start_none, starts_over, unmarked_free}
use Rattle.paths.proofs.Sweeping.{unmarked_at}
use Rattle.paths.proofs.searching.Search.path_by.Goals as goal

pub loop-number-init : goal.loop-number-init
loop-number-init c =
    let whole : c.args.self.now.roads.now.nodes - 0 ≡ c.args.self.now.roads.now.nodes = omega arith in
    (c.new-trail.ensures, refl, ap (λ x. first_hit (length (items_of c.args.self.now.pattern.now)) (Some c.args.link) (starting (items_of c.args.self.now.pattern.now) (roads_in c.args.self.now.roads.now) 0 x)) whole)

pub find_at_node-requires : goal.find_at_node-requires
find_at_node-requires c =
    record {
      deep = omega (arith, ap free c.loop-number.invariant.0, unmarked_free);
      fresh = ap (λ v. get_or v c.loop-number.number false) c.loop-number.invariant.0 ∙ unmarked_at c.loop-number.number (omega (arith, c.args.self.now.roads.now.few));
    }

pub returns-in-Some : goal.returns-in-Some
returns-in-Some c = start_found (length (items_of c.args.self.now.pattern.now)) (items_of c.args.self.now.pattern.now) (roads_in c.args.self.now.roads.now) c.loop-number.number c.args.self.now.roads.now.nodes c.at_start-live.result (Some c.args.link) c.loop-number.trail.marked c.loop-number-test.true c.loop-number.invariant.0 c.at_start-live.ensures c.loop-number.invariant.2 c.in-Some.len c.loop-number.out c.args.out.now c.find_at_node.new.out c.find_at_node.result c.loop-number.invariant.1 c.in-Some.is c.find_at_node.ensures.drawn

pub loop-number-preserved : goal.loop-number-preserved
loop-number-preserved c =
    let x = start_none (length (items_of c.args.self.now.pattern.now)) (items_of c.args.self.now.pattern.now) (roads_in c.args.self.now.roads.now) c.loop-number.number c.args.self.now.roads.now.nodes c.at_start-live.result (Some c.args.link) c.loop-number.trail.marked c.loop-number-test.true c.loop-number.invariant.0 c.at_start-live.ensures c.loop-number.invariant.2 c.loop-number.out c.find_at_node.new.out c.find_at_node.result c.in_default.is c.find_at_node.ensures.drawn in
    (c.find_at_node.ensures.trail ∙ c.loop-number.invariant.0, x.0 ∙ c.loop-number.invariant.1, x.1)

pub returns : goal.returns
returns c = starts_over (length (items_of c.args.self.now.pattern.now)) (items_of c.args.self.now.pattern.now) (roads_in c.args.self.now.roads.now) c.loop-number.number c.args.self.now.roads.now.nodes (Some c.args.link) c.args.out.now c.loop-number.out c.loop-number-test.false c.loop-number.invariant.1 c.loop-number.invariant.2
