use Rattle.std.proofs.Common.{◌≡◌, ℕ, ◌-◌, false, length, get_or, sym, ap, ◌∙◌, subst, arith}
use Rattle.std.proofs.lemmas.Result.{err_from_is_err_and}
use Rattle.paths.specs.Found.{starting}
use Rattle.paths.specs.Patterns.{items_of}
use Rattle.paths.specs.Roads.{roads_in}
use Rattle.paths.specs.Walks.{gather}
use Rattle.paths.proofs.Counting.{Going, going_none}
use Rattle.paths.proofs.Sweeping.{unmarked_at, sweep_more, sweep_over, sweep_all}
use Rattle.paths.proofs.searching.Search.tally.Goals as goal

pub loop-number-init : goal.loop-number-init
loop-number-init c =
    let items = items_of c.args.self.now.pattern.now in
    let all = starting items (roads_in c.args.self.now.roads.now) 0 c.args.self.now.roads.now.nodes in
    let whole : c.args.self.now.roads.now.nodes - 0 ≡ c.args.self.now.roads.now.nodes = omega arith in (
      c.new-trail.ensures,
      subst (λ (x : ℕ). Going (length items) all (starting items (roads_in c.args.self.now.roads.now) 0 x) 0 c.new-tally.result c.new-tally.result)
          (sym whole) (going_none (length items) all 0 c.new-tally.result c.new-tally.result.within),
    )

pub at_node-requires : goal.at_node-requires
at_node-requires c = record { fresh = ap (λ v. get_or v c.loop-number.number false) c.loop-number.invariant.0 ∙ unmarked_at c.loop-number.number (omega (arith, c.args.self.now.roads.now.few)) }

pub loop-number-preserved : goal.loop-number-preserved
loop-number-preserved c = (
  c.at_node.ensures.trail ∙ c.loop-number.invariant.0,
  sweep_more (length (items_of c.args.self.now.pattern.now)) (items_of c.args.self.now.pattern.now) (roads_in c.args.self.now.roads.now) c.loop-number.number c.args.self.now.roads.now.nodes c.at_start-live.result c.empty.result.bits c.loop-number.trail.marked
      c.new-tally.result c.loop-number.tally c.loop-number-test.true c.loop-number.invariant.0 c.at_start-live.ensures c.empty.ensures.bits c.loop-number.invariant.1
      c.at_node.new.tally c.in_ok-at_node.ensures.counted,
)

pub returns-in_err-at_node : goal.returns-in_err-at_node
returns-in_err-at_node c =
    let p = err_from_is_err_and c.from_residual.result c.from_residual.ensures.1 in
    let over = sweep_over (length (items_of c.args.self.now.pattern.now)) (items_of c.args.self.now.pattern.now) (roads_in c.args.self.now.roads.now) c.loop-number.number c.args.self.now.roads.now.nodes c.at_start-live.result c.empty.result.bits c.loop-number.trail.marked
    c.new-tally.result c.loop-number.tally c.loop-number-test.true c.loop-number.invariant.0 c.at_start-live.ensures c.empty.ensures.bits c.loop-number.invariant.1
    c.in_err-at_node.ensures.counted in
    rw p.1 (omega (arith, over, c.new-tally.ensures.count))

pub returns : goal.returns
returns c =
    let items = items_of c.args.self.now.pattern.now in
    let all = starting items (roads_in c.args.self.now.roads.now) 0 c.args.self.now.roads.now.nodes in
    let k = sweep_all (length items) items (roads_in c.args.self.now.roads.now) c.loop-number.number c.args.self.now.roads.now.nodes c.new-tally.result c.loop-number.tally c.loop-number-test.false c.loop-number.invariant.1 in
    (omega (arith, k.within, c.new-tally.ensures.count), k.found ∙ ap (λ f. gather (length items) 0 f all) c.new-tally.ensures.found)
