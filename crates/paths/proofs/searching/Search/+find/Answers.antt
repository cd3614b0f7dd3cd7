use Rattle.std.proofs.Common.{◌≡◌, ◌+◌, ◌*◌, ◌<◌, ◌≤◌, true, false, ◌&&◌, [], length, get_or, sym, refl, ap, ◌∙◌, arith}
use Rattle.paths.specs.declared.trail.Trail.{Trail}
use Rattle.std.specs.Option.{is_none}
use Rattle.paths.specs.Digits.{has}
use Rattle.paths.specs.Patterns.{items_of}
use Rattle.paths.specs.Roads.{roads_in}
use Rattle.paths.specs.Walks.{free}
use Rattle.paths.proofs.Counting.{restored, free_mark}
use Rattle.paths.proofs.Hits.{ends_yes, ends_not_full, ends_unmet, way_found, way_none, way_back, ways_over, node_dead, node_ends, node_none, node_found}
use Rattle.paths.proofs.searching.Search.+find.Goals as goal
use Rattle.paths.proofs.searching.Search.+find.Goals.{find_at_node-else-stands-via-then-stands+else-is_none, find_at_node-else-stands-via-else-stands, find_along_links-then-not-has+in_default, find_along_links-else-not-has}

pub find_along_links-returns-in-Some : goal.find_along_links-returns-in-Some
find_along_links-returns-in-Some t c =
    record {
      trail = c.find_at_node.ensures.trail ∙ c.loop-step.invariant.0;
      drawn = way_found (length (items_of c.args.self.now.pattern.now)) (items_of c.args.self.now.pattern.now) (roads_in c.args.self.now.roads.now) c.loop-step.trail.marked c.args.trail.now.marked c.args.tip.node.number c.args.tip.live c.loop-step.step-index c.args.tip.unmet (get_or (roads_in c.args.self.now.roads.now) c.args.tip.node.number []) c.at-step-items.result.now (record { link = 0; node = 0 }) (get_or c.at-step-items.result.now c.loop-step.step-index (record { link = 0; node = 0 })) c.loop-step-test.true c.at-step-items.ensures refl c.loop-step.invariant.0 c.loop-step.invariant.2 c.has.result c.without-unmet.result c.args.tip.depth c.in-Some.len c.loop-step.out c.args.out.now c.find_at_node.new.out c.find_at_node.result c.has.ensures c.if-not-has.true c.without-unmet.ensures c.loop-step.invariant.1 c.in-Some.is c.find_at_node.ensures.drawn;
    }

pub find_along_links-loop-step-preserved : goal.find_along_links-loop-step-preserved
find_along_links-loop-step-preserved t c =
    elim c.if-not-has.branch [
      | find_along_links-then-not-has+in_default w ↦
          let x = way_none (length (items_of c.args.self.now.pattern.now)) (items_of c.args.self.now.pattern.now) (roads_in c.args.self.now.roads.now) c.loop-step.trail.marked c.args.trail.now.marked c.args.tip.node.number c.args.tip.live c.loop-step.step-index c.args.tip.unmet (get_or (roads_in c.args.self.now.roads.now) c.args.tip.node.number []) c.at-step-items.result.now (record { link = 0; node = 0 }) (get_or c.at-step-items.result.now c.loop-step.step-index (record { link = 0; node = 0 })) c.loop-step-test.true c.at-step-items.ensures refl c.loop-step.invariant.0 c.loop-step.invariant.2 c.has.result w.without-unmet.result c.args.tip.depth c.loop-step.out w.find_at_node.new.out w.find_at_node.result c.has.ensures w.if-not-has.true w.without-unmet.ensures w.in_default.is w.find_at_node.ensures.drawn in
          (ap (λ (x : Trail). x.marked) w.trail-is ∙ w.find_at_node.ensures.trail ∙ c.loop-step.invariant.0, w.out-is ∙ x.0 ∙ c.loop-step.invariant.1, x.1)
      | find_along_links-else-not-has w ↦
          (ap (λ (x : Trail). x.marked) w.trail-is ∙ c.loop-step.invariant.0, w.out-is ∙ c.loop-step.invariant.1, way_back (length (items_of c.args.self.now.pattern.now)) (items_of c.args.self.now.pattern.now) (roads_in c.args.self.now.roads.now) c.loop-step.trail.marked c.args.trail.now.marked c.args.tip.node.number c.args.tip.live c.loop-step.step-index c.args.tip.unmet (get_or (roads_in c.args.self.now.roads.now) c.args.tip.node.number []) c.at-step-items.result.now (record { link = 0; node = 0 }) (get_or c.at-step-items.result.now c.loop-step.step-index (record { link = 0; node = 0 })) c.loop-step-test.true c.at-step-items.ensures refl c.loop-step.invariant.0 c.loop-step.invariant.2 c.has.result c.has.ensures w.if-not-has.false)
    ]

pub find_along_links-returns : goal.find_along_links-returns
find_along_links-returns t c =
    let past : length (get_or (roads_in c.args.self.now.roads.now) c.args.tip.node.number []) ≤ c.loop-step.step-index = omega (arith, c.loop-step-test.false, ap length c.at-step-items.ensures) in
    record {
      trail = c.loop-step.invariant.0;
      drawn = ways_over (length (items_of c.args.self.now.pattern.now)) (items_of c.args.self.now.pattern.now) (roads_in c.args.self.now.roads.now) c.args.trail.now.marked c.args.tip.node.number c.args.tip.live c.loop-step.step-index c.args.tip.unmet (get_or (roads_in c.args.self.now.roads.now) c.args.tip.node.number []) c.args.tip.depth c.args.out.now c.loop-step.out past c.loop-step.invariant.1 c.loop-step.invariant.2;
    }

pub find_along_links-find_at_node-requires : goal.find_along_links-find_at_node-requires
find_along_links-find_at_node-requires t c =
    let frees : free c.loop-step.trail.marked ≡ free c.args.trail.now.marked = ap free c.loop-step.invariant.0 in
    let falls : 2 * free c.loop-step.trail.marked < t = omega (arith, frees, c.decreases) in
    (falls, (omega (arith, c.requires.deep, frees), sym c.has.ensures ∙ c.if-not-has.true))

pub find_at_node-returns-then-live-eq0 : goal.find_at_node-returns-then-live-eq0
find_at_node-returns-then-live-eq0 t c = record { trail = refl; drawn = node_dead (length (items_of c.args.self.now.pattern.now)) (items_of c.args.self.now.pattern.now) (roads_in c.args.self.now.roads.now) c.args.trail.now.marked c.args.tip.node.number c.args.tip.live c.after_node-live.result c.args.tip.unmet c.args.tip.depth c.args.out.now (omega (arith, c.args.trail.now.whole, c.args.tip.node.within)) c.requires.fresh c.after_node-live.ensures c.if-live-eq0.true }

pub find_at_node-bounds-out-tip : goal.find_at_node-bounds-out-tip
find_at_node-bounds-out-tip t c = omega (arith, free_mark c.args.trail.now.marked c.args.tip.node.number (omega (arith, c.args.trail.now.whole, c.args.tip.node.within)) c.requires.fresh, c.requires.deep, c.told-out)

pub find_at_node-returns-then-is_none : goal.find_at_node-returns-then-is_none
find_at_node-returns-then-is_none t c =
    let yes : (has c.after_node-live.result (length (items_of c.args.self.now.pattern.now)) && is_none c.args.tip.unmet) ≡ true = ends_yes (has c.after_node-live.result (length (items_of c.args.self.now.pattern.now))) c.stands.result c.args.tip.unmet c.is_none.result c.stands.ensures c.is_none.ensures c.if-stands.true c.if-is_none.true in
    record { trail = refl; drawn = node_ends (length (items_of c.args.self.now.pattern.now)) (items_of c.args.self.now.pattern.now) (roads_in c.args.self.now.roads.now) c.args.trail.now.marked c.args.tip.node.number c.args.tip.live c.after_node-live.result c.args.tip.unmet c.args.tip.depth c.args.out.now (omega (arith, c.args.trail.now.whole, c.args.tip.node.within)) c.requires.fresh c.after_node-live.ensures c.if-live-eq0.false yes }

pub find_at_node-find_along_links-requires : goal.find_at_node-find_along_links-requires
find_at_node-find_along_links-requires t c =
    let fewer = free_mark c.args.trail.now.marked c.args.tip.node.number (omega (arith, c.args.trail.now.whole, c.args.tip.node.within)) c.requires.fresh in
    let falls : 2 * free c.mark.new.self.marked + 1 < t = omega (arith, ap free c.mark.ensures, fewer, c.decreases) in
    (falls, omega (arith, ap free c.mark.ensures, fewer, c.requires.deep))

pub find_at_node-returns-in_err-len : goal.find_at_node-returns-in_err-len
find_at_node-returns-in_err-len t c =
    let not_here : (has c.after_node-live.result (length (items_of c.args.self.now.pattern.now)) && is_none c.args.tip.unmet) ≡ false =
    elim c.else-stands.branch [
      | find_at_node-else-stands-via-then-stands+else-is_none w ↦ ends_unmet (has c.after_node-live.result (length (items_of c.args.self.now.pattern.now))) w.is_none.result c.args.tip.unmet w.is_none.ensures w.if-is_none.false
      | find_at_node-else-stands-via-else-stands w ↦ ends_not_full (has c.after_node-live.result (length (items_of c.args.self.now.pattern.now))) c.stands.result c.args.tip.unmet c.stands.ensures w.if-stands.false
    ] in
    rw c.from_residual.ensures (record {
      trail = restored c.args.trail.now.marked c.mark.new.self.marked c.find_along_links.new.trail.marked c.drop-guard.new.self.0.marked c.args.tip.node.number c.requires.fresh c.mark.ensures c.find_along_links.ensures.trail c.drop-guard.ensures;
      drawn = node_none (length (items_of c.args.self.now.pattern.now)) (items_of c.args.self.now.pattern.now) (roads_in c.args.self.now.roads.now) c.args.trail.now.marked c.args.tip.node.number c.args.tip.live c.after_node-live.result c.args.tip.unmet c.args.tip.depth c.args.out.now (omega (arith, c.args.trail.now.whole, c.args.tip.node.within)) c.requires.fresh c.after_node-live.ensures c.mark.new.self.marked c.mark.ensures c.if-live-eq0.false not_here c.find_along_links.new.out c.find_along_links.result c.in_err-len.was c.find_along_links.ensures.drawn;
    })

pub find_at_node-bounds-out-tip-2 : goal.find_at_node-bounds-out-tip-2
find_at_node-bounds-out-tip-2 t c = omega (arith, free_mark c.args.trail.now.marked c.args.tip.node.number (omega (arith, c.args.trail.now.whole, c.args.tip.node.within)) c.requires.fresh, c.requires.deep, c.told-out)

pub find_at_node-returns : goal.find_at_node-returns
find_at_node-returns t c =
    let not_here : (has c.after_node-live.result (length (items_of c.args.self.now.pattern.now)) && is_none c.args.tip.unmet) ≡ false =
    elim c.else-stands.branch [
      | find_at_node-else-stands-via-then-stands+else-is_none w ↦ ends_unmet (has c.after_node-live.result (length (items_of c.args.self.now.pattern.now))) w.is_none.result c.args.tip.unmet w.is_none.ensures w.if-is_none.false
      | find_at_node-else-stands-via-else-stands w ↦ ends_not_full (has c.after_node-live.result (length (items_of c.args.self.now.pattern.now))) c.stands.result c.args.tip.unmet c.stands.ensures w.if-stands.false
    ] in
    record {
      trail = restored c.args.trail.now.marked c.mark.new.self.marked c.find_along_links.new.trail.marked c.drop-guard-2.new.self.0.marked c.args.tip.node.number c.requires.fresh c.mark.ensures c.find_along_links.ensures.trail c.drop-guard-2.ensures;
      drawn = node_found (length (items_of c.args.self.now.pattern.now)) (items_of c.args.self.now.pattern.now) (roads_in c.args.self.now.roads.now) c.args.trail.now.marked c.args.tip.node.number c.args.tip.live c.after_node-live.result c.args.tip.unmet c.args.tip.depth c.args.out.now (omega (arith, c.args.trail.now.whole, c.args.tip.node.within)) c.requires.fresh c.after_node-live.ensures c.mark.new.self.marked c.mark.ensures c.if-live-eq0.false not_here c.find_along_links.new.out c.find_along_links.result c.in_ok-len.len c.in_ok-len.was c.find_along_links.ensures.drawn;
    }
