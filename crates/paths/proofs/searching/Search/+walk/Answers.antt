use Rattle.std.proofs.Common.{◌≡◌, ◌+◌, ◌*◌, ◌<◌, ◌≤◌, true, [], length, get_or, set, refl, ap, ◌∙◌, arith}
use Rattle.std.proofs.lemmas.Result.{err_from_is_err_and}
use Rattle.paths.specs.declared.trail.Trail.{Trail}
use Rattle.paths.specs.Patterns.{items_of}
use Rattle.paths.specs.Roads.{roads_in}
use Rattle.paths.specs.Walks.{free, walks, beyond}
use Rattle.paths.proofs.Counting.{restored, free_mark, along_all, going_all, at_dead, at_live, counted_more, hop_counted, hop_over, hop_back}
use Rattle.paths.proofs.searching.Search.+walk.Goals as goal
use Rattle.paths.proofs.searching.Search.+walk.Goals.{along_links-then-not-has+in_ok-at_node, along_links-else-not-has}

pub along_links-returns-in_err-at_node : goal.along_links-returns-in_err-at_node
along_links-returns-in_err-at_node t c =
    let p = err_from_is_err_and c.from_residual.result c.from_residual.ensures.1 in
    rw p.1 (record {
      trail = c.at_node.ensures.trail ∙ c.loop-step.invariant.0;
      counted = hop_over (length (items_of c.args.self.now.pattern.now)) (items_of c.args.self.now.pattern.now) (roads_in c.args.self.now.roads.now) c.loop-step.trail.marked c.args.trail.now.marked c.args.tip.node.number c.args.tip.live c.loop-step.step-index c.args.tip.used.bits (get_or (roads_in c.args.self.now.roads.now) c.args.tip.node.number []) c.at-step-items.result.now (record { link = 0; node = 0 }) (get_or c.at-step-items.result.now c.loop-step.step-index (record { link = 0; node = 0 })) c.args.tally.now c.loop-step.tally c.loop-step-test.true c.at-step-items.ensures refl c.loop-step.invariant.0 c.loop-step.invariant.1 c.has.result c.has.ensures c.if-not-has.true c.in_err-at_node.ensures.counted;
    })

pub along_links-loop-step-preserved : goal.along_links-loop-step-preserved
along_links-loop-step-preserved t c =
    elim c.if-not-has.branch [
      | along_links-then-not-has+in_ok-at_node w ↦ (
        ap (λ (x : Trail). x.marked) w.trail-is ∙ w.at_node.ensures.trail ∙ c.loop-step.invariant.0,
        rw w.tally-is (hop_counted (length (items_of c.args.self.now.pattern.now)) (items_of c.args.self.now.pattern.now) (roads_in c.args.self.now.roads.now) c.loop-step.trail.marked c.args.trail.now.marked c.args.tip.node.number c.args.tip.live c.loop-step.step-index c.args.tip.used.bits (get_or (roads_in c.args.self.now.roads.now) c.args.tip.node.number []) c.at-step-items.result.now (record { link = 0; node = 0 }) (get_or c.at-step-items.result.now c.loop-step.step-index (record { link = 0; node = 0 })) c.args.tally.now c.loop-step.tally c.loop-step-test.true c.at-step-items.ensures refl c.loop-step.invariant.0 c.loop-step.invariant.1 c.has.result w.with_link-used.result.bits w.at_node.new.tally c.has.ensures w.if-not-has.true w.with_link-used.ensures w.in_ok-at_node.ensures.counted),
      )
      | along_links-else-not-has w ↦ (
        ap (λ (x : Trail). x.marked) w.trail-is ∙ c.loop-step.invariant.0,
        rw w.tally-is (hop_back (length (items_of c.args.self.now.pattern.now)) (items_of c.args.self.now.pattern.now) (roads_in c.args.self.now.roads.now) c.loop-step.trail.marked c.args.trail.now.marked c.args.tip.node.number c.args.tip.live c.loop-step.step-index c.args.tip.used.bits (get_or (roads_in c.args.self.now.roads.now) c.args.tip.node.number []) c.at-step-items.result.now (record { link = 0; node = 0 }) (get_or c.at-step-items.result.now c.loop-step.step-index (record { link = 0; node = 0 })) c.args.tally.now c.loop-step.tally c.loop-step-test.true c.at-step-items.ensures refl c.loop-step.invariant.0 c.loop-step.invariant.1 c.has.result c.has.ensures w.if-not-has.false),
      )
    ]

pub along_links-returns : goal.along_links-returns
along_links-returns t c =
    let past : length (get_or (roads_in c.args.self.now.roads.now) c.args.tip.node.number []) ≤ c.loop-step.step-index = omega (arith, c.loop-step-test.false, ap length c.at-step-items.ensures) in
    record {
      trail = c.loop-step.invariant.0;
      counted = going_all _ _ _ _ _ _ (along_all _ _ _ _ _ past) c.loop-step.invariant.1;
    }

pub at_node-returns-then-live-eq0 : goal.at_node-returns-then-live-eq0
at_node-returns-then-live-eq0 t c =
    record {
      trail = refl;
      counted = at_dead (items_of c.args.self.now.pattern.now) (roads_in c.args.self.now.roads.now) c.args.trail.now.marked c.args.tip.node.number c.args.tip.live c.after_node-live.result c.args.tip.used.bits (length (items_of c.args.self.now.pattern.now)) c.args.tally.now (omega (arith, c.args.trail.now.whole, c.args.tip.node.within)) c.requires.fresh c.after_node-live.ensures c.if-live-eq0.true c.args.tally.now.within;
    }

pub at_node-returns-in_err-add : goal.at_node-returns-in_err-add
at_node-returns-in_err-add t c =
    let p = err_from_is_err_and c.from_residual.result c.from_residual.ensures.1 in
    let begun : walks (items_of c.args.self.now.pattern.now) (roads_in c.args.self.now.roads.now) c.args.trail.now.marked c.args.tip.node.number c.args.tip.live ≡ _ =
    at_live (items_of c.args.self.now.pattern.now) (roads_in c.args.self.now.roads.now) c.args.trail.now.marked (set c.args.trail.now.marked c.args.tip.node.number true) c.args.tip.node.number c.args.tip.live c.after_node-live.result (omega (arith, c.args.trail.now.whole, c.args.tip.node.within)) c.requires.fresh c.after_node-live.ensures c.if-live-eq0.false refl in
    rw p.1 (record { trail = refl; counted = omega (arith, c.in_err-add.ensures, ap length begun) })

pub at_node-along_links-requires : goal.at_node-along_links-requires
at_node-along_links-requires t c =
    let fewer = free_mark c.args.trail.now.marked c.args.tip.node.number (omega (arith, c.args.trail.now.whole, c.args.tip.node.within)) c.requires.fresh in
    let falls : 2 * free c.mark.new.self.marked + 1 < t = omega (arith, ap free c.mark.ensures, fewer, c.decreases) in
    (falls, tt)

pub at_node-returns : goal.at_node-returns
at_node-returns t c =
    record {
      trail = restored c.args.trail.now.marked c.mark.new.self.marked c.along_links.new.trail.marked c.drop-guard.new.self.0.marked c.args.tip.node.number c.requires.fresh c.mark.ensures c.along_links.ensures.trail c.drop-guard.ensures;
      counted = counted_more (length (items_of c.args.self.now.pattern.now)) (walks (items_of c.args.self.now.pattern.now) (roads_in c.args.self.now.roads.now) c.args.trail.now.marked c.args.tip.node.number c.args.tip.live)
          (beyond (items_of c.args.self.now.pattern.now) (roads_in c.args.self.now.roads.now) c.mark.new.self.marked c.args.tip.node.number c.after_node-live.result (get_or (roads_in c.args.self.now.roads.now) c.args.tip.node.number []))
          c.args.tip.node.number c.after_node-live.result c.args.tip.used.bits c.args.tally.now c.add.new.self c.stands.result c.along_links.result c.along_links.new.tally
          (at_live (items_of c.args.self.now.pattern.now) (roads_in c.args.self.now.roads.now) c.args.trail.now.marked c.mark.new.self.marked c.args.tip.node.number c.args.tip.live c.after_node-live.result (omega (arith, c.args.trail.now.whole, c.args.tip.node.within)) c.requires.fresh c.after_node-live.ensures c.if-live-eq0.false c.mark.ensures)
          c.stands.ensures c.in_ok-add.ensures.0 c.in_ok-add.ensures.1 c.in_ok-add.ensures.2 c.along_links.ensures.counted;
    }
