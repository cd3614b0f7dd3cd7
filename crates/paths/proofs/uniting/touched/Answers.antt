use Rattle.std.proofs.Common.{◌<◌, ◌≤◌, length, map, Ok, ap, ◌∙◌, arith}
use Rattle.std.proofs.lemmas.Result.{err_from_is_err_and}
use Rattle.std.proofs.Math.ListN.{length-map}
use Rattle.site.specs.Sites.{plan}
use Rattle.paths.specs.Found.{searched}
use Rattle.paths.specs.Unions.{next, united}
use Rattle.paths.proofs.Mapped.{mapped_item}
use Rattle.paths.proofs.Nodes.{node_count_within}
use Rattle.paths.proofs.Touching.{judged}
use Rattle.paths.proofs.Unions.{united_none, united_ok, united_err, united_all, all_judged}
use Rattle.paths.proofs.uniting.touched.Goals as goal

pub loop-i-init : goal.loop-i-init
loop-i-init g c = united_none (plan c.args.site.now).links (length (plan c.args.site.now).nodes) c.empty-ports.result (map g.P.Patterned.items c.args.patterns.now) c.empty-ports.ensures.bits

pub returns-in_err-numbered : goal.returns-in_err-numbered
returns-in_err-numbered g c =
    let f = g.P.Patterned.items in
    let ls = (plan c.args.site.now).links in
    let n = length (plan c.args.site.now).nodes in
    let p = err_from_is_err_and c.from_residual.result c.from_residual.ensures.1 in
    let lt : c.loop-i.i < length (map f c.args.patterns.now) = omega (arith, c.loop-i-test.true, length-map c.args.patterns.now f) in
    let is = united_err ls n c.loop-i.i c.loop-i.ports (map f c.args.patterns.now) (f c.index-patterns-i.result) c.numbered.result (united ls n 0 (record { bits = 0 }) (map f c.args.patterns.now)) lt
    (mapped_item f c.args.patterns.now c.loop-i.i c.index-patterns-i.result c.index-patterns-i.is)
    (c.numbered.ensures ∙ ap (λ x. next (searched ls n x) c.loop-i.i Ok) c.pattern.ensures) c.loop-i.invariant _ c.in_err-numbered.was in
    rw (p.1, p.2) (record { is = is; judged = all_judged ls n (λ p. judged (length (plan c.args.site.now).nodes) (plan c.args.site.now).links (node_count_within c.args.site.now) c.args.site.now.two_ended c.args.site.now.«unrepeated» p c.args.site.now.all_linked) (map f c.args.patterns.now) _ is })

pub loop-i-preserved : goal.loop-i-preserved
loop-i-preserved g c =
    let f = g.P.Patterned.items in
    let ls = (plan c.args.site.now).links in
    let n = length (plan c.args.site.now).nodes in
    let lt : c.loop-i.i < length (map f c.args.patterns.now) = omega (arith, c.loop-i-test.true, length-map c.args.patterns.now f) in
    united_ok ls n c.loop-i.i c.loop-i.ports (map f c.args.patterns.now) (f c.index-patterns-i.result) c.numbered.result (united ls n 0 (record { bits = 0 }) (map f c.args.patterns.now)) lt
    (mapped_item f c.args.patterns.now c.loop-i.i c.index-patterns-i.result c.index-patterns-i.is)
    (c.numbered.ensures ∙ ap (λ x. next (searched ls n x) c.loop-i.i Ok) c.pattern.ensures) c.loop-i.invariant c.in_ok-numbered.field-0 c.union-ports.result c.in_ok-numbered.was c.union-ports.ensures.bits

pub returns : goal.returns
returns g c =
    let f = g.P.Patterned.items in
    let past : length (map f c.args.patterns.now) ≤ c.loop-i.i = omega (arith, c.loop-i-test.false, length-map c.args.patterns.now f) in
    let is = united_all (plan c.args.site.now).links (length (plan c.args.site.now).nodes) c.loop-i.i c.loop-i.ports (map f c.args.patterns.now) (united (plan c.args.site.now).links (length (plan c.args.site.now).nodes) 0 (record { bits = 0 }) (map f c.args.patterns.now)) past c.loop-i.invariant in
    record { is = is; judged = all_judged (plan c.args.site.now).links (length (plan c.args.site.now).nodes) (λ p. judged (length (plan c.args.site.now).nodes) (plan c.args.site.now).links (node_count_within c.args.site.now) c.args.site.now.two_ended c.args.site.now.«unrepeated» p c.args.site.now.all_linked) (map f c.args.patterns.now) (Ok c.loop-i.ports) is }
