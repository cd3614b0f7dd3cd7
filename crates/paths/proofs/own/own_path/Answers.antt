use Rattle.std.proofs.Common.{◌≡◌, ◌<◌, ◌≤◌, true, length, map, sym, ◌∙◌, inr, arith}
use Rattle.std.proofs.lemmas.Bool.{both_ways}
use Rattle.std.proofs.lemmas.List.{length-map}
use Rattle.site.specs.Sites.{plan}
use Rattle.paths.specs.Patterns.{items_of}
use Rattle.paths.specs.PortSets.{is_port}
use Rattle.paths.specs.Roads.{roads_in}
use Rattle.paths.proofs.Drawing.{told_same, route_found, route_none, routed, front_long, kept_whole, one_more, no_more}
use Rattle.paths.proofs.Mapped.{mapped_item}
use Rattle.paths.proofs.Nodes.{node_count_within}
use Rattle.paths.proofs.own.own_path.Goals as goal

pub returns-then-not-is_in : goal.returns-then-not-is_in
returns-then-not-is_in g c = (
  kept_whole c.args.out.now c.in_ok-front.front.now c.in_ok-front.ensures.cases.same,
  inr (λ p h path own t. both_ways (is_port (plan c.args.site.now).links c.args.port) (sym c.is_in.ensures ∙ c.if-not-is_in.true) t.port),
)

pub returns-in-Some : goal.returns-in-Some
returns-in-Some g c =
    let f = g.P.Patterned.items in
    let s = c.args.site.now in
    let lt : c.loop-pattern.pattern-index < length (map f c.args.patterns.now) = omega (arith, c.loop-pattern-test.true, length-map c.args.patterns.now f) in
    let item = mapped_item f c.args.patterns.now c.loop-pattern.pattern-index c.pattern-item.result c.pattern-item.is in
    let port : is_port (plan s).links c.args.port ≡ true = sym c.is_in.ensures ∙ c.if-not-is_in.false in
    let room : 48 ≤ length c.loop-pattern.front = front_long c.args.out.now c.loop-pattern.front c.in_ok-front.ensures.cases.enough (c.loop-pattern.invariant.0 ∙ c.in_ok-front.ensures.cases.same) in
    let told = told_same (plan s).links (length (plan s).nodes) c.new-roads.result.nodes (f c.pattern-item.result) (items_of c.pattern.result.now) (roads_in c.new-roads.result) c.args.port c.loop-pattern.front c.path.new.out c.path.result c.new-roads.ensures.ways c.new-roads.ensures.nodes c.pattern.ensures c.path.ensures in
    routed (plan s).links (length (plan s).nodes) (map f c.args.patterns.now) c.loop-pattern.pattern-index (f c.pattern-item.result) c.args.port c.args.out.now c.loop-pattern.front c.path.new.out c.in-Some.len lt item c.in_ok-front.ensures.cases.enough (c.loop-pattern.invariant.0 ∙ c.in_ok-front.ensures.cases.same)
    (route_found (length (plan s).nodes) (plan s).links (node_count_within s) s.two_ended s.«unrepeated» (f c.pattern-item.result) c.args.port port c.loop-pattern.front c.path.new.out room c.path.result told c.in-Some.len c.in-Some.is)

pub loop-pattern-preserved : goal.loop-pattern-preserved
loop-pattern-preserved g c =
    let f = g.P.Patterned.items in
    let s = c.args.site.now in
    let lt : c.loop-pattern.pattern-index < length (map f c.args.patterns.now) = omega (arith, c.loop-pattern-test.true, length-map c.args.patterns.now f) in
    let item = mapped_item f c.args.patterns.now c.loop-pattern.pattern-index c.pattern-item.result c.pattern-item.is in
    let port : is_port (plan s).links c.args.port ≡ true = sym c.is_in.ensures ∙ c.if-not-is_in.false in
    let room : 48 ≤ length c.loop-pattern.front = front_long c.args.out.now c.loop-pattern.front c.in_ok-front.ensures.cases.enough (c.loop-pattern.invariant.0 ∙ c.in_ok-front.ensures.cases.same) in
    let told = told_same (plan s).links (length (plan s).nodes) c.new-roads.result.nodes (f c.pattern-item.result) (items_of c.pattern.result.now) (roads_in c.new-roads.result) c.args.port c.loop-pattern.front c.path.new.out c.path.result c.new-roads.ensures.ways c.new-roads.ensures.nodes c.pattern.ensures c.path.ensures in
    let x = route_none (length (plan s).nodes) (plan s).links (node_count_within s) s.two_ended s.«unrepeated» (f c.pattern-item.result) c.args.port port c.loop-pattern.front c.path.new.out room c.path.result told c.in_default.is in
    (x.0 ∙ c.loop-pattern.invariant.0, one_more (plan s).links (length (plan s).nodes) (map f c.args.patterns.now) c.loop-pattern.pattern-index (f c.pattern-item.result) c.args.port lt item c.loop-pattern.invariant.1 x.1)

pub returns : goal.returns
returns g c =
    let f = g.P.Patterned.items in
    let past : length (map f c.args.patterns.now) ≤ c.loop-pattern.pattern-index = omega (arith, c.loop-pattern-test.false, length-map c.args.patterns.now f) in (
      kept_whole c.args.out.now c.loop-pattern.front (c.loop-pattern.invariant.0 ∙ c.in_ok-front.ensures.cases.same),
      inr (no_more (plan c.args.site.now).links (length (plan c.args.site.now).nodes) (map f c.args.patterns.now) c.loop-pattern.pattern-index c.args.port past c.loop-pattern.invariant.1),
    )
