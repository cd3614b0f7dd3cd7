use Rattle.std.proofs.Common.{◌≡◌, List, length, Err, Result, sym, ap, ◌∙◌, subst}
use Rattle.std.proofs.lemmas.Result.{err_from_is_err_and}
use Rattle.site.specs.declared.sealed.Site.{Site}
use Rattle.site.specs.Sites.{plan}
use Rattle.paths.specs.declared.finding.Fault.{Fault}
use Rattle.paths.specs.declared.pattern.Item.{Item}
use Rattle.paths.specs.declared.ports.PortSet.{PortSet}
use Rattle.paths.specs.Found.{searched}
use Rattle.paths.specs.Paths.{Listed, Judged}
use Rattle.paths.specs.Patterns.{items_of}
use Rattle.paths.specs.Roads.{roads_in}
use Rattle.paths.proofs.Answering.{few_answered, many_answered, answered_none, answered_some}
use Rattle.paths.proofs.Nodes.{node_count_within}
use Rattle.paths.proofs.Partials.{listed}
use Rattle.paths.proofs.Standing.{tracked}
use Rattle.paths.proofs.Touching.{judged}
use Rattle.paths.proofs.finding.search.Goals as goal

-- On any site the walks are the partial paths, and the answer that is searched for is right.
module _ (s : Site) (items : List Item) where
  all_listed : Listed (plan s).links (length (plan s).nodes) items
  all_listed = listed (length (plan s).nodes) (plan s).links (node_count_within s) s.two_ended items s.«unrepeated»

  judges : (r : Result PortSet Fault) → searched (plan s).links (length (plan s).nodes) items ≡ r → Judged (plan s).links (length (plan s).nodes) items r
  judges r is =
      subst (Judged (plan s).links (length (plan s).nodes) items) is
      (judged (length (plan s).nodes) (plan s).links (node_count_within s) s.two_ended s.«unrepeated» items s.all_linked)

pub returns-in_err-tally : goal.returns-in_err-tally
returns-in_err-tally c =
    let items = items_of c.args.pattern.now in
    let p = err_from_is_err_and c.from_residual.result c.from_residual.ensures.1 in
    let is = many_answered (plan c.args.site.now).links (length (plan c.args.site.now).nodes) c.new-roads.result.nodes items (roads_in c.new-roads.result) c.new-roads.ensures.ways c.new-roads.ensures.nodes c.in_err-tally.ensures
    ∙ sym (p.1 ∙ ap Err p.2) in
    record { is = sym is; tracked = tracked items; listed = all_listed c.args.site.now items; judged = judges c.args.site.now items c.from_residual.result is }

pub returns-then-is_empty : goal.returns-then-is_empty
returns-then-is_empty c =
    let items = items_of c.args.pattern.now in
    let is = few_answered (plan c.args.site.now).links (length (plan c.args.site.now).nodes) c.new-roads.result.nodes items (roads_in c.new-roads.result) c.new-roads.ensures.ways c.new-roads.ensures.nodes
    c.found.result.bits c.alone.result.bits c.union-found.result.bits c.in_ok-tally.ensures.0 (ap (λ (x : PortSet). x.bits) c.found.ensures ∙ c.in_ok-tally.ensures.1) c.alone.ensures c.union-found.ensures.bits
    ∙ answered_none c.union-found.result.bits (sym c.is_empty.ensures ∙ c.if-is_empty.true) in
    record { is = sym is; tracked = tracked items; listed = all_listed c.args.site.now items; judged = judges c.args.site.now items _ is }

pub returns : goal.returns
returns c =
    let items = items_of c.args.pattern.now in
    let is = few_answered (plan c.args.site.now).links (length (plan c.args.site.now).nodes) c.new-roads.result.nodes items (roads_in c.new-roads.result) c.new-roads.ensures.ways c.new-roads.ensures.nodes
    c.found.result.bits c.alone.result.bits c.union-found.result.bits c.in_ok-tally.ensures.0 (ap (λ (x : PortSet). x.bits) c.found.ensures ∙ c.in_ok-tally.ensures.1) c.alone.ensures c.union-found.ensures.bits
    ∙ answered_some c.union-found.result (sym c.is_empty.ensures ∙ c.if-is_empty.false) in
    record { is = sym is; tracked = tracked items; listed = all_listed c.args.site.now items; judged = judges c.args.site.now items _ is }
