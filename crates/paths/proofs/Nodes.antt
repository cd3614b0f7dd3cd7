-- How many nodes a site has.
use Rattle.std.proofs.Common.{◌≤◌, length, arith}
use Rattle.std.proofs.lemmas.List.{length-map}
use Rattle.fixed.specs.Items.{items}
use Rattle.fixed.specs.Names.{spelling}
use Rattle.fixed.proofs.Held.{items_within}
use Rattle.site.specs.declared.sealed.Site.{Site}
use Rattle.site.specs.Sites.{plan}

pub node_count_within : (s : Site) → length (plan s).nodes ≤ 48
node_count_within s = omega (arith, length-map (items s.draft.nodes.list) spelling, items_within s.draft.nodes.list)
