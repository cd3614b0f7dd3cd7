-- What a map says: its plan. Nodes, links, classes and users are each numbered from 0 as declared.
use Rattle.std.specs.Prelude.{ℕ, Bool, ◌&&◌, List, map, length, Option, nat_lt, slice_index_or}
use Rattle.std.specs.Option.{unwrap_or}
use Rattle.fixed.specs.Items.{items}
use Rattle.fixed.specs.Names.{spelling}
use Rattle.fixed.specs.Rosters.{held, names}
use Rattle.site.specs.declared.parts.Link.{Link}
use Rattle.site.specs.declared.parts.Reading.{Reading}
use Rattle.site.specs.declared.parts.Reading.TheVariants.{Implied}
use Rattle.site.specs.declared.draft.Draft.{Draft}
use Rattle.site.specs.Links.{nowhere, ends}
use Rattle.site.specs.Users.{called, rank}

-- names as their bytes; the rank of each user stands under the user's number
pub record Plan : Type 0 where
  pub nodes : List (List ℕ)
  pub links : List Link
  pub classes : List (List ℕ)
  pub users : List (List ℕ)
  pub ranks : List ℕ
  pub reading : Option Reading

-- the plan of a map that is being declared
abbrev pub plan_of : Draft → Plan
plan_of d = record {
  nodes = names spelling d.nodes;
  links = items d.links;
  classes = names spelling d.classes;
  users = names called d.users;
  ranks = map rank (held d.users);
  reading = d.reading;
}

-- the reading of a map: the one that a field sets, else implied
abbrev pub reading_on : Plan → Reading
reading_on s = unwrap_or s.reading Implied

-- whether a link and a node make a port: there is such a link, and the node is one of its ends
abbrev pub is_port : Plan → ℕ → ℕ → Bool
is_port s l n = nat_lt l (length s.links) && ends (slice_index_or s.links l nowhere) n
