-- The worked site: links gate-barn, barn-mill, mill-hill and barn-hill.
use Rattle.std.specs.Prelude.{◌≡◌, ℕ, List, [], ◌∷◌, map, Ok, Err, filter}
use Rattle.site.specs.declared.parts.Link.{Link}
use Rattle.paths.specs.declared.finding.Fault.TheVariants.{NoPath}
use Rattle.paths.specs.declared.pattern.Item.TheVariants.{Node, Star}
use Rattle.paths.specs.Digits.{has}
use Rattle.paths.specs.Found.{all_walks, searched}
use Rattle.paths.specs.Paths.{partial_paths}
use Rattle.paths.specs.Walks.{Walk}

-- the nodes, by number
abbrev pub gate : ℕ
gate = 0

abbrev pub barn : ℕ
barn = 1

abbrev pub mill : ℕ
mill = 2

abbrev pub hill : ℕ
hill = 3

-- its links, by the numbers of their nodes
abbrev pub links : List Link
links = record { a = gate; b = barn } ∷ record { a = barn; b = mill } ∷ record { a = mill; b = hill } ∷ record { a = barn; b = hill } ∷ []

-- the nodes of the walks after which the last of three items is behind
abbrev pub matching : List Walk → List (List ℕ)
matching ws = map (λ w. w.nodes) (filter (λ w. has w.live 3) ws)

-- what its patterns stand for and touch; a port is a bit, two for each link
pub record Worked : Type 0 where
  -- gate, *, hill has six partial paths, and its paths touch all four links
  pub partials : partial_paths links 4 (Node gate ∷ Star ∷ Node hill ∷ [])
      ≡ (gate ∷ [])
      ∷ (gate ∷ barn ∷ [])
      ∷ (gate ∷ barn ∷ mill ∷ [])
      ∷ (gate ∷ barn ∷ mill ∷ hill ∷ [])
      ∷ (gate ∷ barn ∷ hill ∷ [])
      ∷ (gate ∷ barn ∷ hill ∷ mill ∷ [])
      ∷ []
  -- of these, two are its paths
  pub own : matching (all_walks links 4 (Node gate ∷ Star ∷ Node hill ∷ [])) ≡ (gate ∷ barn ∷ mill ∷ hill ∷ []) ∷ (gate ∷ barn ∷ hill ∷ []) ∷ []
  pub across : searched links 4 (Node gate ∷ Star ∷ Node hill ∷ []) ≡ Ok (record { bits = 255 })
  -- no path comes back, and none goes between nodes that are not linked
  pub back : searched links 4 (Node barn ∷ Star ∷ Node barn ∷ []) ≡ Err NoPath
  pub apart : searched links 4 (Node gate ∷ Node mill ∷ []) ≡ Err NoPath
  -- one link, and one node
  pub first : searched links 4 (Node gate ∷ Node barn ∷ []) ≡ Ok (record { bits = 3 })
  pub second : searched links 4 (Node barn ∷ Node mill ∷ []) ≡ Ok (record { bits = 12 })
  pub alone : searched links 4 (Node mill ∷ []) ≡ Ok (record { bits = 24 })
