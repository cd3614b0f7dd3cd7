-- Links between numbered nodes, and the ports at their ends.
use Rattle.std.specs.Prelude.{ℕ, ◌+◌, Bool, cond, ◌&&◌, ◌||◌, List, [], ◌∷◌, ◌==◌}
use Rattle.std.specs.List.{list_any}
use Rattle.site.specs.declared.parts.Link.{Link}

-- what stands past the end of a list of links
abbrev pub nowhere : Link
nowhere = record { a = 0; b = 0 }

-- whether a node is an end of a link
abbrev pub ends : Link → ℕ → Bool
ends l n = l.a == n || l.b == n

-- the end of a link that is not the given one
abbrev pub far_end : Link → ℕ → ℕ
far_end l n = cond (l.a == n) l.b l.a

-- whether a link joins two nodes, whichever stands first in it
abbrev pub joins : Link → ℕ → ℕ → Bool
joins l m n = (l.a == m && l.b == n) || (l.a == n && l.b == m)

-- whether some link joins two nodes
abbrev pub joined : List Link → ℕ → ℕ → Bool
joined ls m n = list_any (λ l. joins l m n) ls

-- whether a node has a link
abbrev pub linked : List Link → ℕ → Bool
linked ls n = list_any (λ l. ends l n) ls

-- the numbers, from i on, of the links of a node
abbrev pub links_from : ℕ → List Link → ℕ → List ℕ
links_from i [] n = []
links_from i (l ∷ ls) n = cond (ends l n) (i ∷ links_from (i + 1) ls n) (links_from (i + 1) ls n)

-- the numbers of the links of a node, ascending
abbrev pub links_at : List Link → ℕ → List ℕ
links_at ls n = links_from 0 ls n
