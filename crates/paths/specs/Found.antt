-- The answer of a search: how many partial paths, and which ports.
use Rattle.std.specs.Prelude.{ℕ, zero, suc, ◌+◌, ◌*◌, ◌^◌, cond, List, [], ◌∷◌, ◌++◌, length, Ok, Err, Result, ◌==◌, bit_or, nat_lt, fold}
use Rattle.std.specs.List.{enumerate_from}
use Rattle.site.specs.declared.parts.Link.{Link}
use Rattle.paths.specs.declared.finding.Fault.{Fault}
use Rattle.paths.specs.declared.finding.Fault.TheVariants.{TooMany, NoPath}
use Rattle.paths.specs.declared.pattern.Item.{Item}
use Rattle.paths.specs.declared.pattern.Item.TheVariants.{Node, Star}
use Rattle.paths.specs.declared.ports.PortSet.{PortSet}
use Rattle.paths.specs.declared.roads.Step.{Step}
use Rattle.paths.specs.Live.{start}
use Rattle.paths.specs.Roads.{roads_over}
use Rattle.paths.specs.Walks.{Walk, unmarked, walks, gather}

-- the walks that start at one of k nodes, the first of which is n
unfoldable pub starting : List Item → List (List Step) → ℕ → ℕ → List Walk
starting items roads n zero = []
starting items roads n (suc k) = walks items roads unmarked n (start items) ++ starting items roads (n + 1) k

-- the walks of a pattern over some links, between some nodes
abbrev pub all_walks : List Link → ℕ → List Item → List Walk
all_walks ls count items = starting items (roads_over ls) 0 count

-- the set f with the port of a link at the node n, where it has one
abbrev pub add_end : ℕ → ℕ → Link → ℕ → ℕ
add_end f i l n = cond (l.a == n) (bit_or f (2 ^ (2 * i))) (cond (l.b == n) (bit_or f (2 ^ (2 * i + 1))) f)

-- the set s with every port of a node at the links, numbered from i on
abbrev pub with_ends : PortSet → ℕ → List Link → ℕ → PortSet
with_ends s i ls n = fold (λ s p. record { bits = add_end s.bits p.0 p.1 n }) s (enumerate_from i ls)

-- the same of a set told by its bits
unfoldable pub end_ports : ℕ → ℕ → List Link → ℕ → ℕ
end_ports f i ls n = (with_ends (record { bits = f }) i ls n).bits

-- the ports of the one node that a pattern may stand for alone
abbrev pub alone_ports : List Link → ℕ → List Item → ℕ
alone_ports ls count [] = 0
alone_ports ls count (Star ∷ is) = 0
alone_ports ls count (Node m ∷ []) = cond (nat_lt m count) (end_ports 0 0 ls m) 0
alone_ports ls count (Node m ∷ i ∷ is) = 0

-- the ports that a pattern touches
abbrev pub touched_bits : List Link → ℕ → List Item → ℕ
touched_bits ls count items = bit_or (gather (length items) 0 0 (all_walks ls count items)) (alone_ports ls count items)

-- what is answered once the partial paths are few enough
abbrev pub answered : ℕ → Result PortSet Fault
answered bits = cond (bits == 0) (Err NoPath) (Ok (record { bits = bits }))

-- what is answered of a pattern over some links, between some nodes
unfoldable pub searched : List Link → ℕ → List Item → Result PortSet Fault
searched ls count items = cond (nat_lt 65536 (length (all_walks ls count items))) (Err TooMany) (answered (touched_bits ls count items))
