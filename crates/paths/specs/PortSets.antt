-- Sets of ports. A port has a number: twice its link's, and one more at the link's second end.
use Rattle.std.specs.Prelude.{◌≡◌, ℕ, ◌+◌, ◌*◌, ◌<◌, ◌≤◌, Bool, true, cond, ◌&&◌, ◌⊎◌, List, length, get_or, Some, None, Option, ◌==◌, nat_lt, slice_index_or}
use Rattle.std.specs.Option.{option_map}
use Rattle.site.specs.declared.parts.Link.{Link}
use Rattle.site.specs.Links.{nowhere, ends}
use Rattle.paths.specs.Digits.{has}
use Rattle.paths.specs.declared.ports.Port.{Port}
use Rattle.paths.specs.declared.ports.PortSet.{PortSet}

-- whether these links have the port
abbrev pub is_port : List Link → Port → Bool
is_port ls p = nat_lt p.link (length ls) && ends (slice_index_or ls p.link nowhere) p.node

-- the number of a port
abbrev pub number_of : List Link → Port → ℕ
number_of ls p = cond ((get_or ls p.link nowhere).a == p.node) (2 * p.link) (2 * p.link + 1)

-- the number of the port of link i at a node, where the node is one of its ends
abbrev pub number_at : ℕ → Link → ℕ → Option ℕ
number_at i l n = cond (l.a == n) (Some (2 * i)) (cond (l.b == n) (Some (2 * i + 1)) None)

-- whether a port of these links is in the set
abbrev pub holds : List Link → PortSet → Port → Bool
holds ls s p = is_port ls p && has s.bits (number_of ls p)

-- the lower of the ends of a link whose port counts
abbrev pub lower_end : Link → Bool → Bool → Option ℕ
lower_end l a b = cond a (Some (cond b (cond (nat_lt l.a l.b) l.a l.b) l.a)) (cond b (Some l.b) None)

-- of the ports of link i that are in both sets, the lower
abbrev pub common_at : PortSet → PortSet → ℕ → Link → Option Port
common_at s t i l = option_map (λ n. record { link = i; node = n }) (lower_end l (has s.bits (2 * i) && has t.bits (2 * i)) (has s.bits (2 * i + 1) && has t.bits (2 * i + 1)))

-- p is a port of both sets
pub record Shared (ls : List Link) (s t : PortSet) (p : Port) : Type 0 where
  pub one : holds ls s p ≡ true
  pub other : holds ls t p ≡ true

-- by link, and of one link by node
abbrev pub NotAfter : Port → Port → Type 0
NotAfter p q = (p.link < q.link) ⊎ ((p.link ≡ q.link) × (p.node ≤ q.node))

-- p is the lowest port of both sets
pub record Lowest (ls : List Link) (s t : PortSet) (p : Port) : Type 0 where
  pub shared : Shared ls s t p
  pub first : (q : Port) → Shared ls s t q → NotAfter p q
