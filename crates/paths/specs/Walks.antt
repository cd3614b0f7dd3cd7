-- The partial paths of a pattern as a list: a walk is a path with the links that it takes.
use Rattle.std.specs.Prelude.{◌≡◌, ℕ, zero, suc, ◌+◌, ◌*◌, ◌^◌, ◌<◌, ◌≤◌, Bool, true, false, cond, List, [], ◌∷◌, ◌++◌, map, length, get_or, replicate, ◌==◌, bit_or, slice_index_or, slice_set}
use Rattle.paths.specs.declared.pattern.Item.{Item}
use Rattle.paths.specs.declared.roads.Step.{Step}
use Rattle.paths.specs.declared.tally.Tally.{Tally}
use Rattle.paths.specs.Live.{after}
use Rattle.paths.specs.Digits.{has}

-- nodes in order, the links between them by number, and the live positions of the pattern after them
pub record Walk : Type 0 where
  pub nodes : List ℕ
  pub links : List ℕ
  pub live : ℕ

-- a walk with a node before it, by a link
abbrev pub grow : ℕ → ℕ → Walk → Walk
grow n i w = record { nodes = n ∷ w.nodes; links = i ∷ w.links; live = w.live }

-- the walk of one node
abbrev pub begin : ℕ → ℕ → Walk
begin n live = record { nodes = n ∷ []; links = []; live = live }

-- the trail with no node on it
unfoldable pub unmarked : List Bool
unmarked = replicate 48 false

-- how many nodes are not on the trail
unfoldable pub free : List Bool → ℕ
free [] = zero
free (true ∷ v) = free v
free (false ∷ v) = suc (free v)

-- the walks that go on from n by one way, unless it leads back to the trail
unfoldable pub through : (ℕ → List Walk) → List Bool → ℕ → Step → List Walk
through rec v n s = cond (slice_index_or v s.node false) [] (map (grow n s.link) (rec s.node))

-- the walks that go on from n by some ways
unfoldable pub along : (ℕ → List Walk) → List Bool → ℕ → List Step → List Walk
along rec v n [] = []
along rec v n (s ∷ ss) = through rec v n s ++ along rec v n ss

-- no walk where the pattern is dead, else the walk w and those that go on from it
abbrev pub opened : Bool → Walk → List Walk → List Walk
opened dead w ws = cond dead [] (w ∷ ws)

-- the walks of at most k nodes from n that avoid the trail v, as long as the pattern has a live position
unfoldable pub from : ℕ → List Item → List (List Step) → List Bool → ℕ → ℕ → List Walk
from zero items roads v n live = []
from (suc k) items roads v n live =
    opened (after items live n == 0) (begin n (after items live n))
    (along (λ m. from k items roads (slice_set v n true) m (after items live n)) (slice_set v n true) n (slice_index_or roads n []))

-- the same of any length
abbrev pub walks : List Item → List (List Step) → List Bool → ℕ → ℕ → List Walk
walks items roads v n live = from (free v) items roads v n live

-- the walks that go on from n, already on the trail, by some ways
abbrev pub beyond : List Item → List (List Step) → List Bool → ℕ → ℕ → List Step → List Walk
beyond items roads v n live ss = along (λ m. walks items roads v m live) v n ss

-- the set `used` of ports with both ports of each link
unfoldable pub ports_on : ℕ → List ℕ → ℕ
ports_on used [] = used
ports_on used (i ∷ is) = ports_on (bit_or (bit_or used (2 ^ (2 * i))) (2 ^ (2 * i + 1))) is

-- the set f with the ports of each walk after which the position `last` is live, and those used before it
unfoldable pub gather : ℕ → ℕ → ℕ → List Walk → ℕ
gather last used f [] = f
gather last used f (w ∷ ws) = gather last used (cond (has w.live last) (bit_or f (ports_on used w.links)) f) ws

-- what the tally is after some walks were counted
pub record Counted (last : ℕ) (b : Tally) (used : ℕ) (ws : List Walk) (e : Tally) : Type 0 where
  pub within : b.count + length ws ≤ 65536
  pub count : e.count ≡ b.count + length ws
  pub found : e.found.bits ≡ gather last used b.found.bits ws

-- every way leads to one of 48 nodes by one of 64 links
abbrev pub Sound : List (List Step) → Type 0
Sound roads = (n j : ℕ) → j < length (slice_index_or roads n []) → ((get_or (slice_index_or roads n []) j (record { link = 0; node = 0 })).node < 48) × ((get_or (slice_index_or roads n []) j (record { link = 0; node = 0 })).link < 64)
