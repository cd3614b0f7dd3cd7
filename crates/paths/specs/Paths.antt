-- Paths, which of them a pattern stands for, and the ports that they touch; ls are the links of a site, and c tells how many nodes it has.
use Rattle.std.specs.Prelude.{◌≡◌, ℕ, ◌<◌, ◌≤◌, true, ◌⊎◌, List, [], ◌∷◌, ◌++◌, map, length, Ok, Err, Decides, Result, slice_index_or}
use Rattle.site.specs.declared.parts.Link.{Link}
use Rattle.site.specs.Links.{nowhere, joins}
use Rattle.paths.specs.declared.finding.Fault.{Fault}
use Rattle.paths.specs.declared.finding.Fault.TheVariants.{TooMany, NoPath}
use Rattle.paths.specs.declared.pattern.Item.{Item}
use Rattle.paths.specs.declared.ports.Port.{Port}
use Rattle.paths.specs.declared.ports.PortSet.{PortSet}
use Rattle.paths.specs.Patterns.{Stands}
use Rattle.paths.specs.PortSets.{is_port, holds}
use Rattle.paths.specs.Found.{all_walks}

-- x stands in the list
abbrev pub In : {A : Type 0} → A → List A → Type 0
In x [] = ⊥
In x (y ∷ ys) = (x ≡ y) ⊎ In x ys

-- nothing stands in the list twice
abbrev pub Once : {A : Type 0} → List A → Type 0
Once [] = Unit {0}
Once (x ∷ xs) = (In x xs → ⊥) × Once xs

-- each is a node of the site
abbrev pub Declared : ℕ → List ℕ → Type 0
Declared c [] = Unit {0}
Declared c (n ∷ ns) = (n < c) × Declared c ns

-- some link joins two nodes
pub record Linked (ls : List Link) (m n : ℕ) : Type 0 where
  pub link : ℕ
  pub there : link < length ls
  pub joined : joins (slice_index_or ls link nowhere) m n ≡ true

-- each node is linked to the next
abbrev pub Chain : List Link → List ℕ → Type 0
Chain ls [] = Unit {0}
Chain ls (n ∷ []) = Unit {0}
Chain ls (n ∷ m ∷ ns) = Linked ls n m × Chain ls (m ∷ ns)

-- one or more nodes, none twice, each linked to the next
pub record Path (ls : List Link) (c : ℕ) (p : List ℕ) : Type 0 where
  pub some : 0 < length p
  pub declared : Declared c p
  pub once : Once p
  pub chain : Chain ls p

-- a path that begins some list of nodes for which the pattern stands
pub record Partial (ls : List Link) (c : ℕ) (items : List Item) (p : List ℕ) : Type 0 where
  pub path : Path ls c p
  pub more : List ℕ
  pub stands : Stands items (p ++ more)

-- a path for which the pattern stands
pub record Own (ls : List Link) (c : ℕ) (items : List Item) (p : List ℕ) : Type 0 where
  pub path : Path ls c p
  pub stands : Stands items p

-- the link joins two nodes next to one another
abbrev pub Takes : Link → List ℕ → Type 0
Takes l [] = ⊥
Takes l (n ∷ []) = ⊥
Takes l (n ∷ m ∷ ns) = (joins l n m ≡ true) ⊎ Takes l (m ∷ ns)

-- a path of one node touches the ports at it, and a longer one both ports of each of its links
abbrev pub Passes : List Link → List ℕ → Port → Type 0
Passes ls [] q = ⊥
Passes ls (n ∷ []) q = q.node ≡ n
Passes ls (n ∷ m ∷ ns) q = Takes (slice_index_or ls q.link nowhere) (n ∷ m ∷ ns)

-- a path touches a port
pub record Touches (ls : List Link) (p : List ℕ) (q : Port) : Type 0 where
  pub port : is_port ls q ≡ true
  pub passes : Passes ls p q

-- some path of the pattern touches a port
pub record Reached (ls : List Link) (c : ℕ) (items : List Item) (q : Port) : Type 0 where
  pub path : List ℕ
  pub own : Own ls c items path
  pub touches : Touches ls path q

-- the partial paths of a pattern
abbrev pub partial_paths : List Link → ℕ → List Item → List (List ℕ)
partial_paths ls c items = map (λ w. w.nodes) (all_walks ls c items)

-- the list has each partial path, no other, and none twice
pub record Listed (ls : List Link) (c : ℕ) (items : List Item) : Type 0 where
  pub only : (p : List ℕ) → In p (partial_paths ls c items) → Partial ls c items p
  pub every : (p : List ℕ) → Partial ls c items p → In p (partial_paths ls c items)
  pub once : Once (partial_paths ls c items)

-- the set has the ports that the paths of a pattern touch, and there is such a path
pub record Touched (ls : List Link) (c : ℕ) (items : List Item) (s : PortSet) : Type 0 where
  pub few : length (partial_paths ls c items) ≤ 65536
  pub some : (p : List ℕ) × Own ls c items p
  pub each : (q : Port) → Decides (holds ls s q) (Reached ls c items q)

-- the answer is right
abbrev pub Judged : List Link → ℕ → List Item → Result PortSet Fault → Type 0
Judged ls c items (Ok s) = Touched ls c items s
Judged ls c items (Err TooMany) = 65536 < length (partial_paths ls c items)
Judged ls c items (Err NoPath) = (length (partial_paths ls c items) ≤ 65536) × ((p : List ℕ) → Own ls c items p → ⊥)
