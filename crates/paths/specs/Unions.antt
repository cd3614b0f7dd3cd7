-- The ports that the paths of several patterns touch, each pattern told by its items; ls are the links of a site, and c tells how many nodes it has.
use Rattle.std.specs.Prelude.{◌≡◌, ℕ, ◌+◌, List, [], ◌∷◌, ◌++◌, length, Ok, Err, Decides, Result, bit_or}
use Rattle.site.specs.declared.parts.Link.{Link}
use Rattle.paths.specs.declared.finding.Fault.{Fault}
use Rattle.paths.specs.declared.pattern.Item.{Item}
use Rattle.paths.specs.declared.ports.Port.{Port}
use Rattle.paths.specs.declared.ports.PortSet.{PortSet}
use Rattle.paths.specs.Found.{searched}
use Rattle.paths.specs.Paths.{In, Reached}
use Rattle.paths.specs.PortSets.{holds}

-- what follows the answer for the pattern of number i
abbrev pub next : Result PortSet Fault → ℕ → (PortSet → Result PortSet (ℕ × Fault)) → Result PortSet (ℕ × Fault)
next (Ok s) i go = go s
next (Err f) i go = Err (i, f)

-- the set s with what the patterns touch, numbered from i on, or the first that is refused
unfoldable pub united : List Link → ℕ → ℕ → PortSet → List (List Item) → Result PortSet (ℕ × Fault)
united ls c i s [] = Ok s
united ls c i s (p ∷ ps) = next (searched ls c p) i (λ t. united ls c (i + 1) (record { bits = bit_or s.bits t.bits }) ps)

-- the pattern is not refused
pub record Accepted (ls : List Link) (c : ℕ) (p : List Item) : Type 0 where
  pub ports : PortSet
  pub answer : searched ls c p ≡ Ok ports

-- some path of one of the patterns touches a port
pub record ReachedByOne (ls : List Link) (c : ℕ) (ps : List (List Item)) (q : Port) : Type 0 where
  pub pattern : List Item
  pub there : In pattern ps
  pub reached : Reached ls c pattern q

-- no pattern is refused, and the set has the ports that the paths of one of them touch
pub record AllTouched (ls : List Link) (c : ℕ) (ps : List (List Item)) (s : PortSet) : Type 0 where
  pub accepted : (p : List Item) → In p ps → Accepted ls c p
  pub each : (q : Port) → Decides (holds ls s q) (ReachedByOne ls c ps q)

-- the pattern of number i is the first that is refused
pub record FirstRefused (ls : List Link) (c : ℕ) (ps : List (List Item)) (i : ℕ) (f : Fault) : Type 0 where
  pub before : List (List Item)
  pub pattern : List Item
  pub behind : List (List Item)
  pub whole : ps ≡ before ++ pattern ∷ behind
  pub number : length before ≡ i
  pub accepted : (p : List Item) → In p before → Accepted ls c p
  pub refused : searched ls c pattern ≡ Err f

-- the answer is right
abbrev pub AllJudged : List Link → ℕ → List (List Item) → Result PortSet (ℕ × Fault) → Type 0
AllJudged ls c ps (Ok s) = AllTouched ls c ps s
AllJudged ls c ps (Err e) = FirstRefused ls c ps e.0 e.1
