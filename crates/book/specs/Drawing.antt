-- The paths of a rule's own, and one of them written into a buffer.
use Rattle.std.specs.Prelude.{◌≡◌, ℕ, List, ◌++◌, length, drop, Some, Decides}
use Rattle.std.specs.List.{slice_get}
use Rattle.site.specs.Plans.{Plan}
use Rattle.paths.specs.declared.pattern.Item.{Item}
use Rattle.paths.specs.declared.ports.Port.{Port}
use Rattle.paths.specs.Paths.{Own, Touches}
use Rattle.rules.specs.Rules.{Ruling}
use Rattle.pairs.specs.Disagreement.{touches}
use Rattle.pairs.specs.Lists.{Has}

module _ {C : Type 0} (s : Plan) where
  -- a path for which one of the rule's patterns stands, and that touches the port
  pub record Reaches (r : Ruling C) (port : Port) (path : List ℕ) : Type 0 where
    pub pattern : List Item
    pub listed : Has r.patterns pattern
    pub own : Own s.links (length s.nodes) pattern path
    pub touch : Touches s.links path port

  -- some path of the rule's own touches the port
  abbrev pub Reached : Ruling C → Port → Type 0
  Reached r port = (path : List ℕ) × Reaches r port path

  -- the ports of a rule are those that its own paths touch
  abbrev pub Touching : Ruling C → Type 0
  Touching r = (port : Port) → Decides (touches s r port) (Reached r port)

  -- such a path stands at the front of the buffer, n nodes long, and the bytes behind it are kept
  pub record Drawn (r : Ruling C) (port : Port) (old : List ℕ) (n : ℕ) (new : List ℕ) : Type 0 where
    pub path : List ℕ
    pub reaches : Reaches r port path
    pub size : n ≡ length path
    pub written : new ≡ path ++ drop (length path) old

  -- such a path of the rule at the position
  abbrev pub DrawnAt : List (Ruling C) → ℕ → Port → List ℕ → ℕ → List ℕ → Type 0
  DrawnAt rs position port old n new = (r : Ruling C) × (slice_get rs position ≡ Some r) × Drawn r port old n new

  -- there is no such rule, or no such path of it
  abbrev pub NoneDrawn : List (Ruling C) → ℕ → Port → Type 0
  NoneDrawn rs position port = (r : Ruling C) → slice_get rs position ≡ Some r → Reached r port → ⊥
