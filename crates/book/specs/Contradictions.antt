-- When two rules contradict each other, in their own terms: the paths they have, what they say, and where they hold.
--
-- AtOddsAt: at a port, a class and a point. AtOdds: somewhere. AtOddsPair: the rules at two positions.
use Rattle.std.specs.Prelude.{◌≡◌, ℕ, ◌<◌, true, ◌⊎◌, List, length, Some}
use Rattle.std.specs.List.{slice_get}
use Rattle.kind.specs.Sense.{Sense}
use Rattle.site.specs.Plans.{Plan}
use Rattle.paths.specs.declared.ports.Port.{Port}
use Rattle.rules.specs.declared.verdict.Saying.{Saying}
use Rattle.rules.specs.declared.verdict.Saying.TheVariants.{Permit, Deny}
use Rattle.rules.specs.Rules.{Ruling}
use Rattle.pairs.specs.Disagreement.{saying}
use Rattle.book.specs.Drawing.{Reached}

-- one is a permit and the other a deny
abbrev pub Opposite : Saying → Saying → Type 0
Opposite a b = ((a ≡ Permit) × (b ≡ Deny)) ⊎ ((a ≡ Deny) × (b ≡ Permit))

module _ {C P : Type 0} (s : Plan) (k : Sense C P) where
  -- an own path of each touches the port, one permits the class and the other denies it, and both hold at the point
  pub record AtOddsAt (q r : Ruling C) (port : Port) (class : ℕ) (point : P) : Type 0 where
    pub first_path : Reached s q port
    pub second_path : Reached s r port
    pub declared : class < length s.classes
    pub say : Opposite (saying s q class) (saying s r class)
    pub first_holds : k.holds q.condition point ≡ true
    pub second_holds : k.holds r.condition point ≡ true

  -- so it is at some port, some class and some point
  pub record AtOdds (q r : Ruling C) : Type 0 where
    pub port : Port
    pub class : ℕ
    pub point : P
    pub there : AtOddsAt q r port class point

  -- the rules at two positions, the first before the second, contradict each other
  pub record AtOddsPair (rs : List (Ruling C)) (i j : ℕ) : Type 0 where
    pub q : Ruling C
    pub r : Ruling C
    pub first_is : slice_get rs i ≡ Some q
    pub second_is : slice_get rs j ≡ Some r
    pub in_turn : i < j
    pub at_odds : AtOdds q r
