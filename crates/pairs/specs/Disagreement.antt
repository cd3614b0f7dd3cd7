-- When two rules of a site contradict each other, and which gives way; s is what the site's map says, k the kind of their conditions.
use Rattle.std.specs.Prelude.{◌≡◌, ℕ, ◌<◌, Bool, true, false, cond, length, ◌==◌, nat_lt}
use Rattle.kind.specs.Sense.{Sense}
use Rattle.site.specs.Plans.{Plan, reading_on}
use Rattle.paths.specs.declared.ports.Port.{Port}
use Rattle.paths.specs.PortSets.{holds, Shared, Lowest}
use Rattle.rules.specs.declared.verdict.Saying.{Saying}
use Rattle.rules.specs.declared.verdict.Saying.TheVariants.{Permit, Deny, Silent}
use Rattle.rules.specs.Sayings.{saying as said}
use Rattle.rules.specs.Rules.{Ruling}
use Rattle.pairs.specs.declared.answers.Entry.{Entry}
use Rattle.pairs.specs.declared.answers.Mark.{Mark}
use Rattle.pairs.specs.declared.answers.Mark.TheVariants.{Open, First, Second}

-- whether a rule touches a port
abbrev pub touches : {C : Type 0} → Plan → Ruling C → Port → Bool
touches s r port = holds s.links r.ports port

-- what a rule says of a class
abbrev pub saying : {C : Type 0} → Plan → Ruling C → ℕ → Saying
saying s r class = said (reading_on s) r class

-- one permits what the other denies
abbrev pub opposed : Saying → Saying → Bool
opposed Permit Deny = true
opposed Deny Permit = true
opposed Permit Permit = false
opposed Permit Silent = false
opposed Deny Deny = false
opposed Deny Silent = false
opposed Silent Permit = false
opposed Silent Deny = false
opposed Silent Silent = false

-- who gives way: the rule with the greater rank number
abbrev pub mark_of : ℕ → ℕ → Mark
mark_of a b = cond (a == b) Open (cond (nat_lt a b) Second First)

-- on a class of the site one permits what the other denies
abbrev pub Differ : {C : Type 0} → Plan → Ruling C → Ruling C → ℕ → Type 0
Differ s q r class = (class < length s.classes) × (opposed (saying s q class) (saying s r class) ≡ true)

-- it is the lowest such class
abbrev pub LowestClass : {C : Type 0} → Plan → Ruling C → Ruling C → ℕ → Type 0
LowestClass s q r class = Differ s q r class × ((m : ℕ) → m < class → Differ s q r m → ⊥)

module _ {C P : Type 0} (s : Plan) (k : Sense C P) where
  -- two rules contradict each other at a port, a class and a point
  pub record ContradictAt (q r : Ruling C) (port : Port) (class : ℕ) (point : P) : Type 0 where
    pub share : Shared s.links q.ports r.ports port
    pub differ : Differ s q r class
    pub first_holds : k.holds q.condition point ≡ true
    pub second_holds : k.holds r.condition point ≡ true

  -- they contradict each other: some port is touched by both, some class permitted by one and denied by the other, and both hold at some point
  pub record Contradict (q r : Ruling C) : Type 0 where
    pub port : Port
    pub class : ℕ
    pub point : P
    pub there : ContradictAt q r port class point

  -- an entry tells how two rules contradict each other
  pub record Tells (q r : Ruling C) (e : Entry P) : Type 0 where
    pub first_id : e.first_place ≡ q.place
    pub second_id : e.second_place ≡ r.place
    pub port_is : Lowest s.links q.ports r.ports e.port
    pub class_is : LowestClass s q r e.class
    pub point_is : k.gives q.condition r.condition e.point
    pub mark_is : e.mark ≡ mark_of q.rank r.rank
