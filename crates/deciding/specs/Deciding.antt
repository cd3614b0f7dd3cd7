-- What the rules that stand decide: of those with something to say, the smallest rank number settles it.
--
-- SpeaksBy, VoiceBy, DecidesBy: for any sense of what it is for a rule to touch a port.
-- Speaks, Voice, Decides: where the sense is that the port is in the set of ports that the rule holds.
use Rattle.std.specs.Prelude.{◌≡◌, ℕ, ◌≤◌, true, List}
use Rattle.kind.specs.Sense.{Sense}
use Rattle.site.specs.Plans.{Plan}
use Rattle.paths.specs.declared.ports.Port.{Port}
use Rattle.rules.specs.declared.verdict.Saying.{Saying}
use Rattle.rules.specs.declared.verdict.Saying.TheVariants.{Permit, Deny, Silent}
use Rattle.rules.specs.Rules.{Ruling}
use Rattle.deciding.specs.declared.settling.Decision.{Decision}
use Rattle.deciding.specs.declared.settling.Decision.TheVariants as decision
use Rattle.pairs.specs.Disagreement.{touches, saying}
use Rattle.pairs.specs.Lists.{Has}

module _ {C P : Type 0} (s : Plan) (k : Sense C P) (Touch : Ruling C → Port → Type 0) where
  -- a rule touches the port, holds at the point and is not silent on the class
  pub record SpeaksBy (port : Port) (class : ℕ) (point : P) (r : Ruling C) : Type 0 where
    pub touch : Touch r port
    pub hold : k.holds r.condition point ≡ true
    pub word : saying s r class ≡ Silent → ⊥

  -- some rule of the smallest rank number among those that speak says this
  pub record VoiceBy (rs : List (Ruling C)) (port : Port) (class : ℕ) (point : P) (d : Saying) : Type 0 where
    pub r : Ruling C
    pub stands : Has rs r
    pub speaks : SpeaksBy port class point r
    pub says : saying s r class ≡ d
    pub first : (q : Ruling C) → Has rs q → SpeaksBy port class point q → r.rank ≤ q.rank

  -- the decision: permit or deny where only that is said, split where both are, silent where neither is
  abbrev pub DecidesBy : List (Ruling C) → Port → ℕ → P → Decision → Type 0
  DecidesBy rs port class point decision.Permit = VoiceBy rs port class point Permit × (VoiceBy rs port class point Deny → ⊥)
  DecidesBy rs port class point decision.Deny = (VoiceBy rs port class point Permit → ⊥) × VoiceBy rs port class point Deny
  DecidesBy rs port class point decision.Split = VoiceBy rs port class point Permit × VoiceBy rs port class point Deny
  DecidesBy rs port class point decision.Silent = (VoiceBy rs port class point Permit → ⊥) × (VoiceBy rs port class point Deny → ⊥)

-- the port is in the set of ports that the rule holds
abbrev pub Held : {C : Type 0} → Plan → Ruling C → Port → Type 0
Held s r port = touches s r port ≡ true

module _ {C P : Type 0} (s : Plan) (k : Sense C P) where
  -- a rule holds the port, holds at the point and is not silent on the class
  abbrev pub Speaks : Port → ℕ → P → Ruling C → Type 0
  Speaks port class point r = SpeaksBy s k (Held s) port class point r

  -- some rule of the smallest rank number among those that speak says this
  abbrev pub Voice : List (Ruling C) → Port → ℕ → P → Saying → Type 0
  Voice rs port class point d = VoiceBy s k (Held s) rs port class point d

  -- the decision, by the sets of ports that the rules hold
  abbrev pub Decides : List (Ruling C) → Port → ℕ → P → Decision → Type 0
  Decides rs port class point d = DecidesBy s k (Held s) rs port class point d
