-- How a decision is counted out, rule by rule: what the rules of the smallest rank number so far said.
use Rattle.std.specs.Prelude.{ℕ, cond, ◌&&◌, Option, Some, None, nat_lt}
use Rattle.kind.specs.Sense.{Sense}
use Rattle.site.specs.Plans.{Plan}
use Rattle.paths.specs.declared.ports.Port.{Port}
use Rattle.rules.specs.declared.verdict.Saying.{Saying}
use Rattle.rules.specs.declared.verdict.Saying.TheVariants.{Permit, Deny, Silent}
use Rattle.rules.specs.Rules.{Ruling}
use Rattle.deciding.specs.declared.settling.Decision.{Decision}
use Rattle.deciding.specs.declared.settling.Decision.TheVariants as decision
use Rattle.deciding.specs.declared.settling.Hearing.{Hearing}
use Rattle.deciding.specs.declared.settling.Said.{Said}
use Rattle.deciding.specs.declared.settling.Said.TheVariants as said
use Rattle.pairs.specs.Disagreement.{touches, saying}

-- what a rule says where it touches the port and holds at the point; else it is silent
abbrev pub heard : {C P : Type 0} → Plan → Sense C P → Port → ℕ → P → Ruling C → Saying
heard s k port class point r = cond (touches s r port && k.holds r.condition point) (saying s r class) Silent

-- both at one rank number
abbrev pub both : Said → Said → Said
both said.Permit said.Permit = said.Permit
both said.Permit said.Deny = said.Both
both said.Permit said.Both = said.Both
both said.Deny said.Permit = said.Both
both said.Deny said.Deny = said.Deny
both said.Deny said.Both = said.Both
both said.Both said.Permit = said.Both
both said.Both said.Deny = said.Both
both said.Both said.Both = said.Both

-- both in one: the smaller rank number counts
abbrev pub joined : Hearing → Hearing → Hearing
joined t u = cond (nat_lt t.rank u.rank) t (cond (nat_lt u.rank t.rank) u (record { rank = t.rank; said = both t.said u.said }))

-- what was heard so far, if anything, and what is heard next
abbrev pub with : Option Hearing → Hearing → Hearing
with None u = u
with (Some t) u = joined t u

-- the same, with what one rule more says
abbrev pub counted : Option Hearing → ℕ → Saying → Option Hearing
counted t rank Silent = t
counted t rank Permit = Some (with t (record { rank = rank; said = said.Permit }))
counted t rank Deny = Some (with t (record { rank = rank; said = said.Deny }))

-- the decision, by what was said at one rank number
abbrev pub by_said : Said → Decision
by_said said.Permit = decision.Permit
by_said said.Deny = decision.Deny
by_said said.Both = decision.Split

-- the decision, by what was heard, if anything
abbrev pub verdict : Option Hearing → Decision
verdict None = decision.Silent
verdict (Some t) = by_said t.said
