-- What a rule says of a traffic class: it follows from the reading, the target and the action.
use Rattle.std.specs.Prelude.{◌≡◌, ℕ, Bool, true, false, cond, ◌⊎◌, ◌↔◌}
use Rattle.site.specs.declared.parts.Reading.{Reading}
use Rattle.site.specs.declared.parts.Reading.TheVariants.{Implied, Spoken}
use Rattle.sections.specs.declared.action.Action.{Action}
use Rattle.sections.specs.declared.action.Action.TheVariants as action
use Rattle.rules.specs.declared.verdict.Saying.{Saying}
use Rattle.rules.specs.declared.verdict.Saying.TheVariants.{Permit, Deny, Silent}
use Rattle.sections.specs.Classes.{within}
use Rattle.rules.specs.Rules.{Ruling}

-- whether an action permits: a priority does
abbrev pub permits : Action → Bool
permits action.Permit = true
permits action.Deny = false
permits (action.Priority n) = true

-- whether a class is in the target of a rule
abbrev pub targets : {C : Type 0} → Ruling C → ℕ → Bool
targets r n = within r.scope r.classes n

-- the saying of an action, given whether the class is in the target
abbrev pub saying_of : Reading → Action → Bool → Saying
saying_of Implied a m = cond (permits a) (cond m Permit Deny) Deny
saying_of Spoken a m = cond m (cond (permits a) Permit Deny) Silent

-- what a rule says of a class
abbrev pub saying : {C : Type 0} → Reading → Ruling C → ℕ → Saying
saying reading r n = saying_of reading r.action (targets r n)

-- under the implied reading a rule permits the target classes of a permitting action and denies every other class,
-- and a deny rule denies every class; under the spoken reading a rule permits or denies its target classes and is
-- silent on the rest
abbrev pub Said : {C : Type 0} → Reading → Ruling C → ℕ → Saying → Type 0
Said Implied r n s = ((s ≡ Permit) ↔ ((permits r.action ≡ true) × (targets r n ≡ true))) × ((s ≡ Deny) ↔ ((permits r.action ≡ false) ⊎ (targets r n ≡ false)))
Said Spoken r n s = ((s ≡ Permit) ↔ ((permits r.action ≡ true) × (targets r n ≡ true))) × ((s ≡ Deny) ↔ ((permits r.action ≡ false) × (targets r n ≡ true))) × ((s ≡ Silent) ↔ (targets r n ≡ false))
