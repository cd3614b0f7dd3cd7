use Rattle.std.proofs.Common.{◌≡◌, ℕ, ◌-◌, ◌<◌, true, ◌++◌}
use Rattle.address.specs.Choices.{excluded_at}
use Rattle.address.proofs.Chained.{ahead}
use Rattle.address.proofs.choice.least_free.Given as goal

abbrev pub invariant-candidates : goal.invariant-candidates
invariant-candidates l = (u : ℕ) → u < l.candidate → excluded_at l.part u (l.first ++ l.second) ≡ true

abbrev pub decreases-candidates : goal.decreases-candidates
decreases-candidates l = 16 - l.candidate

abbrev pub invariant-loop-entry : goal.invariant-loop-entry
invariant-loop-entry l =
    ((u : ℕ) → u < l.candidate → excluded_at l.part u (l.first ++ l.second) ≡ true)
    × (excluded_at l.part l.candidate (ahead l.entry-iterator) ≡ excluded_at l.part l.candidate (l.first ++ l.second))
    × (l.candidate ≡ l.initial.candidate)
