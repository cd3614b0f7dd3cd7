use Rattle.std.proofs.Common.{◌≤◌}
use Rattle.paths_cases.proofs.brute.agreeing.Given as goal

abbrev pub invariant-loop : goal.invariant-loop
invariant-loop l = l.good ≤ l.counter
