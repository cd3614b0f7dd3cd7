use Rattle.std.proofs.Common.{◌≡◌, ℕ, ◌+◌, ◌<◌, ◌≤◌, true, ◌||◌, ◌++◌, sym, ap, ◌∙◌, subst, arith, length-append, below_more}
use Rattle.address.specs.Addresses.{entries}
use Rattle.address.specs.Choices.{excluded_at, LeastFree}
use Rattle.address.proofs.Chained.{ahead, more_ahead, none_ahead}
use Rattle.address.proofs.Exclusions.{excluded_few}
use Rattle.address.proofs.choice.least_free.Goals as goal

-- the candidate and all values below it are excluded
upto : (c : goal.Then-excludes) (u : ℕ) → u < c.loop-entry.candidate + 1 → excluded_at c.args.part u (c.entries-first.result.now ++ c.entries-second.result.now) ≡ true
upto c =
    let next = more_ahead c.loop-entry.entry-iterator c.next.new.self c.next.result c.in-Some.entry c.in-Some.is c.next.ensures.steps in
    below_more _ _ c.loop-entry.invariant.0
    (sym c.loop-entry.invariant.1 ∙ ap (excluded_at c.args.part c.loop-entry.candidate) next
    ∙ ap (λ b. b || excluded_at c.args.part c.loop-entry.candidate (ahead c.next.new.self)) (sym c.if-excludes.ensures))

-- so there are at most sixteen of them
few : (c : goal.Then-excludes) → c.loop-entry.candidate + 1 ≤ 16
few c =
    let most = excluded_few c.args.part (c.entries-first.result.now ++ c.entries-second.result.now) (c.loop-entry.candidate + 1) (upto c) in
    let long = length-append c.entries-first.result.now c.entries-second.result.now in
    omega (arith, c.requires)

pub overflow_add-candidate : goal.overflow_add-candidate
overflow_add-candidate c = let most = few c in omega arith

pub candidates-smaller : goal.candidates-smaller
candidates-smaller c = let most = few c in omega (arith, c.loop-entry.invariant.2)

pub candidates-preserved : goal.candidates-preserved
candidates-preserved c = upto c

pub returns : goal.returns
returns c =
    let none = none_ahead c.loop-entry.entry-iterator c.next.new.self c.next.result c.in-None.is c.next.ensures.steps in
    let same : c.entries-first.result.now ++ c.entries-second.result.now ≡ entries c.args.first.now ++ entries c.args.second.now = cc in
    subst (λ es. LeastFree c.args.part es c.loop-entry.candidate) same (record {
      free = sym c.loop-entry.invariant.1 ∙ ap (excluded_at c.args.part c.loop-entry.candidate) none;
      least = c.loop-entry.invariant.0;
    })
