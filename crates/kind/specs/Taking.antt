-- What becomes of a condition that is offered a comparison.
use Rattle.std.specs.Prelude.{Ok, Err, Result}
use Rattle.kind.specs.declared.comparison.Claim.{Claim}
use Rattle.kind.specs.declared.comparison.Claim.TheVariants.{Taken, NotMine}
use Rattle.kind.specs.declared.comparison.Declined.{Declined}
use Rattle.kind.specs.declared.comparison.Declined.TheVariants.{BadValue, Doubled}

-- it becomes another condition, or the comparison is of another kind, or its value is bad, or it doubles one that stands
pub data Taking (C : Type 0) : Type 0 where
  became : C → Taking C
  not_mine : Taking C
  bad_value : Taking C
  doubled : Taking C

-- the condition afterwards: it stays unless it became another
abbrev pub after : {C : Type 0} → C → Taking C → C
after c (became d) = d
after c not_mine = c
after c bad_value = c
after c doubled = c

-- what the caller is told
abbrev pub reply : {C : Type 0} → Taking C → Result Claim Declined
reply (became c) = Ok Taken
reply not_mine = Ok NotMine
reply bad_value = Err BadValue
reply doubled = Err Doubled
