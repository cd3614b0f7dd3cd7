-- What is written in place of an answer.
use Rattle.std.specs.Prelude.{ℕ, List, Vec, ◌++◌, codes, decimal, Option, Some, None, Result, Ok, Err}
use Rattle.std.specs.Fmt.{with_newline}
use Rattle.std.specs.declared.io.Error.{Error}
use Rattle.site.specs.Refusals.{number}
use Rattle.console.specs.declared.answers.NoAnswer.{NoAnswer}
use Rattle.console.specs.declared.answers.NoAnswer.TheVariants.{TooLong, Refused, Failed}

-- why there is none; what a failure of the system says is left open
abbrev pub reason : NoAnswer → Option (List ℕ)
reason TooLong = Some (codes "too long")
reason (Refused r) = Some (codes "refused " ++ (decimal (number r.cause) ++ (codes " at " ++ decimal r.place)))
reason (Failed e) = None

-- the failure of the system that leaves no answer
abbrev pub failure : NoAnswer → Option Error
failure TooLong = None
failure (Refused r) = None
failure (Failed e) = Some e

-- the answer, or a line that says why there is none
abbrev pub told : {A : Type 0} → Result (Vec ℕ A) NoAnswer → Option (List ℕ)
told (Ok text) = Some text.items
told (Err why) = with_newline (reason why)
