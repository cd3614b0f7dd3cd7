-- Whether a pair is open, as a number.
use Rattle.std.proofs.Common.{◌≡◌, refl}
use mir.Val.{bool_byte}
use denote.Enum.Bare.{sameb}
use Rattle.pairs.specs.contracts.answers.Mark.{the_type}
use Rattle.pairs.specs.declared.answers.Mark.{Mark}
use Rattle.pairs.specs.declared.answers.Mark.TheVariants.{Open, First, Second}
use Rattle.pairs.specs.Pairs.{one_open}

pub one_is : (m : Mark) → bool_byte (sameb the_type m Open) ≡ one_open m
one_is Open = refl
one_is First = refl
one_is Second = refl
