use Rattle.std.proofs.Common.{arith}
use Rattle.std.proofs.lemmas.Bool.Decides.{nat_tests}
use Rattle.std.proofs.lemmas.List.{get_or_past}
use Rattle.words.proofs.signs.read_sign.Goals as goal

pub returns-in-62-2 : goal.returns-in-62-2
returns-in-62-2 c = record { is = grind (arith, nat_tests, get_or_past c.args.part.now 1 0); within = grind (arith, nat_tests) }

pub returns-in-61-2 : goal.returns-in-61-2
returns-in-61-2 c = record { is = grind (arith, nat_tests, get_or_past c.args.part.now 1 0); within = grind (arith, nat_tests) }

pub returns-in-60-2 : goal.returns-in-60-2
returns-in-60-2 c = record { is = grind (arith, nat_tests, get_or_past c.args.part.now 1 0); within = grind (arith, nat_tests) }

pub returns-in_default : goal.returns-in_default
returns-in_default c = record { is = grind (arith, nat_tests, get_or_past c.args.part.now 0 0); within = grind (arith, nat_tests) }

pub returns-in_default-2 : goal.returns-in_default-2
returns-in_default-2 c = record { is = grind (arith, nat_tests, get_or_past c.args.part.now 1 0); within = grind (arith, nat_tests) }
