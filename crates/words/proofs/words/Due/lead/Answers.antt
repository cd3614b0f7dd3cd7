use Rattle.std.proofs.Common.{arith}
use Rattle.std.proofs.lemmas.List.Sums.{prefix_len-le-length}
use Rattle.fixed.specs.Spelling.{name_byte}
use Rattle.words.proofs.words.Due.lead.Goals as goal

pub returns-in_default-clause-within : goal.returns-in_default-clause-within
returns-in_default-clause-within c = grind (arith, prefix_len-le-length name_byte c.args.bytes.now)
