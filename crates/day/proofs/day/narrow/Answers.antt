use Rattle.std.proofs.Common.{false, ◌&&◌, get_or, rules}
use Rattle.day.specs.Days.{stands_to}
use Rattle.kind.proofs.Filled.{filled}
use Rattle.day.proofs.day.narrow.Goals as goal

pub returns : goal.returns
returns c =
    filled _ _ (λ p. get_or c.args.days p false && stands_to c.args.sign p c.args.other) (λ x r q k. search rules) c.from_fn.result false 7 c.from_fn.ensures.items
