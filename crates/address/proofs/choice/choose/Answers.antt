use Rattle.std.proofs.Common.{◌++◌, rules}
use Rattle.address.specs.Addresses.{entries}
use Rattle.address.specs.Choices.{PartOf}
use Rattle.kind.proofs.Filled.{each_filled}
use Rattle.address.proofs.choice.choose.Goals as goal

pub returns : goal.returns
returns c = record {
  four = c.from_fn.ensures.items.long;
  part = each_filled _ _ (PartOf (entries c.args.first.now ++ entries c.args.second.now)) (λ x r q k. search rules) c.from_fn.result 0 4 c.from_fn.ensures.items;
}
