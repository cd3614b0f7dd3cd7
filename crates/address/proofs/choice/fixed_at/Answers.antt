use Rattle.std.proofs.Common.{◌∙◌, ap, rules}
use Rattle.address.specs.Choices.{fixed_at}
use Rattle.address.proofs.Firsts.{found}
use Rattle.address.proofs.choice.fixed_at.Goals as goal

pub returns : goal.returns
returns c =
    found _ _ c.args.part (λ x r q k. search rules) c.iter.result c.find_map.new.self c.find_map.result _ c.find_map.ensures.ran c.find_map.ensures.runs
    ∙ ap (fixed_at c.args.part) c.iter.ensures.rest
