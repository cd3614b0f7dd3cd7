use Rattle.std.proofs.Common.{[], map, get_or, sym, ap, ◌∙◌, arith}
use Rattle.std.proofs.lemmas.List.{get_or-map}
use Rattle.fixed.specs.Items.{items}
use Rattle.paths.proofs.roads.Roads.at.Goals as goal

pub returns : goal.returns
returns c = c.as_slice.ensures ∙ sym (get_or-map items c.args.self.now.of c.from.result c.index-self-from.result [] (omega (arith, c.args.self.now.whole, c.from.ensures)))
    ∙ ap (λ k. get_or (map items c.args.self.now.of) k []) c.from.ensures
