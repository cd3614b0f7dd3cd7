use Rattle.std.proofs.Common.{refl, rules}
use Rattle.site.specs.Sites.{plan}
use Rattle.pairs.proofs.Searching.{found}
use Rattle.pairs.proofs.clashing.ClashesIterator.next.Goals as goal

pub returns-clause-steps : goal.returns-clause-steps
returns-clause-steps g c =
    let w = found (plan c.args.self.now.site.now) g.K.Kind.sense _ _ (λ x r q call. (search rules, search rules)) c.args.self.now.pairs c.find_map.new.self c.find_map.result _ c.find_map.ensures.ran c.find_map.ensures.runs in
    (refl, w.0, w.1)
