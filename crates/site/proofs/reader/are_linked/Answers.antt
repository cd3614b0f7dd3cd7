use Rattle.std.proofs.Common.{◌≡◌, true, false, refl, arith, rules}
use Rattle.std.proofs.lemmas.Iterator.{cases_from_all, YieldsList-from_range}
use Rattle.site.specs.Links.{linked}
use Rattle.site.proofs.Sealing.{asked}
use Rattle.site.proofs.reader.are_linked.Goals as goal

pub returns : goal.returns
returns c =
    asked c.args.links.now c.args.nodes _ (cases_from_all _ _ _ (λ k. linked c.args.links.now k ≡ true) (λ k. linked c.args.links.now k ≡ false) c.all.ensures.ran
    (YieldsList-from_range 0 c.args.nodes c.args.nodes refl (omega arith)) (λ x q k. search rules) (λ x q k. search rules))
