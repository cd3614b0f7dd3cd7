use Rattle.std.proofs.Common.{◌≡◌, true, false, rules}
use Rattle.std.proofs.lemmas.Iterator.{first_from_Range}
use Rattle.site.specs.Sites.{plan}
use Rattle.rules.specs.Rules.{rule_of}
use Rattle.pairs.specs.Disagreement.{saying, opposed}
use Rattle.pairs.proofs.Classes.{lowest_class}
use Rattle.pairs.proofs.disagreement.contested.Goals as goal

pub returns : goal.returns
returns g c =
    let s = plan c.args.site.now in
    let q = rule_of c.args.one.now in
    let r = rule_of c.args.other.now in
    lowest_class s q r _ c.find.result c.class_count.ensures.is
    (first_from_Range _ _ _ c.find.result (λ x. opposed (saying s q x) (saying s r x) ≡ true) (λ x. opposed (saying s q x) (saying s r x) ≡ false) c.find.ensures.ran (λ x f k. search rules) (λ x f k. search rules))
