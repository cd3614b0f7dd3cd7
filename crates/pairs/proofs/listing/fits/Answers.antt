use Rattle.std.proofs.Common.{[], map, not, ap, ◌∙◌}
use Rattle.site.specs.Sites.{plan}
use Rattle.rules.specs.Rules.{rule_of}
use Rattle.pairs.proofs.Naming.{upto_start}
use Rattle.pairs.proofs.Running.{At, counted, if_none, if_some}
use Rattle.pairs.proofs.listing.fits.Goals as goal

pub returns : goal.returns
returns g c =
    let made = c.of.ensures in
    let s = plan c.args.site.now in
    let k = g.K.Kind.sense in
    let rs = map rule_of c.args.rules.now in
    let at : At k s rs c.of.result [] = record { site_is = ap plan made.site; rules_are = ap (map rule_of) made.rules; upto = upto_start s k rs _ _ made.first made.second } in
    let m = counted k s rs c.of.result c.nth.new.self c.args.places c.nth.result at c.nth.ensures.ran in
    record {
      yes = λ e. if_none _ _ c.nth.result (c.is_none.ensures ∙ ap not e) m;
      none = λ e. if_some _ _ c.nth.result (c.is_none.ensures ∙ ap not e) m;
    }
