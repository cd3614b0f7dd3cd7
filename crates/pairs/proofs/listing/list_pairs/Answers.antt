use Rattle.std.proofs.Common.{map, Err, sym, refl, subst}
use Rattle.site.specs.Sites.{plan}
use Rattle.rules.specs.Rules.{rule_of}
use Rattle.pairs.specs.Pairs.{Listed, reports, short_list}
use Rattle.pairs.proofs.listing.list_pairs.Goals as goal

pub returns-then-not-fits : goal.returns-then-not-fits
returns-then-not-fits g c =
    let m = c.if-not-fits.ensures.none refl in
    subst (λ z. Listed (plan c.args.site.now) g.K.Kind.sense (map rule_of c.args.rules.now) c.args.list.now (Err z) c.args.list.now) (sym c.at.ensures) (short_list m.1 m.2)

pub returns : goal.returns
returns g c = reports c.fill.ensures
