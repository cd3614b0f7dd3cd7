use Rattle.std.proofs.Common.{◌≡◌, [], ◌∷◌, ◌++◌, map, sym, subst, rules}
use Rattle.std.proofs.lemmas.Fn.{fold_over, slice_gives, fronts}
use Rattle.site.specs.Sites.{plan}
use Rattle.rules.specs.Rules.{rule_of}
use Rattle.deciding.specs.Deciding.{Decides}
use Rattle.deciding.specs.Tallies.{heard, counted}
use Rattle.deciding.proofs.Weighing.{Tallied, tallied_none, counts_more, weighed}
use Rattle.deciding.proofs.settling.settle.Goals as goal

pub returns : goal.returns
returns g c =
    let s = plan c.args.site.now in
    let k = g.K.Kind.sense in
    let port = c.args.spot.now.port in
    let class = c.args.spot.now.class in
    let point = c.args.spot.now.point.now in
    subst (λ z. Decides s k (map rule_of c.args.rules.now) port class point z) (sym c.verdict.ensures)
    (weighed s k port class point (map rule_of c.args.rules.now) c.fold-tally.result
    (subst (λ l. Tallied s k port class point (map rule_of l) c.fold-tally.result) c.iter.ensures.rest
    (fold_over fronts (λ y. y.now) _ (λ ys t. Tallied s k port class point (map rule_of ys) t) _
    (λ ys a x b f' j q.
    (let e : b ≡ counted a x.now.rank (heard s k port class point (rule_of x.now)) = search rules in
    (subst (λ z. Tallied s k port class point (map rule_of (ys ++ x.now ∷ [])) z) (sym e) (counts_more s k port class point ys x.now a j), search rules)))
    _ _ _ _ (slice_gives c.iter.result) (tallied_none s k port class point) c.fold-tally.ensures.ran)))
