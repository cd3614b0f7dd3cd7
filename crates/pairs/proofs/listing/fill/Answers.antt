use Rattle.std.proofs.Common.{◌≡◌, ◌+◌, map, length, set, Some, None, sym, ap, ◌∙◌, subst, rules}
use borrow.Author.Rules.{scaled_Fits}
use mir.Val.{bool_byte}
use Rattle.site.specs.Sites.{plan}
use Rattle.rules.specs.Rules.{rule_of}
use Rattle.pairs.specs.declared.clashing.Clashes.{Clashes}
use Rattle.pairs.specs.Pairs.{one_open}
use Rattle.pairs.proofs.Marks.{one_is}
use Rattle.pairs.proofs.Naming.{Filled, filled_none, filled_more, filled_room, filled_all}
use Rattle.pairs.proofs.Running.{onward}
use Rattle.pairs.proofs.listing.fill.Goals as goal

pub loop-entry-init : goal.loop-entry-init
loop-entry-init g c =
    let is = c.into_iter-entry-iterator.ensures.into_iter_gives in
    let made = c.of-entry-items.ensures in
    record {
      site_is = ap (λ (z : Clashes g.row.K.Denot). plan z.site.now) is ∙ ap plan made.site;
      rules_are = ap (λ (z : Clashes g.row.K.Denot). map rule_of z.pairs.rules.now) is ∙ ap (map rule_of) made.rules;
      filled = filled_none (plan c.args.site.now) g.K.Kind.sense (map rule_of c.args.rules.now) _ _ c.args.list.now (ap (λ (z : Clashes g.row.K.Denot). z.pairs.first) is ∙ made.first) (ap (λ (z : Clashes g.row.K.Denot). z.pairs.second) is ∙ made.second);
    }

pub offset_bounds-list-totals : goal.offset_bounds-list-totals
offset_bounds-list-totals g c =
    let s = plan c.args.site.now in
    let k = g.K.Kind.sense in
    let inv = c.loop-entry.invariant in
    let on = onward k s (map rule_of c.args.rules.now) _ _ _ _ (Some c.in-Some.entry) inv.site_is inv.rules_are c.in-Some.ensures.steps.2 in
    scaled_Fits _ (length c.loop-entry.list) _ (filled_room s k g.met.K.Kind.laws c.in-Some.entry on c.requires inv.filled) (search rules)

pub bounds-list-totals : goal.bounds-list-totals
bounds-list-totals g c =
    let s = plan c.args.site.now in
    let k = g.K.Kind.sense in
    let inv = c.loop-entry.invariant in
    let on = onward k s (map rule_of c.args.rules.now) _ _ _ _ (Some c.in-Some.entry) inv.site_is inv.rules_are c.in-Some.ensures.steps.2 in
    filled_room s k g.met.K.Kind.laws c.in-Some.entry on c.requires inv.filled

pub loop-entry-preserved : goal.loop-entry-preserved
loop-entry-preserved g c =
    let s = plan c.args.site.now in
    let k = g.K.Kind.sense in
    let rs = map rule_of c.args.rules.now in
    let inv = c.loop-entry.invariant in
    let t = c.in-Some.ensures.steps in
    let e = c.in-Some.entry in
    let at = c.next.new.self.pairs in
    let u = c.loop-entry.totals.unsettled in
    let on = onward k s rs _ _ _ _ (Some e) inv.site_is inv.rules_are t.2 in
    let one : one_open e.mark ≡ c.from.result = sym (c.from.ensures ∙ ap bool_byte c.eq.ensures ∙ one_is e.mark) in
    record {
      site_is = ap plan t.0 ∙ inv.site_is;
      rules_are = ap (map rule_of) t.1 ∙ inv.rules_are;
      filled = subst (λ z. Filled s k rs at.first at.second c.args.list.now (set c.loop-entry.list c.loop-entry.totals.pairs e) (c.loop-entry.totals.pairs + 1) (u + z)) one (filled_more s k e on (filled_room s k g.met.K.Kind.laws e on c.requires inv.filled) inv.filled);
    }

pub returns : goal.returns
returns g c =
    let inv = c.loop-entry.invariant in
    filled_all (plan c.args.site.now) g.K.Kind.sense (onward g.K.Kind.sense (plan c.args.site.now) (map rule_of c.args.rules.now) _ _ c.next.new.self.pairs.first c.next.new.self.pairs.second None inv.site_is inv.rules_are c.in-None.ensures.steps.2) inv.filled
