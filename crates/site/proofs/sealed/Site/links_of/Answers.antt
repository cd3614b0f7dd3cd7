use Rattle.std.proofs.Common.{◌+◌, ◌≤◌, ◌++◌, length, sym, ap, ◌∙◌, subst, arith}
use Rattle.fixed.specs.Items.{items}
use Rattle.fixed.proofs.Held.{items_within, pushed}
use Rattle.site.specs.Links.{links_at}
use Rattle.site.proofs.Asking.{Found, passed, noted, found_all}
use Rattle.site.proofs.sealed.Site.links_of.Goals as goal
use Rattle.site.proofs.sealed.Site.links_of.Goals.{then-ends_at, else-ends_at}

pub loop-i-init : goal.loop-i-init
loop-i-init c = record {
  few = omega (arith, ap length c.new-numbers.ensures);
  rest = ap (λ l. l ++ links_at c.links-links.result.now c.args.node) c.new-numbers.ensures;
}

pub loop-i-preserved : goal.loop-i-preserved
loop-i-preserved c =
    let few : length c.links-links.result.now ≤ 64 = omega (arith, ap length c.links-links.ensures, items_within c.args.self.now.draft.links) in
    elim c.if-ends_at.branch [
      | then-ends_at w ↦ subst (λ (t : _). Found c.links-links.result.now c.args.node (c.loop-i.i + 1) (items t)) (sym w.numbers-is)
          (noted c.links-links.result.now c.args.node c.loop-i.i (items c.loop-i.numbers) c.loop-i.invariant (items w.push.new.self) c.loop-i-test.true (sym c.ends_at.ensures ∙ w.if-ends_at.true)
          (pushed _ 64 _ _ _ w.push.result w.push.ensures (omega (arith, c.loop-i.invariant.few, c.loop-i-test.true, few))))
      | else-ends_at w ↦ subst (λ (t : _). Found c.links-links.result.now c.args.node (c.loop-i.i + 1) (items t)) (sym w.numbers-is)
          (passed c.links-links.result.now c.args.node c.loop-i.i (items c.loop-i.numbers) c.loop-i.invariant c.loop-i-test.true (sym c.ends_at.ensures ∙ w.if-ends_at.false))
    ]

pub returns : goal.returns
returns c =
    found_all c.links-links.result.now c.args.node c.loop-i.i (items c.loop-i.numbers) c.loop-i.invariant c.loop-i-test.false
    ∙ ap (λ l. links_at l c.args.node) c.links-links.ensures
