use Rattle.std.proofs.Common.{◌≡◌, map}
use Rattle.site.specs.Sites.{plan}
use Rattle.rules.specs.Rules.{rule_of}
use Rattle.pairs.proofs.Naming.{Filled}
use Rattle.pairs.proofs.listing.fill.Given as goal

abbrev pub invariant-loop-entry : goal.invariant-loop-entry
invariant-loop-entry g l =
    let at = l.entry-iterator in
    record {
      site_is : plan at.site.now ≡ plan l.site;
      rules_are : map rule_of at.pairs.rules.now ≡ map rule_of l.rules;
      filled : Filled (plan l.site) g.K.Kind.sense (map rule_of l.rules) at.pairs.first at.pairs.second l.initial.list l.list l.totals.pairs l.totals.unsettled;
    }
