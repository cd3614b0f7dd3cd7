use Rattle.fixed.specs.Items.{items}
use Rattle.site.proofs.Asking.{Found}
use Rattle.site.proofs.sealed.Site.links_of.Given as goal

abbrev pub invariant-loop-i : goal.invariant-loop-i
invariant-loop-i l = Found l.links l.node l.i (items l.numbers)
