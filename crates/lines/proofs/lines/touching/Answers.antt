use Rattle.std.proofs.Common.{length, sym}
use Rattle.std.proofs.lemmas.Bool.{ltb-true}
use Rattle.site.specs.Sites.{plan}
use Rattle.lines.proofs.Behind.{touching}
use Rattle.lines.proofs.lines.touching.Goals as goal

pub returns : goal.returns
returns g c =
    let rs = c.args.rules.now in
    let at = c.in_ok-rule.ensures.lookup in
    rw c.then_some.ensures (touching (plan c.args.site.now) rs c.args.port c.args.position c.contains.result c.in_ok-rule.rule (ltb-true c.args.position (length rs) (sym at.0)) at.1 c.contains.ensures)
