use Rattle.rules.specs.Rules.{rule_of}
use Rattle.lines.proofs.lines.heading.Goals as goal

pub returns : goal.returns
returns g c =
    let a = c.in_ok-first.ensures in
    let b = c.in_ok-second.ensures in
    (rule_of c.in_ok-first.first.now, rule_of c.in_ok-second.second.now, record { first_is = a.0; second_is = b.0; share = record { one = a.1; other = b.1 } }, c.front.ensures)
