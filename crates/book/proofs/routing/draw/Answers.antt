use Rattle.std.proofs.Common.{map, length, sym, ap}
use Rattle.std.proofs.lemmas.Bool.{ltb-true}
use Rattle.site.specs.Sites.{plan}
use Rattle.sections.specs.Routes.{items_at}
use Rattle.book.proofs.Drawn.{drawn}
use Rattle.book.proofs.routing.draw.Goals as goal

pub returns : goal.returns
returns g c =
    let at = c.in_ok-rule.ensures.lookup in
    let rs = c.args.rules.now in
    drawn (plan c.args.site.now) rs c.args.position c.args.port c.in_ok-rule.rule.now (ltb-true c.args.position (length rs) (sym at.0)) at.1 (map items_at c.as_slice.result.now) (ap (map items_at) c.as_slice.ensures)
    c.args.out.now c.own_path.new.out c.own_path.result c.requires c.own_path.ensures
