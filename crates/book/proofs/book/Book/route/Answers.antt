use Rattle.std.proofs.Common.{◌≡◌, map, Err, MatchOption, sym, refl, subst}
use Rattle.rules.specs.Rules.{rule_of}
use Rattle.book.specs.Books.{map_of, room, rules}
use Rattle.book.specs.Drawing.{DrawnAt, NoneDrawn}
use Rattle.book.specs.Runs.{Right, route, short_buffer, no_port}
use Rattle.book.proofs.Calls.{keeps, asked, right_route}
use Rattle.book.proofs.book.Book.route.Goals as goal

pub returns-then-out-lt48-clause-takes : goal.returns-then-out-lt48-clause-takes
returns-then-out-lt48-clause-takes g c =
    let b = c.args.self.now in
    let k = g.K.Kind.sense in
    let out = c.args.out.now in
    let x = subst (λ z. Right (map_of b) k (room b) (rules b) (route c.args.position c.args.port out (Err z) out)) (sym c.at.ensures) (short_buffer c.if-out-lt48.true) in
    keeps k b _ x refl

pub returns-then-not-is_in : goal.returns-then-not-is_in
returns-then-not-is_in g c =
    let b = c.args.self.now in
    let k = g.K.Kind.sense in
    let out = c.args.out.now in
    let x = subst (λ z. Right (map_of b) k (room b) (rules b) (route c.args.position c.args.port out (Err z) out)) (sym c.at-then-not-is_in.ensures) (no_port c.if-out-lt48.false (sym c.if-not-is_in.ensures)) in
    record { takes = keeps k b _ x refl; law = asked k b c.args.position c.args.port out out (Err c.at-then-not-is_in.result) x }

pub returns : goal.returns
returns g c =
    let b = c.args.self.now in
    let k = g.K.Kind.sense in
    let s = map_of b in
    let out = c.args.out.now in
    let new = c.draw-drawn.new.out in
    let x : Right s k (room b) (rules b) (route c.args.position c.args.port out c.ok_or.result new) =
    right_route s k (room b) (rules b) c.args.position c.args.port out new c.draw-drawn.result c.ok_or.result c.at-2.result c.ok_or.ensures.value c.at-2.ensures c.if-out-lt48.false (sym c.if-not-is_in.ensures)
    (subst (λ z. MatchOption c.draw-drawn.result ((new ≡ out) × NoneDrawn s (map rule_of z) c.args.position c.args.port) (λ n. DrawnAt s (map rule_of z) c.args.position c.args.port out n new)) c.standing.ensures c.draw-drawn.ensures) in
    record { takes = keeps k b _ x refl; law = asked k b c.args.position c.args.port out new c.ok_or.result x }
