use Rattle.std.proofs.Common.{map, Ok, Err, refl, ap, ◌∙◌, subst}
use Rattle.std.proofs.lemmas.Result.{err_from_is_err_and}
use Rattle.rules.specs.Rules.{rule_of}
use Rattle.deciding.specs.Deciding.{Decides}
use Rattle.book.specs.Books.{map_of, room, rules}
use Rattle.book.specs.Runs.{decide, decides}
use Rattle.book.proofs.Calls.{keeps, misplaced}
use Rattle.book.proofs.Laws.{decided, decided_by_paths}
use Rattle.book.proofs.Reader.{sealed}
use Rattle.book.proofs.book.Book.decide.Goals as goal

pub returns-in_err-check_place-clause-takes : goal.returns-in_err-check_place-clause-takes
returns-in_err-check_place-clause-takes g c =
    let b = c.args.self.now in
    let k = g.K.Kind.sense in
    let p = err_from_is_err_and c.from_residual.result c.from_residual.ensures.1 in
    keeps k b (decide c.args.port c.args.class c.args.point.now c.from_residual.result) (misplaced (map_of b) k (room b) (rules b) c.args.port c.args.class c.args.point.now c.from_residual.result _ (p.1 ∙ ap Err p.2) c.in_err-check_place.ensures) refl

pub returns : goal.returns
returns g c =
    let b = c.args.self.now in
    let k = g.K.Kind.sense in
    let at = c.in_ok-check_place.ensures in
    let d : Decides (map_of b) k (rules b) c.args.port c.args.class c.args.point.now c.settle.result = subst (λ z. Decides (map_of b) k (map rule_of z) c.args.port c.args.class c.args.point.now c.settle.result) c.standing.ensures c.settle.ensures in
    record {
      takes = keeps k b (decide c.args.port c.args.class c.args.point.now (Ok c.settle.result)) (decides at.port_is at.class_is at.point_is d) refl;
      law = decided (map_of b) k (sealed b.site.now) c.args.port c.args.class c.args.point.now c.settle.result at.class_is d;
      by_paths = decided_by_paths (map_of b) k (sealed b.site.now) c.args.port c.args.class c.args.point.now c.settle.result d;
    }
