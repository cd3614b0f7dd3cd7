use Rattle.std.proofs.Common.{map, refl, subst}
use Rattle.rules.specs.Rules.{rule_of}
use Rattle.pairs.specs.Pairs.{Listed}
use Rattle.book.specs.Books.{map_of, room, rules}
use Rattle.book.specs.Runs.{report}
use Rattle.book.proofs.Calls.{keeps}
use Rattle.book.proofs.Reader.{sealed}
use Rattle.book.proofs.Reporting.{right_list, listed, listed_by_paths}
use Rattle.book.proofs.book.Book.report.Goals as goal

pub returns : goal.returns
returns g c =
    let b = c.args.self.now in
    let k = g.K.Kind.sense in
    let old = c.args.list.now in
    let new = c.list_pairs.new.list in
    let a = c.list_pairs.result in
    let m : Listed (map_of b) k (rules b) old a new = subst (λ z. Listed (map_of b) k (map rule_of z) old a new) c.standing.ensures c.list_pairs.ensures in
    record {
      takes = keeps k b (report old a new) (right_list (map_of b) k (room b) old new a m) refl;
      law = listed (map_of b) k g.met.K.Kind.laws (room b) old new a m;
      by_paths = listed_by_paths (map_of b) k g.met.K.Kind.laws (sealed b.site.now) (room b) old new a m;
    }
