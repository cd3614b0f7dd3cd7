use Rattle.std.proofs.Common.{map, subst}
use Rattle.rules.specs.Rules.{rule_of}
use Rattle.lines.specs.Lines.{Lined}
use Rattle.book.specs.Books.{map_of}
use Rattle.book.proofs.book.Book.write_entry.Goals as goal

pub returns : goal.returns
returns g c =
    let b = c.args.self.now in
    subst (λ z. Lined (map_of b) g.K.Kind.sense g.K.Printable.text (map rule_of z) c.args.entry.now c.args.out.now c.write_line.result c.write_line.new.out) c.standing.ensures c.write_line.ensures
