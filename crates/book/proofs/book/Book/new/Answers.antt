use Rattle.site.specs.Sites.{plan}
use Rattle.book.specs.Runs.{at_first}
use Rattle.book.proofs.Only.{one_answer}
use Rattle.book.proofs.book.Book.new.Goals as goal

pub returns-clause-starts : goal.returns-clause-starts
returns-clause-starts g c = at_first

pub returns-clause-fixed : goal.returns-clause-fixed
returns-clause-fixed g c = one_answer (plan c.args.site.now) g.K.Kind.sense g.met.K.Kind.laws
