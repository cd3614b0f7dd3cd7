use Rattle.std.proofs.Common.{◌≡◌, sym, ◌∙◌, subst, rules}
use Rattle.words.specs.Words.{moved, wants_value, due_from}
use Rattle.words.specs.Writing.{ReadAsItStands}
use Rattle.words.proofs.Standing.{as_it_stands}
use Rattle.words.proofs.Steps.{due_moved}
use Rattle.words.proofs.words.word_from.Goals as goal

is_due : (c : goal.After-map_err) → c.map_err.result ≡ due_from (wants_value c.args.due) c.args.text.now c.args.at
is_due c =
    let e : c.map_err.result ≡ moved c.min-start.result c.read.result = search rules in
    e ∙ due_moved c.args.text.now c.args.at c.min-start.result c.min-start.ensures (wants_value c.args.due) _ c.read.ensures.is

pub returns-clause-is : goal.returns-clause-is
returns-clause-is c = is_due c

pub returns-clause-law : goal.returns-clause-law
returns-clause-law c = subst (ReadAsItStands (wants_value c.args.due) c.args.text.now c.args.at) (sym (is_due c)) (as_it_stands (wants_value c.args.due) c.args.text.now c.args.at)
