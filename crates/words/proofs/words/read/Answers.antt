use Rattle.std.proofs.Common.{◌≡◌, sym, ap, ◌∙◌, rules}
use Rattle.words.specs.Words.{wants_value}
use Rattle.words.proofs.Steps.{due_at_rest, due_placed, placed}
use Rattle.words.proofs.words.read.Goals as goal

pub returns-clause-is : goal.returns-clause-is
returns-clause-is c =
    let e : c.ok_or.result ≡ placed c.blank_run-from.result c.lead.result = search rules in
    e
    ∙ ap (placed c.blank_run-from.result) c.lead.ensures.is
    ∙ sym (due_placed (wants_value c.args.due) _ _ (sym c.if-is_empty.ensures))
    ∙ due_at_rest (wants_value c.args.due) _ _ c.blank_run-from.ensures.is
