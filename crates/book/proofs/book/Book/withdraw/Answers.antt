use Rattle.std.proofs.Common.{◌<◌, ◌-◌, min, map, take, Ok, Err, sym, refl, ap, ◌∙◌, subst, arith}
use borrow.Rule.Slice.PartMut.{same_len_mid}
use Rattle.std.proofs.lemmas.Option.{MatchOption-at_some, MatchOption-at_none}
use Rattle.std.proofs.lemmas.Result.{err_from_is_err_and}
use Rattle.site.specs.declared.refusals.Cause.TheVariants.{NoSuchId}
use Rattle.site.specs.Refusals.{refuse}
use Rattle.rules.specs.Rules.{rule_of}
use Rattle.lines.proofs.Behind.{none_was, some_was}
use Rattle.book.specs.Books.{Takes}
use Rattle.book.specs.Runs.{withdraw, withdraws, no_such_id}
use Rattle.book.proofs.Calls.{keeps, changes}
use Rattle.book.proofs.Finding.{known_at}
use Rattle.book.proofs.Gaps.{closed, front_len}
use Rattle.book.proofs.book.Book.withdraw.Goals as goal

pub returns-in_err-i : goal.returns-in_err-i
returns-in_err-i g c =
    let b = c.args.self.now in
    let k = g.K.Kind.sense in
    let p = err_from_is_err_and c.from_residual.result c.from_residual.ensures.1 in
    let w = none_was c.position.result c.at.result _ (sym c.ok_or.ensures.value ∙ c.in_err-i.was) in
    let none = MatchOption-at_none _ _ w.0 (known_at c.args.id.now (take b.len b.slots.now) c.position.result c.position.ensures) in
    subst (λ z. Takes k b b (withdraw c.args.id.now z)) (sym (p.1 ∙ ap Err (p.2 ∙ w.1 ∙ c.at.ensures))) (keeps k b (withdraw c.args.id.now (refuse NoSuchId 0)) (no_such_id none) refl)

pub returns : goal.returns
returns g c =
    let b = c.args.self.now in
    let slots = b.slots.now in
    let i = c.in_ok-i.i in
    let found = MatchOption-at_some _ _ i (some_was c.position.result c.at.result i (sym c.ok_or.ensures.value ∙ c.in_ok-i.was)) (known_at c.args.id.now (take b.len slots) c.position.result c.position.ensures) in
    let lt : i < b.len = omega (arith, found.0, front_len slots b.len b.within) in
    changes g.K.Kind.sense b _ (withdraw c.args.id.now (Ok tt)) (withdraws found.1)
    (ap (map rule_of) (closed slots _ i b.len lt b.within c.rotate_left.ensures.after) ∙ found.2)
    refl (ap (λ z. min 64 z) (same_len_mid i (b.len - i) slots _ c.rotate_left.ensures.len))
