use Rattle.std.proofs.Common.{◌<◌, ◌≤◌, min, [], ◌∷◌, ◌++◌, map, length, take, Ok, Err, sym, refl, ap, ◌∙◌, subst, arith, length-set}
use mathlib.Core.List.{map-append}
use Rattle.std.proofs.lemmas.List.{take_more_set, length-map}
use Rattle.std.proofs.lemmas.Result.{err_from_is_err_and}
use Rattle.site.specs.declared.refusals.Cause.TheVariants.{IdStands, BookFull}
use Rattle.site.specs.Refusals.{refuse}
use Rattle.rules.specs.Rules.{rule_of}
use Rattle.book.specs.Books.{rules, room, Takes}
use Rattle.book.specs.Runs.{admit, admits, unread, id_stands, full, Known, read}
use Rattle.book.proofs.Calls.{keeps, changes}
use Rattle.book.proofs.Finding.{known_yes, known_no}
use Rattle.book.proofs.Gaps.{front_len}
use Rattle.book.proofs.book.Book.admit.Goals as goal

pub returns-in_err-rule : goal.returns-in_err-rule
returns-in_err-rule g c =
    let b = c.args.self.now in
    let k = g.K.Kind.sense in
    let p = err_from_is_err_and c.from_residual.result c.from_residual.ensures.1 in
    subst (λ z. Takes k b b (admit c.args.text.now c.args.place z)) (sym (p.1 ∙ ap Err p.2))
    (keeps k b (admit c.args.text.now c.args.place (Err c.in_err-rule.field-0.0)) (unread (sym c.in_err-rule.ensures.is)) refl)

pub returns-then-is_some : goal.returns-then-is_some
returns-then-is_some g c =
    let b = c.args.self.now in
    let k = g.K.Kind.sense in
    let r = c.in_ok-rule.rule in
    let known = known_yes c.as_bytes.result.now (take b.len b.slots.now) c.position.result c.position.ensures (sym c.is_some.ensures ∙ c.if-is_some.true) in
    subst (λ z. Takes k b b (admit c.args.text.now c.args.place (Err z))) (sym c.at.ensures)
    (keeps k b (admit c.args.text.now c.args.place (refuse IdStands r.place)) (id_stands (sym c.in_ok-rule.ensures.is) (subst (λ z. Known z (rules b)) c.as_bytes.ensures known)) refl)

pub returns-then-self-room : goal.returns-then-self-room
returns-then-self-room g c =
    let b = c.args.self.now in
    let k = g.K.Kind.sense in
    let r = c.in_ok-rule.rule in
    let free = known_no c.as_bytes.result.now (take b.len b.slots.now) c.position.result c.position.ensures (sym c.is_some.ensures ∙ c.if-is_some.false) in
    let long : room b ≤ length (rules b) = omega (arith, c.room.ensures, c.if-self-room.true, length-map (take b.len b.slots.now) (rule_of {C = g.row.K.Denot}), front_len b.slots.now b.len b.within) in
    subst (λ z. Takes k b b (admit c.args.text.now c.args.place (Err z))) (sym c.at-then-self-room.ensures)
    (keeps k b (admit c.args.text.now c.args.place (refuse BookFull r.place)) (full (sym c.in_ok-rule.ensures.is) (subst (λ z. Known z (rules b) → ⊥) c.as_bytes.ensures free) long) refl)

pub returns : goal.returns
returns g c =
    let b = c.args.self.now in
    let r = c.in_ok-rule.rule in
    let slots = b.slots.now in
    let is = c.in_ok-rule.ensures.is in
    let free = known_no c.as_bytes.result.now (take b.len slots) c.position.result c.position.ensures (sym c.is_some.ensures ∙ c.if-is_some.false) in
    let lt : b.len < length slots = omega (arith, c.room.ensures, c.if-self-room.false) in
    let short : length (rules b) < room b = omega (arith, c.room.ensures, c.if-self-room.false, length-map (take b.len slots) (rule_of {C = g.row.K.Denot}), front_len slots b.len b.within) in
    changes g.K.Kind.sense b _ (admit c.args.text.now c.args.place (Ok c.in_ok-rule.end))
    (admits (sym is) (subst (λ z. Known z (rules b) → ⊥) c.as_bytes.ensures free) short)
    (ap (map rule_of) (take_more_set slots b.len r lt) ∙ map-append rule_of (take b.len slots) (r ∷ []) ∙ ap (λ z. rules b ++ read z) is)
    refl (ap (λ z. min 64 z) (length-set slots b.len r))
