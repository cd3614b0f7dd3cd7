use Rattle.std.proofs.Common.{◌≡◌, ◌<◌, sym, ◌∙◌, ap, subst, rules}
use Rattle.std.specs.Result.{OkIff}
use Rattle.std.specs.Option.{unwrap_or}
use Rattle.sections.proofs.Digits.{not_digits, many_digits, few_digits, written, limited}
use Rattle.sections.proofs.action.priority_of.Goals as goal

pub returns-then-not-are_digits : goal.returns-then-not-are_digits
returns-then-not-are_digits c = ap Rattle.std.proofs.Common.Err c.at.ensures ∙ not_digits c.args.bytes.now c.args.place (sym c.are_digits.ensures ∙ c.if-not-are_digits.true)

pub returns-then-bytes-gt3 : goal.returns-then-bytes-gt3
returns-then-bytes-gt3 c =
    ap Rattle.std.proofs.Common.Err c.at-then-bytes-gt3.ensures ∙ many_digits c.args.bytes.now c.args.place (sym c.are_digits.ensures ∙ c.if-not-are_digits.false) c.if-bytes-gt3.true

pub returns : goal.returns
returns c =
    let all = sym c.are_digits.ensures ∙ c.if-not-are_digits.false in
    let is = c.unwrap_or-number.ensures ∙ ap (λ o. unwrap_or o 0) c.number_of.ensures ∙ written c.args.bytes.now all c.if-bytes-gt3.false in
    let e : c.map_err.result ≡ limited c.args.place c.try_from.result = search rules in
    e ∙ few_digits c.args.bytes.now c.args.place all c.if-bytes-gt3.false c.try_from.result (subst (λ n. OkIff c.try_from.result (n < 256) n) is c.try_from.ensures)
