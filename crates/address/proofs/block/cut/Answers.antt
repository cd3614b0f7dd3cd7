use Rattle.std.proofs.Common.{◌≡◌, Some, None, MatchOption, length, take, drop, ◌+◌, ◌-◌, true, false, rules}
use borrow.Author.Tests.{tests}
use Rattle.std.proofs.lemmas.Iterator.{YieldsList-from_slice, IsFirst-from_position}
use Rattle.address.specs.Blocks.{no_dot, cut}
use Rattle.address.proofs.Patterns.{cut_first}
use Rattle.address.proofs.block.cut.Goals as goal

pub returns-in_err-dot : goal.returns-in_err-dot
returns-in_err-dot c =
    let found : MatchOption c.position.result (cut c.args.text.now ≡ None) (λ i. cut c.args.text.now ≡ Some (take i c.args.text.now, take (length c.args.text.now - (i + 1)) (drop (i + 1) c.args.text.now))) =
    cut_first c.args.text.now c.position.result (IsFirst-from_position _ _ _ (λ b. no_dot b ≡ false) (λ b. no_dot b ≡ true) c.position.ensures.ran (YieldsList-from_slice c.args.text.now c.iter.ensures.rest) (λ x q k. search (rules, tests)) (λ x q k. search (rules, tests))) in
    search rules

pub returns : goal.returns
returns c =
    let found : MatchOption c.position.result (cut c.args.text.now ≡ None) (λ i. cut c.args.text.now ≡ Some (take i c.args.text.now, take (length c.args.text.now - (i + 1)) (drop (i + 1) c.args.text.now))) =
    cut_first c.args.text.now c.position.result (IsFirst-from_position _ _ _ (λ b. no_dot b ≡ false) (λ b. no_dot b ≡ true) c.position.ensures.ran (YieldsList-from_slice c.args.text.now c.iter.ensures.rest) (λ x q k. search (rules, tests)) (λ x q k. search (rules, tests))) in
    search rules
