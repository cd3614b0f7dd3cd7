use Rattle.std.proofs.Common.{◌≡◌, ◌++◌, Some, rules}
use Rattle.std.specs.Prelude.{MatchOption}
use Rattle.address.specs.Addresses.{entries}
use Rattle.address.specs.Choices.{fixed_at, LeastFree}
use Rattle.address.proofs.Choices.{part_kept}
use Rattle.address.proofs.choice.part_of.Goals as goal

pub returns : goal.returns
returns c =
    let i = c.args.part in
    let xs = entries c.args.first.now in
    let ys = entries c.args.second.now in
    let o = c.or_else.result in
    let v = c.unwrap_or_else.result in
    let first : MatchOption (fixed_at i xs) (o ≡ fixed_at i ys) (λ w. o ≡ Some w) = search rules in
    let then' : MatchOption o (LeastFree i (xs ++ ys) v) (λ w. v ≡ w) = search rules in
    part_kept i xs ys o v first then'
