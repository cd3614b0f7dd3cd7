use Rattle.std.proofs.Common.{◌≡◌, ◌+◌, ◌^◌, ◌<◌, take, drop}
use Rattle.std.specs.List.{prefix_len}
use Rattle.kind.specs.Digits.{digit, decimal}
use Rattle.kind.proofs.decimal.number_of.Given as goal

abbrev pub invariant-loop-b : goal.invariant-loop-b
invariant-loop-b l =
    (l.n ≡ decimal (take l.b-index l.digits))
    × (l.n < 10 ^ l.b-index)
    × (l.b-index + prefix_len digit (drop l.b-index l.digits) ≡ prefix_len digit l.digits)
