use Rattle.std.proofs.Common.{◌≡◌, rules}
use Rattle.std.proofs.lemmas.Iterator.{IsFirst-from_position, YieldsList-from_slice}
use Rattle.fixed.proofs.Numbering.{found, numbered}
use Rattle.fixed.proofs.roster.Roster.number.Goals as goal

pub returns : goal.returns
returns g c =
    let first = IsFirst-from_position _ _ _ (λ x. g.T.Named.called x ≡ c.args.name.now) (λ x. g.T.Named.called x ≡ c.args.name.now → ⊥)
    c.position.ensures.ran (YieldsList-from_slice c.as_slice.result.now cc) (λ x q k. search rules) (λ x q k. search rules) in
    let least = found g.T.Named.called c.args.name.now _ _ first in
    record { is = numbered _ _ _ (rw c.as_slice.ensures at least); least = rw c.as_slice.ensures at least }
