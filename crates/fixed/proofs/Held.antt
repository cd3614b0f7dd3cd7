-- How many items a bounded list holds.
use Rattle.std.proofs.Common.{◌≡◌, ℕ, ◌<◌, ◌≤◌, List, [], ◌∷◌, ◌++◌, length, Ok, Err, Result, MatchResult, arith}
use Rattle.std.proofs.lemmas.List.{length-take-le}
use Rattle.fixed.specs.declared.bounded.Full.{Full}
use Rattle.fixed.specs.declared.bounded.Table.{Table}
use Rattle.fixed.specs.Items.{items}

pub length-items : {T : Type 0} {N : ℕ} (t : Table T N) → length (items t) ≡ t.len
length-items t = length-take-le t.len t.slots (omega (arith, t.within, t.whole))

pub items_within : {T : Type 0} {N : ℕ} (t : Table T N) → length (items t) ≤ N
items_within t = omega (arith, t.within, length-items t)

-- a list with room takes one item more
pub pushed : {T : Type 0} (Q : Type 0) (N : ℕ) (xs ys : List T) (x : T) (r : Result (Unit {0}) Full) → MatchResult r (λ _. (length xs < N) × (ys ≡ xs ++ x ∷ [])) (λ _. (N ≤ length xs) × Q) → length xs < N → ys ≡ xs ++ x ∷ []
pushed Q N xs ys x (Ok u) p lt = p.1
pushed Q N xs ys x (Err e) p lt = absurd (omega (arith, p.0, lt))
