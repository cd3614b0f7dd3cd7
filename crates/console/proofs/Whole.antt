-- A list of which one element more than n is taken is whole, or longer than n.
use Rattle.std.proofs.Common.{◌≡◌, ℕ, ◌+◌, ◌<◌, ◌≤◌, Bool, true, false, List, length, take, Option, Some, None, sym, ap, refl, subst, arith}
use Rattle.std.proofs.lemmas.Grind.{common_steps}
use Rattle.std.proofs.lemmas.Bool.{leb-true, leb-false}
use Rattle.std.proofs.Math.Dec.{leb}
use Rattle.std.specs.Bool.{then_some}
use Rattle.std.specs.Option.{option_map, IfSome, MatchOption}

module _ {V : Type 0} (items : V → List ℕ) (n : ℕ) (v : V) (xs : List ℕ) (taken : items v ≡ take (n + 1) xs) where
  pub whole_in : length (items v) ≤ n → items v ≡ xs
  whole_in le = let t = ap length taken in grind (arith, common_steps)

  pub whole_past : n < length (items v) → n < length xs
  whole_past lt = let t = ap length taken in grind (arith, common_steps)

kept_by : {V : Type 0} (items : V → List ℕ) (n : ℕ) (v : V) (b : Bool) (known : Option (List ℕ)) → b ≡ leb (length (items v)) n → IfSome (option_map (take (n + 1)) known) (λ xs. items v ≡ xs) → IfSome known (λ xs. MatchOption (then_some b v) (n < length xs) (λ w. items w ≡ xs))
kept_by items n v b None e h = tt
kept_by items n v true (Some xs) e h = whole_in items n v xs h (leb-true _ _ (sym e))
kept_by items n v false (Some xs) e h = whole_past items n v xs h (leb-false _ _ (sym e))

-- what is kept of a value whose items were taken so
pub kept : {V : Type 0} (items : V → List ℕ) (n : ℕ) (v : V) (o : Option V) (known : Option (List ℕ)) → o ≡ then_some (leb (length (items v)) n) v → IfSome (option_map (take (n + 1)) known) (λ xs. items v ≡ xs) → IfSome known (λ xs. MatchOption o (n < length xs) (λ w. items w ≡ xs))
kept {V} items n v o known e h =
    subst (λ (p : Option V). IfSome known (λ xs. MatchOption p (n < length xs) (λ w. items w ≡ xs))) (sym e) (kept_by items n v (leb (length (items v)) n) known refl h)
