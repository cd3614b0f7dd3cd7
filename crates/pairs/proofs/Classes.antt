-- The lowest class on which two rules differ.
use Rattle.std.proofs.Common.{◌≡◌, ℕ, ◌<◌, ◌≤◌, true, false, length, Some, None, Option, MatchOption, arith}
use Rattle.std.proofs.lemmas.Bool.{both_ways}
use Rattle.site.specs.Plans.{Plan}
use Rattle.rules.specs.Rules.{Ruling}
use Rattle.pairs.specs.Disagreement.{saying, opposed, Differ, LowestClass}

module _ {C : Type 0} (s : Plan) (q r : Ruling C) where
  -- what a search of the first n numbers found
  pub lowest_class : (n : ℕ) (o : Option ℕ) → n ≡ length s.classes
      → MatchOption o ((k : ℕ) → 0 ≤ k → k < n → opposed (saying s q k) (saying s r k) ≡ false) (λ i. (0 ≤ i) × (i < n) × (opposed (saying s q i) (saying s r i) ≡ true) × ((k : ℕ) → 0 ≤ k → k < i → opposed (saying s q k) (saying s r k) ≡ false))
      → MatchOption o ((c : ℕ) → Differ s q r c → ⊥) (λ c. LowestClass s q r c)
  lowest_class n None e m = λ c d. both_ways _ (m c (omega arith) (let l = d.0 in omega arith)) d.1
  lowest_class n (Some i) e m = ((let l = m.1 in omega arith, m.2), λ k lt d. both_ways _ (m.3 k (omega arith) lt) d.1)
