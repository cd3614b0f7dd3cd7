-- Runs of digits and the numbers that they write.
use Rattle.std.proofs.Common.{◌≡◌, ℕ, ◌+◌, ◌*◌, ◌^◌, ◌<◌, ◌≤◌, List, length, Some, None, sym, ap, ◌∙◌, pow-suc, add-one, arith}
use Rattle.std.specs.List.{prefix_len}
use Rattle.std.proofs.lemmas.Bool.{cond-false, or_from, le-ltb, ne_eqb}
use Rattle.kind.specs.Digits.{digit, decimal, number}

-- one to four digits and nothing else
pub number_some : (bs : List ℕ) (n : ℕ) → 0 < length bs → length bs ≤ 4 → prefix_len digit bs ≡ length bs → n ≡ decimal bs → Some n ≡ number bs
number_some bs n some few all e =
    ap Some e ∙ sym (cond-false _ None (Some (decimal bs)) (or_from _ _ (ne_eqb _ _ (omega arith)) (or_from _ _ (le-ltb _ _ few) (le-ltb _ _ (omega arith)))))

-- one more digit
pub below_power : (n d i : ℕ) → n < 10 ^ i → d < 10 → 10 * n + d < 10 ^ (i + 1)
below_power n d i h k = rw (add-one, pow-suc) (omega arith)
