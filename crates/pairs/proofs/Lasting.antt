-- How many pairs are left of a walk.
use Rattle.std.proofs.Common.{◌≡◌, ℕ, ◌+◌, ◌-◌, ◌*◌, ◌<◌, suc, subst, sym, arith}
use Rattle.pairs.specs.Walking.{left}

-- a row is longer than any place in it
row : (k m n j : ℕ) → k ≡ suc m → j < n → j < k * (n + 1)
row k m n j e lt = subst (λ z. j < z * (n + 1)) (sym e) (more m n j lt)
  where
    more : (m n j : ℕ) → j < n → j < suc m * (n + 1)
    more m n j lt = omega arith

pub same_row : (n i j : ℕ) → i < j → j < n → left n i (j + 1) < left n i j
same_row n i j l m = let r = row (n - i) (n - (i + 1)) n j (omega arith) m in omega (arith, r)

rows : (m n i j : ℕ) → j < n → m * (n + 1) - (i + 1 + 1) < suc m * (n + 1) - j
rows m n i j lt = omega arith

pub next_row : (n i j : ℕ) → i < j → j < n → left n (i + 1) (i + 1 + 1) < left n i j
next_row n i j l m =
    let e : n - i ≡ suc (n - (i + 1)) = omega arith in
    subst (λ z. (n - (i + 1)) * (n + 1) - (i + 1 + 1) < z * (n + 1) - j) (sym e) (rows (n - (i + 1)) n i j m)
