-- Spelling a name byte by byte.
use Rattle.std.proofs.Common.{◌≡◌, ℕ, ◌+◌, ◌<◌, ◌≤◌, Bool, true, cond, ltb, List, [], ◌∷◌, ◌++◌, length, get_or, take, sym, ap, ◌∙◌, arith}
use Rattle.std.proofs.lemmas.List.{take_more, length-take-le}
use Rattle.std.proofs.lemmas.Bool.{lt-ltb, cond-true}

-- the next byte of a name that has room for it
pub letter : (bs was after : List ℕ) (i : ℕ) (r : Bool) → was ≡ take i bs → i < length bs → length bs ≤ 16 → r ≡ ltb (length was) 16 → after ≡ cond r (was ++ get_or bs i 0 ∷ []) was → after ≡ take (i + 1) bs
letter bs was after i r w lt le t e =
    let long : length was ≡ i = ap length w ∙ length-take-le i bs (omega arith) in
    let room : r ≡ true = t ∙ lt-ltb (length was) 16 (omega arith) in
    e ∙ cond-true r _ _ room ∙ ap (λ l. l ++ get_or bs i 0 ∷ []) w ∙ sym (take_more bs i 0 lt)
