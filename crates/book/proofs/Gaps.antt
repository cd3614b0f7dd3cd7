-- What a turn by one place of the part from i to n leaves before n - 1.
use Rattle.std.proofs.Common.{◌≡◌, ℕ, suc, ◌-◌, ◌<◌, ◌≤◌, List, ◌++◌, length, take, drop, sym, ap, ◌∙◌, append_assoc, add-one, arith, length-append, length-drop, length-take}
use borrow.Rule.Slice.PartMut.{put_mid, post_of}
use Rattle.std.specs.List.{remove, between}
use Rattle.std.proofs.lemmas.List.{take-take, take_at, drop-drop}
use Rattle.std.proofs.lemmas.Slice.{between_is}

pub closed : {X : Type 0} (xs ys : List X) (i n : ℕ) → i < n → n ≤ length xs → ys ≡ drop 1 (between i n xs) ++ take 1 (between i n xs) → take (n - 1) (put_mid i (n - i) xs ys) ≡ remove (take n xs) i
closed {X} xs ys i n lt le e =
    let front : List X = take i xs in
    let m : List X = drop 1 (between i n xs) in
    let t : List X = take 1 (between i n xs) in
    let post : List X = post_of i (n - i) xs in
    let regroup : front ++ ((m ++ t) ++ post) ≡ (front ++ m) ++ (t ++ post) = simp append_assoc in
    let len : length (front ++ m) ≡ n - 1 = simp (length-append, length-drop, length-take) (omega arith) in
    let a : m ≡ drop (suc i) (take n xs) = ap (λ z. drop 1 z) (between_is xs i n) ∙ drop-drop 1 i (take n xs) ∙ ap (λ k. drop k (take n xs)) (add-one i) in
    let b : front ≡ take i (take n xs) = sym (take-take i n xs (omega arith)) in
    ap (λ z. take (n - 1) (front ++ (z ++ post))) e
    ∙ ap (λ z. take (n - 1) z) regroup
    ∙ take_at (front ++ m) (t ++ post) (n - 1) len
    ∙ ap (λ z. z ++ m) b ∙ ap (λ z. take i (take n xs) ++ z) a

-- how many there are in a front
pub front_len : {X : Type 0} (xs : List X) (n : ℕ) → n ≤ length xs → length (take n xs) ≡ n
front_len xs n le = simp length-take (omega arith)
