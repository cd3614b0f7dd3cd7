-- A text, a blank and a text, written one after the other.
use Rattle.std.proofs.Common.{◌≡◌, ℕ, ◌+◌, ◌-◌, ◌<◌, ◌≤◌, List, [], ◌∷◌, ◌++◌, length, get_or, take, drop, set, Some, sym, ap, ◌∙◌, append_assoc, arith, length-append}
use borrow.Rule.Slice.PartMut.{put_mid, post_of, Post-is}
use Rattle.std.proofs.lemmas.List.{take_at, drop_at, drop_all, drop-drop, drop_more, set_at, append-nil, take_rest}
use Rattle.kind.specs.Texts.{Printed}

-- how long a text, a blank and a text are together
spaced_length : (a b t : List ℕ) → t ≡ a ++ (32 ∷ b) → length t ≡ length a + (1 + length b)
spaced_length a b t whole = ap length whole ∙ simp length-append (omega arith)

-- writing over the end of a list
over_end : {X : Type 0} (p ys zs : List X) (n : ℕ) → length p ≡ n → put_mid n (length (p ++ ys) - n) (p ++ ys) zs ≡ p ++ zs
over_end p ys zs n e =
    let le : n ≤ length (p ++ ys) = simp length-append (omega arith) in
    let post : post_of n (length (p ++ ys) - n) (p ++ ys) ≡ [] = Post-is n (length (p ++ ys)) (p ++ ys) le ∙ drop_all (length (p ++ ys)) (p ++ ys) (omega arith) in
    ap (λ z. z ++ (zs ++ post_of n (length (p ++ ys) - n) (p ++ ys))) (take_at p ys n e) ∙ ap (λ z. p ++ (zs ++ z)) post ∙ ap (λ z. p ++ z) (append-nil zs)

-- o is the buffer, w the whole text of s, a blank and t, and u what the buffer holds after s
module _ (o s t w u : List ℕ) (n m : ℕ) (whole : w ≡ s ++ (32 ∷ t)) (all : m ≡ length w) (fits : length w ≤ length o) (count : n ≡ length s) (wrote : u ≡ s ++ drop (length s) o) where
  room_for_both : length s + (1 + length t) ≤ length o
  room_for_both = omega (arith, spaced_length s t w whole)

  with_blank : set u n 32 ≡ (s ++ (32 ∷ [])) ++ drop (n + 1) o
  with_blank =
      let lt : n < length o = let r = room_for_both in omega arith in
      let start : u ≡ s ++ (get_or o n 0 ∷ drop (n + 1) o) = wrote ∙ ap (λ k. s ++ drop k o) (sym count) ∙ ap (λ z. s ++ z) (drop_more o n 0 lt) in
      ap (λ z. set z n 32) start ∙ set_at s (get_or o n 0) (drop (n + 1) o) 32 n (sym count) ∙ simp append_assoc

  front : length (s ++ (32 ∷ [])) ≡ n + 1
  front = simp length-append (omega arith)

  -- what is left of the buffer after the blank
  rest : take (length (set u n 32) - (n + 1)) (drop (n + 1) (set u n 32)) ≡ drop (n + 1) o
  rest = take_rest (set u n 32) (n + 1) ∙ ap (λ z. drop (n + 1) z) with_blank ∙ drop_at (s ++ (32 ∷ [])) (drop (n + 1) o) (n + 1) front

  -- and the second text after it
  pub both_written : (v : List ℕ) → v ≡ t ++ drop (length t) (take (length (set u n 32) - (n + 1)) (drop (n + 1) (set u n 32))) → Printed w o (Some m) (put_mid (n + 1) (length (set u n 32) - (n + 1)) (set u n 32) v)
  both_written v f =
      let long = spaced_length s t w whole in
      let total : (n + 1) + length t ≡ length w = omega arith in
      let later : v ≡ t ++ drop (length w) o = f ∙ ap (λ z. t ++ drop (length t) z) rest ∙ ap (λ z. t ++ z) (drop-drop (length t) (n + 1) o) ∙ ap (λ k. t ++ drop k o) total in
      let joins : (s ++ (32 ∷ [])) ++ (t ++ drop (length w) o) ≡ (s ++ (32 ∷ t)) ++ drop (length w) o = simp append_assoc in (
        all,
        fits,
        ap (λ z. put_mid (n + 1) (length z - (n + 1)) z v) with_blank
            ∙ over_end (s ++ (32 ∷ [])) (drop (n + 1) o) v (n + 1) front
            ∙ ap (λ z. (s ++ (32 ∷ [])) ++ z) later
            ∙ joins
            ∙ ap (λ z. z ++ drop (length w) o) (sym whole),
      )
