-- The bytes of a field, taken apart and put together again.
use Rattle.std.proofs.Common.{◌≡◌, ℕ, ◌+◌, ◌/◌, ◌%◌, ◌≤◌, true, List, ◌∷◌, ◌++◌, length, get_or, take, drop, sym, refl, ap, ◌∙◌, arith, length-append, length-drop}
use Rattle.std.proofs.lemmas.List.{drop_more, drop-drop, take-append-drop, take_at, drop_at, length-take-le}
use Rattle.fixed.specs.Spelling.{is_name}
use Rattle.std.proofs.lemmas.Bool.{and_parts, leb-true}
use Rattle.site.specs.Plans.{Plan}
use Rattle.site.specs.Fields.{Field, field, Adds, node, link, class, user, reading}
use Rattle.site.specs.Maps.{body_length, span, front, encoded}

name_short : (n : List ℕ) → is_name n ≡ true → length n ≤ 16
name_short n e = leb-true _ _ (and_parts _ _ (and_parts _ _ e).1).0

-- no field that can be declared has more than 17 bytes
pub adds_short : {s : Plan} {f : Field} {t : Plan} → Adds s f t → length f.body ≤ 17
adds_short (node s n new lt) = omega (arith, name_short n new.0)
adds_short (link s m n lt lm ln ne un) = omega arith
adds_short (class s n new lt) = omega (arith, name_short n new.0)
adds_short (user s r n new lt pos) = omega (arith, name_short n new.0)
adds_short (reading s r e) = omega arith

-- a field before other bytes
module _ (f : Field) (rest : List ℕ) where
  pub encoded_length : body_length (encoded f ++ rest) ≡ length f.body
  encoded_length = omega arith

  pub encoded_front : front (encoded f ++ rest) ≡ f
  encoded_front = ap (λ k. field f.tag (take k (f.body ++ rest))) encoded_length ∙ ap (field f.tag) (take_at f.body rest (length f.body) refl)

  pub encoded_rest : drop (span (encoded f ++ rest)) (encoded f ++ rest) ≡ rest
  encoded_rest =
      ap (λ k. drop (3 + k) (encoded f ++ rest)) encoded_length
      ∙ sym (drop-drop (length f.body) 3 (encoded f ++ rest))
      ∙ drop_at f.body rest (length f.body) refl

  pub encoded_long : length (encoded f ++ rest) ≡ 3 + length f.body + length rest
  encoded_long = simp length-append (omega arith)

-- bytes that begin with a whole field of a short length
module _ (bs : List ℕ) (three : 3 ≤ length bs) (all : span bs ≤ length bs) where
  body_long : length (take (body_length bs) (drop 3 bs)) ≡ body_length bs
  body_long = length-take-le (body_length bs) (drop 3 bs) (simp length-drop (omega arith))

  heads : bs ≡ get_or bs 0 0 ∷ get_or bs 1 0 ∷ get_or bs 2 0 ∷ drop 3 bs
  heads =
      drop_more bs 0 0 (omega arith)
      ∙ ap (λ l. get_or bs 0 0 ∷ l) (drop_more bs 1 0 (omega arith))
      ∙ ap (λ l. get_or bs 0 0 ∷ get_or bs 1 0 ∷ l) (drop_more bs 2 0 (omega arith))

  tails : drop 3 bs ≡ take (body_length bs) (drop 3 bs) ++ drop (span bs) bs
  tails = sym (take-append-drop (body_length bs) (drop 3 bs)) ∙ ap (λ l. take (body_length bs) (drop 3 bs) ++ l) (drop-drop (body_length bs) 3 bs)

  pub respelled : length (front bs).body ≤ 17 → encoded (front bs) ++ drop (span bs) bs ≡ bs
  respelled le =
      let high : length (take (body_length bs) (drop 3 bs)) / 256 ≡ get_or bs 1 0 = omega (arith, body_long) in
      let low : length (take (body_length bs) (drop 3 bs)) % 256 ≡ get_or bs 2 0 = omega (arith, body_long) in
      ap (λ h. (get_or bs 0 0 ∷ h ∷ length (take (body_length bs) (drop 3 bs)) % 256 ∷ take (body_length bs) (drop 3 bs)) ++ drop (span bs) bs) high
      ∙ ap (λ l. (get_or bs 0 0 ∷ get_or bs 1 0 ∷ l ∷ take (body_length bs) (drop 3 bs)) ++ drop (span bs) bs) low
      ∙ ap (λ r. get_or bs 0 0 ∷ get_or bs 1 0 ∷ get_or bs 2 0 ∷ r) (sym tails)
      ∙ sym heads
