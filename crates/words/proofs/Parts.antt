-- The part of a text that begins at a place; a place past the text counts as its end.
use Rattle.std.proofs.Common.{◌≡◌, ℕ, ◌-◌, ◌<◌, ◌≤◌, min, List, [], length, take, drop, sym, ap, ◌∙◌, inl, inr, arith}
use Rattle.std.proofs.lemmas.List.{take_rest, take_all, drop_all, length-drop}
use Rattle.std.proofs.lemmas.Bool.{cases_lt}

-- the part that begins at a place
module _ (text : List ℕ) (at start : ℕ) (s : start ≡ min at (length text)) where
  drop_start : drop start text ≡ drop at text
  drop_start = elim (cases_lt at (length text)) [
    | inl h ↦ (let e : start ≡ at = omega arith in ap (λ n. drop n text) e)
    | inr h ↦ drop_all start text (omega arith) ∙ sym (drop_all at text h)
  ]

  pub rest_from : take (length text - start) (drop start text) ≡ drop at text
  rest_from = take_rest text start ∙ drop_start

  pub length_from : length (take (length text - start) (drop start text)) ≡ length text - at
  length_from = ap length rest_from ∙ length-drop at text

-- a place in the text is where its part begins
pub start_inside : (at : ℕ) (text : List ℕ) → at ≤ length text → min at (length text) ≡ at
start_inside at text h = omega arith

-- the part between two places
module _ (text : List ℕ) (from to start end : ℕ) (e : end ≡ min to (length text)) (s : start ≡ min from end) where
  shorter : from < end → take (end - from) (drop from text) ≡ take (to - from) (drop from text)
  shorter h = elim (cases_lt to (length text)) [
    | inl k ↦ (let same : end ≡ to = omega arith in ap (λ n. take (n - from) (drop from text)) same)
    | inr k ↦ take_all (end - from) (drop from text) (omega (arith, length-drop from text)) ∙ sym (take_all (to - from) (drop from text) (omega (arith, length-drop from text)))
  ]

  nothing : end ≤ from → take (to - from) (drop from text) ≡ []
  nothing h = elim (cases_lt from (length text)) [
    | inl k ↦ (let none : to - from ≡ 0 = omega arith in ap (λ n. take n (drop from text)) none)
    | inr k ↦ ap (take (to - from)) (drop_all from text k) ∙ take_all (to - from) [] (omega arith)
  ]

  pub between : take (end - start) (drop start text) ≡ take (to - from) (drop from text)
  between = elim (cases_lt from end) [
    | inl h ↦ (let same : start ≡ from = omega arith in ap (λ n. take (end - n) (drop n text)) same ∙ shorter h)
    | inr h ↦ (let none : end - start ≡ 0 = omega arith in ap (λ n. take n (drop start text)) none ∙ sym (nothing h))
  ]
