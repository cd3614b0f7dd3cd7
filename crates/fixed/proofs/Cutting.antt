-- Lists put at the end of another, cut at a length.
use Rattle.std.proofs.Common.{◌≡◌, ℕ, ◌+◌, ◌<◌, ◌≤◌, List, [], ◌∷◌, ◌++◌, length, get_or, take, Ok, Err, Result, MatchResult, sym, ap, ◌∙◌, ⊎_elim, append_assoc, arith}
use Rattle.std.proofs.lemmas.List.{take_all, take-append-le, length_push, length-take-le, take_more, append-nil}
use Rattle.std.proofs.lemmas.Bool.{cases_lt}
use Rattle.fixed.specs.declared.bounded.Full.{Full}
use Rattle.fixed.specs.declared.bounded.Table.{Table}
use Rattle.fixed.specs.Items.{items}

module _ {T : Type 0} (n : ℕ) where
  -- one item more, where there is room for it, and where there is none
  taken : (xs ys : List T) (x : T) (after : List T) → xs ≡ take n ys → length xs < n → after ≡ xs ++ x ∷ [] → after ≡ take n (ys ++ x ∷ [])
  taken xs ys x after e lt f =
      ⊎_elim
      (λ short. (
      let is : xs ≡ ys = e ∙ take_all n ys (omega arith) in
      f ∙ ap (λ z. z ++ x ∷ []) is ∙ sym (take_all n (ys ++ x ∷ []) (omega (arith, length_push ys x)))))
      (λ le. let m : length xs ≡ n = ap length e ∙ length-take-le n ys le in absurd (omega arith))
      (cases_lt (length ys) n)

  left : (xs ys : List T) (x : T) → xs ≡ take n ys → n ≤ length xs → xs ≡ take n (ys ++ x ∷ [])
  left xs ys x e full =
      ⊎_elim
      (λ short. let m : length xs ≡ length ys = ap length (e ∙ take_all n ys (omega arith)) in absurd (omega arith))
      (λ le. e ∙ sym (take-append-le n ys (x ∷ []) le))
      (cases_lt (length ys) n)

  module _ (old more : List T) where
    pub put_none : length old ≤ n → old ≡ take n (old ++ [])
    put_none le = sym (take_all n old le) ∙ ap (take n) (sym (append-nil old))

    onward : (i : ℕ) (x : T) → i < length more → x ≡ get_or more i x → take n ((old ++ take i more) ++ x ∷ []) ≡ take n (old ++ take (i + 1) more)
    onward i x lt is =
        ap (take n) (append_assoc old (take i more) (x ∷ []) ∙ ap (λ z. old ++ z) (ap (λ y. take i more ++ y ∷ []) is ∙ sym (take_more more i x lt)))

    pub put_more : (i : ℕ) (x : T) (was now : Table T n) (r : Result (Unit {0}) Full) → i < length more → x ≡ get_or more i x → items was ≡ take n (old ++ take i more) → MatchResult r (λ _. (length (items was) < n) × (items now ≡ items was ++ x ∷ [])) (λ _. (n ≤ length (items was)) × (now ≡ was)) → items now ≡ take n (old ++ take (i + 1) more)
    put_more i x was now (Ok u) lt is inv h = taken (items was) (old ++ take i more) x (items now) inv h.0 h.1 ∙ onward i x lt is
    put_more i x was now (Err e) lt is inv h = ap items h.1 ∙ left (items was) (old ++ take i more) x inv h.0 ∙ onward i x lt is
