-- What a run of digits says of a priority.
use Rattle.std.proofs.Common.{◌≡◌, ℕ, suc, ◌+◌, ◌<◌, ◌≤◌, Bool, true, false, not, ◌&&◌, cond, ltb, List, [], ◌∷◌, length, Ok, Err, Result, sym, refl, ap, ◌∙◌, one-add, arith}
use lib.Dec.{leb-suc-suc}
use Rattle.std.specs.List.{prefix_len, list_all}
use Rattle.std.specs.Option.{unwrap_or}
use Rattle.std.specs.Result.{OkIff}
use Rattle.std.proofs.lemmas.Bool.{lt-ltb, le-ltb, cond-true, cond-false, ne_eqb}
use Rattle.std.proofs.lemmas.Result.{OkIff-at_ok, OkIff-at_err}
use Rattle.kind.specs.Digits.{digit, decimal, number}
use Rattle.site.specs.declared.refusals.Refusal.{Refusal}
use Rattle.site.specs.declared.refusals.Cause.TheVariants.{Unexpected, OverLimit}
use Rattle.site.specs.Refusals.{refuse}
use Rattle.sections.specs.Actions.{priority_of}

-- every item passes a test exactly where the leading ones are all there are
all_lead : {A : Type 0} (p : A → Bool) (xs : List A) → list_all p xs ≡ not (ltb (prefix_len p xs) (length xs))
all_lead p [] = refl
all_lead p (x ∷ xs) = go (p x) refl (all_lead p xs)
  where
    go : (t : Bool) → p x ≡ t → list_all p xs ≡ not (ltb (prefix_len p xs) (length xs)) → (p x && list_all p xs) ≡ not (ltb (cond (p x) (1 + prefix_len p xs) 0) (suc (length xs)))
    go true h r = rw (h, one-add) (r ∙ ap not (sym (leb-suc-suc (suc (prefix_len p xs)) (length xs))))
    go false h r = rw h (ap not (sym (lt-ltb 0 (suc (length xs)) (omega arith))))

not_back : (t u : Bool) → t ≡ not u → u ≡ not t
not_back t true e = rw e refl
not_back t false e = rw e refl

-- some byte is left after the leading digits
left : (bs : List ℕ) → ltb (prefix_len digit bs) (length bs) ≡ not (list_all digit bs)
left bs = not_back _ _ (all_lead digit bs)

-- the refusal of a number above 255
abbrev pub limited : ℕ → {E : Type 0} → Result ℕ E → Result ℕ Refusal
limited p (Ok n) = Ok n
limited p (Err e) = refuse OverLimit p

limited_at : {E : Type 0} (p n : ℕ) (r : Result ℕ E) → OkIff r (n < 256) n → limited p r ≡ cond (ltb 255 n) (refuse OverLimit p) (Ok n)
limited_at {E} p n (Ok x) h = let g : (n < 256) × (x ≡ n) = OkIff-at_ok {E = E} (Ok x) (n < 256) n x h refl in ap Ok g.1 ∙ sym (cond-false _ _ _ (le-ltb 255 n (omega (arith, g.0))))
limited_at {E} p n (Err e) h = let no : n < 256 → ⊥ = OkIff-at_err {E = E} (Err e) (n < 256) n e h refl in sym (cond-true _ _ _ (lt-ltb 255 n (omega (arith, no))))

module _ (bs : List ℕ) (p : ℕ) where
  pub not_digits : list_all digit bs ≡ false → refuse Unexpected p ≡ priority_of bs p
  not_digits e = sym (cond-true _ _ _ (left bs ∙ ap not e))

  module _ (all : list_all digit bs ≡ true) where
    digits : ltb (prefix_len digit bs) (length bs) ≡ false
    digits = left bs ∙ ap not all

    pub many_digits : 3 < length bs → refuse OverLimit p ≡ priority_of bs p
    many_digits h = sym (cond-false _ _ _ digits ∙ cond-true _ _ _ (lt-ltb 3 (length bs) h))

    pub few_digits : length bs ≤ 3 → {E : Type 0} (r : Result ℕ E) → OkIff r (decimal bs < 256) (decimal bs) → limited p r ≡ priority_of bs p
    few_digits h r o = limited_at p (decimal bs) r o ∙ sym (cond-false _ _ _ digits ∙ cond-false _ _ _ (le-ltb 3 (length bs) h))

-- no digits write 0
pub written : (bs : List ℕ) → list_all digit bs ≡ true → length bs ≤ 3 → unwrap_or (number bs) 0 ≡ decimal bs
written [] all h = refl
written (x ∷ xs) all h = rw (ne_eqb (length (x ∷ xs)) 0 (λ e. omega arith), le-ltb 4 (length (x ∷ xs)) (omega arith), left (x ∷ xs), all) refl
