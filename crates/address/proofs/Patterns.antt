-- Reading the parts of a block one by one.
use Rattle.std.proofs.Common.{◌≡◌, ℕ, suc, ◌+◌, ◌-◌, ◌<◌, ◌≤◌, true, false, ltb, List, length, take, drop, Some, None, Option, MatchOption, unwrap_or, sym, refl, ap, ◌∙◌, arith}
use Rattle.std.specs.List.{prefix_len, AllWithin, HoldsAt}
use Rattle.std.proofs.lemmas.List.{take_rest}
use Rattle.std.proofs.lemmas.Bool.{lt-ltb, le-ltb, cond-true, cond-false}
use Rattle.std.proofs.lemmas.Iterator.{index_from_first}
use Rattle.address.specs.declared.block.Block.{Block}
use Rattle.address.specs.Blocks.{no_dot, cut, onward, with_text, block_from}

-- where the first dot is known, so are the two texts beside it
pub cut_at : (t : List ℕ) (i : ℕ) → i < length t → prefix_len no_dot t ≡ i → cut t ≡ Some (take i t, take (length t - (i + 1)) (drop (i + 1) t))
cut_at t i h e =
    let dotted : ltb (prefix_len no_dot t) (length t) ≡ true = lt-ltb (prefix_len no_dot t) (length t) (omega arith) in
    let front : take (prefix_len no_dot t) t ≡ take i t = ap (λ n. take n t) e in
    let back : drop (prefix_len no_dot t + 1) t ≡ take (length t - (i + 1)) (drop (i + 1) t) = ap (λ n. drop (n + 1) t) e ∙ sym (take_rest t (i + 1)) in
    rw dotted (cc)

-- a search for the first dot tells how the text is cut
pub cut_first : (t : List ℕ) (r : Option ℕ) → MatchOption r (AllWithin (λ b. no_dot b ≡ true) t 0 (length t)) (λ i. (i < length t) × HoldsAt (λ b. no_dot b ≡ false) t i × AllWithin (λ b. no_dot b ≡ true) t 0 i)
    → MatchOption r (cut t ≡ None) (λ i. cut t ≡ Some (take i t, take (length t - (i + 1)) (drop (i + 1) t)))
cut_first t r f = cases r f (index_from_first (prefix_len no_dot) (λ b. no_dot b ≡ false) (λ b. no_dot b ≡ true) refl (λ x xs h. cond-false _ _ _ h) (λ x xs h. cond-true _ _ _ h ∙ omega arith) t r f)
  where
    cases : (r : Option ℕ) → MatchOption r (AllWithin (λ b. no_dot b ≡ true) t 0 (length t)) (λ i. (i < length t) × HoldsAt (λ b. no_dot b ≡ false) t i × AllWithin (λ b. no_dot b ≡ true) t 0 i) → prefix_len no_dot t ≡ unwrap_or r (length t)
        → MatchOption r (cut t ≡ None) (λ i. cut t ≡ Some (take i t, take (length t - (i + 1)) (drop (i + 1) t)))
    cases None f e = cond-false _ _ _ (le-ltb (prefix_len no_dot t) (length t) (omega (arith, e)))
    cases (Some i) f e = cut_at t i f.0 e

-- a part before the last
less : (i : ℕ) → i < 3 → 3 - i ≡ suc (3 - (i + 1))
less i h = omega arith

module _ (i : ℕ) (b : Block) (t : List ℕ) (early : i < 3) where
  -- no dot is left
  pub without_dot : cut t ≡ None → block_from (3 - i) i b t ≡ None
  without_dot e = ap (λ n. block_from n i b t) (less i early) ∙ rw e

  -- the text up to the next dot is a part, and the parts after it follow
  pub with_dot : (q r : List ℕ) (o : Option Block) → cut t ≡ Some (q, r) → o ≡ with_text b i q → block_from (3 - i) i b t ≡ onward o (λ d. block_from (3 - (i + 1)) (i + 1) d r)
  with_dot q r o e f = ap (λ n. block_from n i b t) (less i early) ∙ rw e (ap (λ x. onward x (λ d. block_from (3 - (i + 1)) (i + 1) d r)) (sym f))

-- the last part
pub at_last : (i : ℕ) (b : Block) (t : List ℕ) → 3 ≤ i → i ≤ 3 → block_from (3 - i) i b t ≡ with_text b 3 t
at_last i b t h k = let e : i ≡ 3 = omega arith in ap (λ n. block_from (3 - n) n b t) e
