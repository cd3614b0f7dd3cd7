-- What an array holds that is filled by calls of a closure which changes nothing.
use Rattle.std.proofs.Common.{◌≡◌, ℕ, zero, suc, ◌+◌, ◌<◌, ◌≤◌, List, map, get_or, sym, subst, ⊎_elim, arith}
use Rattle.std.specs.Array.{IsFromFnResultFrom, IsFromFnResult}
use Rattle.std.specs.List.{range_with_len}
use Rattle.std.proofs.lemmas.List.FromFn.{fill_by_all}
use Rattle.std.proofs.lemmas.Bool.{cases_lt}
use denote.Param.Members.{Mut, Called}

-- R holds of each index and of what the call at it gives
module _ {F B : Type 0} (g : Mut F (ℕ × Unit {0}) B) (f : F) (R : ℕ → B → Type 0) (pure : (x : ℕ) (r : B) (q : F) → Called g f (x, tt) r q → (q ≡ f) × R x r) (ys : List B) (d : B) where
  each_from : (n i : ℕ) → IsFromFnResultFrom g f ys i n → (k : ℕ) → i ≤ k → k < i + n → R k (get_or ys k d)
  each_from zero i s k low high = absurd (omega arith)
  each_from (suc n) i s k low high =
      let call = pure _ _ _ s.3 in
      ⊎_elim
      (λ lt. each_from n (i + 1) (subst (λ q. IsFromFnResultFrom g q ys (i + 1) n) call.0 s.4) k (omega arith) (omega arith))
      (λ le. let same : i ≡ k = omega arith in subst (λ j. R j (get_or ys j d)) same (subst (λ y. R i y) (sym (s.2.1 d)) call.1))
      (cases_lt i k)

  pub each_filled : (n : ℕ) → IsFromFnResult g f ys n → (k : ℕ) → k < n → R k (get_or ys k d)
  each_filled n s k lt = each_from n 0 s.each k (omega arith) (omega arith)

-- so where each call gives h of its index
pub filled : {F B : Type 0} (g : Mut F (ℕ × Unit {0}) B) (f : F) (h : ℕ → B) → ((x : ℕ) (r : B) (q : F) → Called g f (x, tt) r q → (q ≡ f) × (r ≡ h x)) → (ys : List B) (d : B) (n : ℕ) → IsFromFnResult g f ys n → ys ≡ map h (range_with_len 0 n)
filled g f h pure ys d n s = fill_by_all h ys n d s.long (each_filled g f (λ x r. r ≡ h x) pure ys d n s)
