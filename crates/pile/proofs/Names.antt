-- A day is read from its name and from nothing else.
use Rattle.std.proofs.Common.{◌≡◌, ℕ, zero, suc, ◌+◌, ◌<◌, List, Some, None, Option, sym, refl, ap, ◌∙◌, subst, ⊎_elim, arith}
use Rattle.std.specs.List.{find, range_with_len}
use Rattle.std.specs.Str.{bytes_eq}
use Rattle.std.proofs.lemmas.Slice.Eq.{bytes_eq-Decides}
use Rattle.std.proofs.lemmas.Bool.{cases_Bool, cond-true, cond-false}
use Rattle.day.specs.Days.{day_name, day_of}
use Rattle.pile.specs.Pile.{Exactly}

pub some_same : (x y : ℕ) → Some x ≡ Some y → x ≡ y
some_same x y e = cc

pub none_some : (x : ℕ) → None ≡ Some x → ⊥
none_some x e = let z : ◌≡◌ {A = ℕ} 0 1 = cc in omega arith

-- the days from i on, n of them, searched for a name
abbrev search_from : ℕ → ℕ → List ℕ → Option ℕ
search_from n i v = find (λ d. bytes_eq v (day_name d)) (range_with_len i n)

named : (n i : ℕ) (v : List ℕ) (d : ℕ) → search_from n i v ≡ Some d → (d < i + n) × (v ≡ day_name d)
named zero i v d e = absurd (none_some d e)
named (suc n) i v d e =
    ⊎_elim
    (λ same. let here = some_same i d (sym (cond-true _ _ _ same) ∙ e) in
    (omega arith, subst (λ k. v ≡ day_name k) here ((bytes_eq-Decides v (day_name i)).0 same)))
    (λ other. let later = named n (i + 1) v d (sym (cond-false _ _ _ other) ∙ e) in (omega arith, later.1))
    (cases_Bool (bytes_eq v (day_name i)))

of_name : (d : ℕ) → d < 7 → day_of (day_name d) ≡ Some d
of_name zero h = refl
of_name (suc zero) h = refl
of_name (suc (suc zero)) h = refl
of_name (suc (suc (suc zero))) h = refl
of_name (suc (suc (suc (suc zero)))) h = refl
of_name (suc (suc (suc (suc (suc zero))))) h = refl
of_name (suc (suc (suc (suc (suc (suc zero)))))) h = refl
of_name (suc (suc (suc (suc (suc (suc (suc d))))))) h = absurd (omega arith)

pub days_read : (v : List ℕ) (d : ℕ) → Exactly (day_of v ≡ Some d) ((d < 7) × (v ≡ day_name d))
days_read v d = (λ e. named 7 0 v d e, λ h. ap day_of h.1 ∙ of_name d h.0)
