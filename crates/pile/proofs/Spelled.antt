-- A time is read from a value exactly when the value writes it.
use Rattle.std.proofs.Common.{◌≡◌, ℕ, zero, suc, ◌+◌, ◌-◌, ◌*◌, ◌/◌, ◌%◌, ◌<◌, Bool, true, false, ◌&&◌, ◌||◌, eqb, ltb, List, [], ◌∷◌, ◌++◌, length, get_or, take, drop, Some, None, Option, sym, refl, ap, ◌∙◌, subst, ⊎_elim, append_assoc, arith, length-append, length-drop}
use Rattle.std.specs.List.{prefix_len}
use Rattle.std.proofs.lemmas.List.{take_at, drop_at, get_or_at, drop_more, take-append-drop}
use Rattle.std.proofs.lemmas.List.Sums.{prefix_len-le-length}
use Rattle.std.proofs.lemmas.Bool.{cases_Bool, cond-true, cond-false, and_from, and_parts, and_left, or_parts, eqb-false, ltb-false, ltb-true, eqb-true, lt-ltb, eq-eqb}
use Rattle.std.proofs.lemmas.Bool.Decides.{nat_tests}
use Rattle.kind.specs.Digits.{digit, number, Writes}
use Rattle.pile.specs.Pile.{Exactly}
use Rattle.clock.specs.Times.{minute_from, sixtieth, joined, with_colon, second_of, WritesTime, to_the_minute, to_the_second}
use Rattle.pile.proofs.Names.{some_same, none_some}
use Rattle.kind.proofs.Numbers.{number_some}

pub writes_from : (t : List ℕ) (n : ℕ) → number t ≡ Some n → Writes t n
writes_from t n e =
    ⊎_elim
    (λ bad. absurd (none_some n (sym (cond-true _ _ _ bad) ∙ e)))
    (λ good.
    let a = or_parts (eqb (length t) 0) _ good in
    let b = or_parts (ltb 4 (length t)) (ltb (prefix_len digit t) (length t)) a.1 in
    let most = prefix_len-le-length digit t in
    record {
      some = omega (arith, eqb-false (length t) 0 a.0);
      few = ltb-false 4 (length t) b.0;
      digits = omega (arith, ltb-false (prefix_len digit t) (length t) b.1);
      value = some_same _ _ (sym (cond-false _ _ _ good) ∙ e);
    })
    (cases_Bool (eqb (length t) 0 || (ltb 4 (length t) || ltb (prefix_len digit t) (length t))))

pub number_from : (t : List ℕ) (n : ℕ) → Writes t n → number t ≡ Some n
number_from t n w = sym (number_some t n w.some w.few w.digits (sym w.value))

pub first_passes : (p : ℕ → Bool) (b : ℕ) (bs : List ℕ) → prefix_len p (b ∷ bs) ≡ length (b ∷ bs) → (p b ≡ true) × (prefix_len p bs ≡ length bs)
first_passes p b bs e =
    ⊎_elim
    (λ is. (is, omega (arith, sym (cond-true (p b) (1 + prefix_len p bs) 0 is) ∙ e)))
    (λ is_not. absurd (omega (arith, sym (cond-false (p b) (1 + prefix_len p bs) 0 is_not) ∙ e)))
    (cases_Bool (p b))

all_digits : (t : List ℕ) → prefix_len digit t ≡ length t → (i : ℕ) → i < length t → digit (get_or t i 0) ≡ true
all_digits [] e i h = absurd (omega arith)
all_digits (b ∷ bs) e zero h = (first_passes digit b bs e).0
all_digits (b ∷ bs) e (suc i) h = all_digits bs (first_passes digit b bs e).1 i (omega arith)

-- digits alone have no colon among them
no_colon : (t : List ℕ) (n : ℕ) → Writes t n → with_colon t ≡ false
no_colon t n w =
    ⊎_elim
    (λ long. let d = all_digits t w.digits (length t - 3) (omega (arith, ltb-true 2 (length t) long)) in grind (arith, nat_tests))
    (λ short. and_left (ltb 2 (length t)) (eqb (get_or t (length t - 3) 0) 58) short)
    (cases_Bool (ltb 2 (length t)))

-- hour and minute come out of a number as they went in
hundreds : (h m : ℕ) → m < 60 → (100 * h + m) / 100 ≡ h
hundreds h m k = omega arith

rest_of : (h m : ℕ) → m < 60 → (100 * h + m) % 100 ≡ m
rest_of h m k = omega arith

minute_of : (t : List ℕ) (h m : ℕ) → Writes t (100 * h + m) → h < 24 → m < 60 → minute_from (number t) ≡ Some (60 * h + m)
minute_of t h m w k l =
    let q = hundreds h m l in
    let r = rest_of h m l in
    ap minute_from (number_from t (100 * h + m) w)
    ∙ cond-true _ _ _ (and_from _ _ (lt-ltb ((100 * h + m) / 100) 24 (omega arith)) (lt-ltb ((100 * h + m) % 100) 60 (omega arith)))
    ∙ ap (λ n. Some (60 * n + (100 * h + m) % 100)) q ∙ ap (λ n. Some (60 * h + n)) r

sixtieth_of : (u : List ℕ) (s : ℕ) → Writes u s → s < 60 → sixtieth (number u) ≡ Some s
sixtieth_of u s w h = ap sixtieth (number_from u s w) ∙ cond-true _ _ _ (lt-ltb s 60 h)

-- a text, a colon and two bytes, taken apart again
module _ (t u : List ℕ) (two : length u ≡ 2) where
  long : length (t ++ (58 ∷ u)) ≡ length t + 3
  long = simp length-append (omega arith)

  third : length (t ++ (58 ∷ u)) - 3 ≡ length t
  third = omega (arith, long)

  colon_stands : with_colon (t ++ (58 ∷ u)) ≡ true
  colon_stands =
      and_from _ _ (lt-ltb 2 (length (t ++ (58 ∷ u))) (omega (arith, long)))
      (eq-eqb _ 58 (ap (λ n. get_or (t ++ (58 ∷ u)) n 0) third ∙ get_or_at t 58 u 0 (length t) refl))

  front : take (length (t ++ (58 ∷ u)) - 3) (t ++ (58 ∷ u)) ≡ t
  front = ap (λ n. take n (t ++ (58 ∷ u))) third ∙ take_at t (58 ∷ u) (length t) refl

  back : drop (length (t ++ (58 ∷ u)) - 2) (t ++ (58 ∷ u)) ≡ u
  back =
      let e : length (t ++ (58 ∷ [])) ≡ length (t ++ (58 ∷ u)) - 2 = simp length-append (omega (arith, long)) in
      ap (λ v. drop (length (t ++ (58 ∷ u)) - 2) v) (sym (append_assoc t (58 ∷ []) u)) ∙ drop_at (t ++ (58 ∷ [])) u _ e

time_from : (v : List ℕ) (s : ℕ) → WritesTime v s → second_of v ≡ Some s
time_from v s (to_the_minute t h m w k l) =
    cond-false (with_colon t) _ _ (no_colon t (100 * h + m) w) ∙ ap (λ o. joined o (Some 0)) (minute_of t h m w k l) ∙ ap Some (omega arith)
time_from v s (to_the_second t u h m s' w k l x two r) =
    cond-true (with_colon (t ++ (58 ∷ u))) _ _ (colon_stands t u two)
    ∙ ap (λ f. joined (minute_from (number f)) (sixtieth (number (drop (length (t ++ (58 ∷ u)) - 2) (t ++ (58 ∷ u)))))) (front t u two)
    ∙ ap (λ b. joined (minute_from (number t)) (sixtieth (number b))) (back t u two)
    ∙ ap (λ o. joined o (sixtieth (number u))) (minute_of t h m w k l)
    ∙ ap (λ o. joined (Some (60 * h + m)) o) (sixtieth_of u s' x r)

-- what was read, from what came of it
of_joined : (o q : Option ℕ) (s : ℕ) → joined o q ≡ Some s → (m : ℕ) × (k : ℕ) × (o ≡ Some m) × (q ≡ Some k) × (s ≡ 60 * m + k)
of_joined None q s e = absurd (none_some s e)
of_joined (Some m) None s e = absurd (none_some s e)
of_joined (Some m) (Some k) s e = (m, k, refl, refl, some_same _ _ (sym e))

of_minute : (o : Option ℕ) (m : ℕ) → minute_from o ≡ Some m → (n : ℕ) × (o ≡ Some n) × (n / 100 < 24) × (n % 100 < 60) × (m ≡ 60 * (n / 100) + n % 100)
of_minute None m e = absurd (none_some m e)
of_minute (Some n) m e =
    ⊎_elim
    (λ good. let b = and_parts _ _ good in (n, refl, ltb-true _ 24 b.0, ltb-true _ 60 b.1, some_same _ _ (sym e ∙ cond-true _ _ _ good)))
    (λ bad. absurd (none_some m (sym (cond-false _ _ _ bad) ∙ e)))
    (cases_Bool (ltb (n / 100) 24 && ltb (n % 100) 60))

of_sixtieth : (o : Option ℕ) (s : ℕ) → sixtieth o ≡ Some s → (o ≡ Some s) × (s < 60)
of_sixtieth None s e = absurd (none_some s e)
of_sixtieth (Some n) s e =
    ⊎_elim
    (λ good. let same = some_same _ _ (sym (cond-true _ _ _ good) ∙ e) in (ap Some same, omega (arith, ltb-true n 60 good)))
    (λ bad. absurd (none_some s (sym (cond-false _ _ _ bad) ∙ e)))
    (cases_Bool (ltb n 60))

-- a value with a colon before its last two bytes
parted : (v : List ℕ) → with_colon v ≡ true → (v ≡ take (length v - 3) v ++ (58 ∷ drop (length v - 2) v)) × (length (drop (length v - 2) v) ≡ 2)
parted v c =
    let b = and_parts _ _ c in
    let long = ltb-true 2 (length v) b.0 in
    let next : (length v - 3) + 1 ≡ length v - 2 = omega arith in
    let later : drop (length v - 3) v ≡ 58 ∷ drop (length v - 2) v =
    drop_more v (length v - 3) 0 (omega arith) ∙ ap (λ x. x ∷ drop ((length v - 3) + 1) v) (eqb-true _ 58 b.1) ∙ ap (λ n. 58 ∷ drop n v) next in
    (sym (take-append-drop (length v - 3) v) ∙ ap (λ r. take (length v - 3) v ++ r) later, length-drop (length v - 2) v ∙ omega arith)

hour_minute : (n : ℕ) → n ≡ 100 * (n / 100) + n % 100
hour_minute n = omega arith

writes_hm : (t : List ℕ) (n : ℕ) → number t ≡ Some n → Writes t (100 * (n / 100) + n % 100)
writes_hm t n e = subst (λ k. Writes t k) (hour_minute n) (writes_from t n e)

time_to : (v : List ℕ) (s : ℕ) → second_of v ≡ Some s → WritesTime v s
time_to v s e =
    ⊎_elim
    (λ c.
    let j = of_joined _ _ s (sym (cond-true (with_colon v) _ _ c) ∙ e) in
    let mi = of_minute _ j.0 j.2 in
    let se = of_sixtieth _ j.1 j.3 in
    let p = parted v c in
    let w = to_the_second (take (length v - 3) v) (drop (length v - 2) v) (mi.0 / 100) (mi.0 % 100) j.1 (writes_hm _ mi.0 mi.1) mi.2 mi.3 (writes_from _ j.1 se.0) p.1 se.1 in
    let same : 60 * (60 * (mi.0 / 100) + mi.0 % 100) + j.1 ≡ s = omega (arith, mi.4, j.4) in
    subst (λ x. WritesTime x s) (sym p.0) (subst (λ k. WritesTime (take (length v - 3) v ++ (58 ∷ drop (length v - 2) v)) k) same w))
    (λ c.
    let j = of_joined _ _ s (sym (cond-false (with_colon v) _ _ c) ∙ e) in
    let mi = of_minute _ j.0 j.2 in
    let none = some_same _ _ j.3 in
    let w = to_the_minute v (mi.0 / 100) (mi.0 % 100) (writes_hm v mi.0 mi.1) mi.2 mi.3 in
    let same : 60 * (60 * (mi.0 / 100) + mi.0 % 100) ≡ s = omega (arith, mi.4, j.4) in
    subst (λ k. WritesTime v k) same w)
    (cases_Bool (with_colon v))

pub times_read : (v : List ℕ) (s : ℕ) → Exactly (second_of v ≡ Some s) (WritesTime v s)
times_read v s = (time_to v s, time_from v s)
