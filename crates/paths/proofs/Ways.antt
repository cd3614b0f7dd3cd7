-- The ways on from a node, link by link.
use denote.Param.Members.{Mut}
use Rattle.std.specs.Fn.{Called}
use Rattle.std.specs.Array.{IsFromFnResultFrom, IsFromFnResult}
use Rattle.std.proofs.Common.{◌≡◌, ℕ, zero, suc, ◌+◌, ◌<◌, ◌≤◌, true, false, cond, ◌||◌, eqb, List, [], ◌∷◌, ◌++◌, map, length, get_or, drop, Some, None, Option, sym, refl, ap, ◌∙◌, subst, ⊎_elim, arith}
use Rattle.std.proofs.lemmas.List.{drop_more, drop_all, append_assoc, append-nil, length_push, get_or-map, length-map, get_or_past}
use Rattle.std.proofs.lemmas.Bool.{cond-true, cond-false, cases_eq, cases_lt}
use Rattle.std.proofs.lemmas.Bool.Decides.{nat_tests}
use Rattle.std.proofs.lemmas.List.FromFn.{fill_by_all, get_or-map-range_with_len, length-map-range_with_len}
use Rattle.std.specs.List.{range_with_len}
use Rattle.site.specs.declared.parts.Link.{Link}
use Rattle.site.specs.Links.{nowhere, ends}
use Rattle.site.specs.Links.{far_end as end_past}
use Rattle.paths.specs.declared.roads.Step.{Step}
use Rattle.site.specs.Promises.{TwoEnded}
use Rattle.paths.specs.Roads.{far_end, over, steps_of, roads_over}
use Rattle.paths.specs.Walks.{Sound}

steps_more : (ls : List Link) (n i : ℕ) → i < length ls → steps_of i (drop i ls) n ≡ over i (far_end (get_or ls i nowhere) n) ++ steps_of (i + 1) (drop (i + 1) ls) n
unfolding steps_of
steps_more ls n i h = ap (λ x. steps_of i x n) (drop_more ls i nowhere h)

pub steps_all : (ls : List Link) (n i : ℕ) (xs all : List Step) → length ls ≤ i → xs ++ steps_of i (drop i ls) n ≡ all → xs ≡ all
unfolding steps_of
steps_all ls n i xs all h e = sym (append-nil xs) ∙ sym (ap (λ x. xs ++ steps_of i x n) (drop_all i ls h)) ∙ e

far_is : (l : Link) (n : ℕ) → far_end l n ≡ cond (ends l n) (Some (end_past l n)) None
far_is l n =
    elim (eqb l.a n) as (λ x. cond x (Some l.b) (cond (eqb l.b n) (Some l.a) None) ≡ cond (x || eqb l.b n) (Some (cond x l.b l.a)) None)
    [ true ↦ refl | false ↦ refl ]

pub step_none : (ls : List Link) (n i : ℕ) (xs all : List Step) → i < length ls → ends (get_or ls i nowhere) n ≡ false
    → xs ++ steps_of i (drop i ls) n ≡ all → xs ++ steps_of (i + 1) (drop (i + 1) ls) n ≡ all
step_none ls n i xs all h not e =
    let l = get_or ls i nowhere in
    ap (λ x. xs ++ (over i x ++ steps_of (i + 1) (drop (i + 1) ls) n)) (sym (far_is l n ∙ cond-false (ends l n) (Some (end_past l n)) None not)) ∙ ap (λ x. xs ++ x) (sym (steps_more ls n i h)) ∙ e

pub step_some : (ls : List Link) (n i : ℕ) (xs ys all : List Step) → i < length ls → ends (get_or ls i nowhere) n ≡ true → length xs ≤ i
    → ys ≡ xs ++ record { link = i; node = end_past (get_or ls i nowhere) n } ∷ []
    → xs ++ steps_of i (drop i ls) n ≡ all → (ys ++ steps_of (i + 1) (drop (i + 1) ls) n ≡ all) × (length ys ≤ i + 1)
step_some ls n i xs ys all h is low there e =
    let l = get_or ls i nowhere in
    let s : List Step = record { link = i; node = end_past l n } ∷ [] in (
      ap (λ x. x ++ steps_of (i + 1) (drop (i + 1) ls) n) there ∙ append_assoc xs s (steps_of (i + 1) (drop (i + 1) ls) n)
          ∙ ap (λ x. xs ++ (over i x ++ steps_of (i + 1) (drop (i + 1) ls) n)) (sym (far_is l n ∙ cond-true (ends l n) (Some (end_past l n)) None is)) ∙ ap (λ x. xs ++ x) (sym (steps_more ls n i h)) ∙ e,
      omega (arith, ap length there, length_push xs (record { link = i; node = end_past l n })),
    )

-- The ways on from every node: what calls of one closure at each number gave, seen by h.
pub calls_at : {F B X : Type 0} (g : Mut F (ℕ × Unit {0}) B) (f : F) (h : B → X) (v : ℕ → X) (ys : List B) (m : ℕ)
    → ((k : ℕ) (y : B) (q : F) → k < m → Called g f (k, tt) y q → (q ≡ f) × (h y ≡ v k))
    → (i n : ℕ) → i + n ≡ m → IsFromFnResultFrom g f ys i n → (k : ℕ) (d : B) → i ≤ k → k < m → h (get_or ys k d) ≡ v k
calls_at g f h v ys m each i zero e r k d low high = absurd (omega arith)
calls_at g f h v ys m each i (suc n) e r k d low high =
    let here = each i r.1 r.0 (omega arith) r.3 in
    ⊎_elim (λ q. ap (λ j. h (get_or ys j d)) q ∙ ap h (r.2.1 d) ∙ here.1 ∙ ap v (sym q))
    (λ ne. calls_at g f h v ys m each (i + 1) n (omega arith) (subst (λ x. IsFromFnResultFrom g x ys (i + 1) n) here.0 r.4) k d (omega arith) high)
    (cases_eq k i)

pub calls_all : {F B : Type 0} (g : Mut F (ℕ × Unit {0}) B) (f : F) (h : B → List Step) (v : ℕ → List Step) (ys : List B) (n : ℕ) → IsFromFnResult g f ys n
    → ((k : ℕ) (y : B) (q : F) → k < n → Called g f (k, tt) y q → (q ≡ f) × (h y ≡ v k)) → map h ys ≡ map v (range_with_len 0 n)
calls_all g f h v [] n r each = fill_by_all v [] n [] r.long (λ k lt. absurd (omega (arith, r.long)))
calls_all g f h v (y ∷ ys) n r each =
    fill_by_all v (map h (y ∷ ys)) n [] (length-map (y ∷ ys) h ∙ r.long)
    (λ k lt. get_or-map h (y ∷ ys) k y [] (omega (arith, r.long)) ∙ calls_at g f h v (y ∷ ys) n each 0 n (omega arith) r.each k y (omega arith) lt)

-- A way on is over one of the links, to its other end.
pub record Way (ls : List Link) (i n : ℕ) (s : Step) : Type 0 where
  pub k : ℕ
  pub lt : k < length ls
  pub number : s.link ≡ i + k
  pub far : far_end (get_or ls k nowhere) n ≡ Some s.node

way_later : (l : Link) (ls : List Link) (i n : ℕ) (s : Step) → Way ls (i + 1) n s → Way (l ∷ ls) i n s
way_later l ls i n s w = record { k = suc w.k; lt = omega (arith, w.lt); number = omega (arith, w.number); far = w.far }

pub steps_way : (ls : List Link) (i n j : ℕ) → j < length (steps_of i ls n) → Way ls i n (get_or (steps_of i ls n) j (record { link = 0; node = 0 }))
unfolding steps_of
steps_way [] i n j h = absurd (omega arith)
steps_way (l ∷ ls) i n j h = go (far_end l n) refl j h (steps_way ls (i + 1) n)
  where
    go : (o : Option ℕ) → far_end l n ≡ o → (j : ℕ) → j < length (over i o ++ steps_of (i + 1) ls n)
        → ((j : ℕ) → j < length (steps_of (i + 1) ls n) → Way ls (i + 1) n (get_or (steps_of (i + 1) ls n) j (record { link = 0; node = 0 })))
        → Way (l ∷ ls) i n (get_or (over i o ++ steps_of (i + 1) ls n) j (record { link = 0; node = 0 }))
    go None e j h ih = way_later l ls i n _ (ih j h)
    go (Some m) e zero h ih = record { k = 0; lt = omega arith; number = omega arith; far = e }
    go (Some m) e (suc j) h ih = way_later l ls i n _ (ih j (omega arith))

-- and each link of a node is one
pub record There (xs : List Step) (s : Step) : Type 0 where
  pub j : ℕ
  pub lt : j < length xs
  pub is : get_or xs j (record { link = 0; node = 0 }) ≡ s

pub way_there : (ls : List Link) (i n k m : ℕ) → k < length ls → far_end (get_or ls k nowhere) n ≡ Some m → There (steps_of i ls n) (record { link = i + k; node = m })
unfolding steps_of
way_there [] i n k m h far = absurd (omega arith)
way_there (l ∷ ls) i n zero m h far =
    let e : i ≡ i + 0 = omega arith in
    subst (λ (o : Option ℕ). There (over i o ++ steps_of (i + 1) ls n) (record { link = i + 0; node = m })) (sym far)
    (record { j = 0; lt = omega arith; is = ap (λ x. record { link = x; node = m }) e })
way_there (l ∷ ls) i n (suc k) m h far = go (far_end l n) (way_there ls (i + 1) n k m (omega arith) far)
  where
    e : i + 1 + k ≡ i + suc k
    e = omega arith

    go : (o : Option ℕ) → There (steps_of (i + 1) ls n) (record { link = i + 1 + k; node = m }) → There (over i o ++ steps_of (i + 1) ls n) (record { link = i + suc k; node = m })
    go None t = record { j = t.j; lt = t.lt; is = t.is ∙ ap (λ x. record { link = x; node = m }) e }
    go (Some x) t = record { j = suc t.j; lt = omega (arith, t.lt); is = t.is ∙ ap (λ x. record { link = x; node = m }) e }

pub far_within : (c : ℕ) (l : Link) (n m : ℕ) → far_end l n ≡ Some m → l.a < c → l.b < c → m < c
far_within c l n m e ha hb = grind (arith, nat_tests)

pub roads_at : (ls : List Link) (n : ℕ) → n < 48 → get_or (roads_over ls) n [] ≡ steps_of 0 ls n
unfolding roads_over
roads_at ls n h = get_or-map-range_with_len (steps_of 0 ls) 0 48 n n [] h (omega arith)

pub roads_past : (ls : List Link) (n : ℕ) → 48 ≤ n → get_or (roads_over ls) n [] ≡ []
unfolding roads_over
roads_past ls n h = get_or_past (roads_over ls) n [] (omega (arith, length-map-range_with_len (steps_of 0 ls) 0 48))

pub roads_sound : (c : ℕ) (ls : List Link) → c ≤ 48 → length ls ≤ 64 → TwoEnded c ls → Sound (roads_over ls)
roads_sound c ls small few two n j h =
    ⊎_elim
    (λ lt.
    let e = roads_at ls n lt in
    let w = steps_way ls 0 n j (omega (arith, ap length e)) in
    let t = two w.k w.lt in
    let m : (get_or (steps_of 0 ls n) j (record { link = 0; node = 0 })).node < c = far_within c (get_or ls w.k nowhere) n _ w.far t.0 t.1 in
    let d : Step = record { link = 0; node = 0 } in
    (omega (arith, m, ap (λ (x : List Step). (get_or x j d).node) e), omega (arith, w.number, w.lt, ap (λ (x : List Step). (get_or x j d).link) e)))
    (λ ge. absurd (omega (arith, ap length (roads_past ls n ge))))
    (cases_lt n 48)
