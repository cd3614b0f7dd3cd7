-- Which rules stand, by the calls alone: those of an accepted admit with no accepted withdraw of their id after it.
use Rattle.std.proofs.Common.{◌≡◌, ℕ, zero, suc, ◌<◌, Bool, true, false, ◌⊎◌, List, [], ◌∷◌, ◌++◌, length, Some, Ok, Err, sym, refl, ap, ◌∙◌, subst, inl, inr, ⊎_elim, arith, length-append}
use Rattle.std.specs.List.{slice_get}
use Rattle.std.specs.Str.{bytes_eq}
use Rattle.std.proofs.lemmas.Slice.Eq.{bytes_eq-Decides}
use Rattle.std.proofs.lemmas.Bool.{cases_Bool, cond-true, cond-false}
use Rattle.kind.specs.Sense.{Sense}
use Rattle.site.specs.Plans.{Plan}
use Rattle.rules.specs.Rules.{Ruling, read_rule}
use Rattle.pairs.specs.Lists.{Has, here, there}
use Rattle.book.specs.Runs.{Step, admit, withdraw, report, decide, route, Known, without, read, after, admits, LedTo, at_first, next, Admitted, StandByCalls}
use Rattle.pairs.proofs.Having.{has_cases, has_left, has_right, has_none, has_one, has_nth, nth_has, nth_push, nth_front}
use Rattle.book.proofs.Laws.{has_without}

-- no two rules of the list have one id
abbrev IdsApart : {C : Type 0} → List (Ruling C) → Type 0
IdsApart [] = Unit {0}
IdsApart (r ∷ rs) = (Known r.id rs → ⊥) × IdsApart rs

known_there : {C : Type 0} (id : List ℕ) (q : Ruling C) (rs : List (Ruling C)) → Known id rs → Known id (q ∷ rs)
known_there id q rs (r, h, e) = (r, there h, e)

known_push : {C : Type 0} (id : List ℕ) (rs : List (Ruling C)) (r : Ruling C) → Known id (rs ++ r ∷ []) → Known id rs ⊎ (r.id ≡ id)
known_push id rs r (q, h, e) = ⊎_elim (λ x. inl (q, x, e)) (λ x. inr (ap (λ (z : Ruling _). z.id) (has_one x) ∙ e)) (has_cases rs (r ∷ []) q h)

ids_push : {C : Type 0} (rs : List (Ruling C)) (r : Ruling C) → IdsApart rs → (Known r.id rs → ⊥) → IdsApart (rs ++ r ∷ [])
ids_push [] r a n = ((λ k. has_none k.1), tt)
ids_push (q ∷ rs) r a n = (
  (λ k. ⊎_elim (λ x. a.0 x) (λ e. n (q, here, sym e)) (known_push q.id rs r k)),
  ids_push rs r a.1 (λ k. n (known_there r.id q rs k)),
)

module _ {C : Type 0} (id : List ℕ) where
  -- with and without the rule at the front
  without_this : (q : Ruling C) (rs : List (Ruling C)) → bytes_eq q.id id ≡ true → without id (q ∷ rs) ≡ rs
  without_this q rs e = cond-true (bytes_eq q.id id) rs (q ∷ without id rs) e

  without_other : (q : Ruling C) (rs : List (Ruling C)) → bytes_eq q.id id ≡ false → without id (q ∷ rs) ≡ q ∷ without id rs
  without_other q rs e = cond-false (bytes_eq q.id id) rs (q ∷ without id rs) e

  ids_without : (rs : List (Ruling C)) → IdsApart rs → IdsApart (without id rs)
  ids_without [] a = tt
  ids_without (q ∷ rs) a = elim (cases_Bool (bytes_eq q.id id)) [
    | inl e ↦ subst (λ z. IdsApart z) (sym (without_this q rs e)) a.1
    | inr e ↦ subst (λ z. IdsApart z) (sym (without_other q rs e)) ((λ k. a.0 (k.0, has_without id rs k.0 k.1, k.2)), ids_without rs a.1)
  ]

  -- what is left has other ids
  without_gone : (rs : List (Ruling C)) → IdsApart rs → (r : Ruling C) → Has (without id rs) r → r.id ≡ id → ⊥
  without_gone [] a r h e = has_none h
  without_gone (q ∷ rs) a r h e = elim (cases_Bool (bytes_eq q.id id)) [
    | inl y ↦ a.0 (r, subst (λ z. Has z r) (without_this q rs y) h, e ∙ sym ((bytes_eq-Decides q.id id).0 y))
    | inr y ↦ ⊎_elim
        (λ x. differs y (ap (λ (z : Ruling C). z.id) (has_one x) ∙ e))
        (λ x. without_gone rs a.1 r x e)
        (has_cases (q ∷ []) (without id rs) r (subst (λ z. Has z r) (without_other q rs y) h))
  ]
    where
      differs : bytes_eq q.id id ≡ false → q.id ≡ id → ⊥
      differs y x = let t : bytes_eq q.id id ≡ true = (bytes_eq-Decides q.id id).1 x in let z : ◌≡◌ {A = Bool} false true = sym y ∙ t in let w : ◌≡◌ {A = ℕ} 0 1 = cc in omega arith

  -- a rule of another id is left
  without_keeps : (rs : List (Ruling C)) (r : Ruling C) → (r.id ≡ id → ⊥) → Has rs r → Has (without id rs) r
  without_keeps [] r n h = h
  without_keeps (q ∷ rs) r n h = elim (cases_Bool (bytes_eq q.id id)) [
    | inl y ↦ subst (λ z. Has z r) (sym (without_this q rs y)) (⊎_elim (λ x. absurd (n (ap (λ (z : Ruling C). z.id) (sym (has_one x)) ∙ (bytes_eq-Decides q.id id).0 y))) (λ x. x) (has_cases (q ∷ []) rs r h))
    | inr y ↦ subst (λ z. Has z r) (sym (without_other q rs y)) (⊎_elim (λ x. has_left (q ∷ []) (without id rs) r x) (λ x. there (without_keeps rs r n x)) (has_cases (q ∷ []) rs r h))
  ]

  -- what is left stood further back, in the same order
  was_at : (rs : List (Ruling C)) (i : ℕ) (r : Ruling C) → slice_get (without id rs) i ≡ Some r → (m : ℕ) × (slice_get rs m ≡ Some r)
  was_at rs i r e = has_nth (has_without id rs r (nth_has (without id rs) i r e))

  were_at : (rs : List (Ruling C)) (i j : ℕ) (q r : Ruling C) → slice_get (without id rs) i ≡ Some q → slice_get (without id rs) j ≡ Some r → i < j → (m : ℕ) × (n : ℕ) × (slice_get rs m ≡ Some q) × (slice_get rs n ≡ Some r) × (m < n)
  were_at [] i j q r a b lt = absurd (nothing a)
    where
      nothing : slice_get [] i ≡ Some q → ⊥
      nothing e = has_none (nth_has [] i q e)
  were_at (s ∷ rs) i j q r a b lt = elim (cases_Bool (bytes_eq s.id id)) [
    | inl y ↦ (suc i, suc j, ap (λ z. slice_get z i) (sym (without_this s rs y)) ∙ a, ap (λ z. slice_get z j) (sym (without_this s rs y)) ∙ b, omega arith)
    | inr y ↦ by i j (ap (λ z. slice_get z i) (sym (without_other s rs y)) ∙ a) (ap (λ z. slice_get z j) (sym (without_other s rs y)) ∙ b) lt (λ x y p o l. were_at rs x y q r p o l)
  ]
    where
      by : (i j : ℕ) → slice_get (s ∷ without id rs) i ≡ Some q → slice_get (s ∷ without id rs) j ≡ Some r → i < j
          → ((x y : ℕ) → slice_get (without id rs) x ≡ Some q → slice_get (without id rs) y ≡ Some r → x < y → (m : ℕ) × (n : ℕ) × (slice_get rs m ≡ Some q) × (slice_get rs n ≡ Some r) × (m < n))
          → (m : ℕ) × (n : ℕ) × (slice_get (s ∷ rs) m ≡ Some q) × (slice_get (s ∷ rs) n ≡ Some r) × (m < n)
      by zero zero a b lt go = absurd (omega arith)
      by zero (suc j) a b lt go = let w = was_at rs j r b in (0, suc w.0, a, w.1, omega arith)
      by (suc i) zero a b lt go = absurd (omega arith)
      by (suc i) (suc j) a b lt go = let w = go i j a b (omega arith) in (suc w.0, suc w.1, w.2, w.3, omega (arith, w.4))

-- no call stands before the first
unbegun : {X : Type 0} (xs ys : List X) (x : X) → [] ≡ xs ++ x ∷ ys → ⊥
unbegun [] ys x e = cc
unbegun (y ∷ xs) ys x e = cc

module _ {C P : Type 0} (s : Plan) (k : Sense C P) where
  -- the last call is the admit that read the rule
  record JustNow (c : Step P) (h : List (Step P)) (r : Ruling C) (a : Admitted s k (c ∷ h) r) : Type 0 where
    is : c ≡ admit a.text a.place (Ok a.end)
    first : h ≡ a.earlier

  -- or the rule was admitted before the last call, which did not withdraw it
  record Before (c : Step P) (h : List (Step P)) (r : Ruling C) (a : Admitted s k (c ∷ h) r) : Type 0 where
    by : Admitted s k h r
    same : by.earlier ≡ a.earlier
    uncut : c ≡ withdraw r.id (Ok tt) → ⊥

  peel : (c : Step P) (h : List (Step P)) (r : Ruling C) (a : Admitted s k (c ∷ h) r) → JustNow c h r a ⊎ Before c h r a
  peel c h r a = go a.later a.is a.kept
    where
      go : (later : List (Step P)) → c ∷ h ≡ later ++ admit a.text a.place (Ok a.end) ∷ a.earlier → (Has later (withdraw r.id (Ok tt)) → ⊥) → JustNow c h r a ⊎ Before c h r a
      go [] e n = inl (record { is = cc; first = cc })
      go (d ∷ later) e n =
          let t : h ≡ later ++ admit a.text a.place (Ok a.end) ∷ a.earlier = cc in
          let u : d ≡ c = cc in
          inr (record {
            by = record { later = later; earlier = a.earlier; text = a.text; place = a.place; end = a.end; is = t; was_read = a.was_read; kept = λ x. n (there x) };
            same = refl;
            uncut = λ w. n (subst (λ z. Has (d ∷ later) z) (u ∙ w) here);
          })

  -- a call that does not withdraw the rule comes later
  further : (c : Step P) (h : List (Step P)) (r : Ruling C) → (c ≡ withdraw r.id (Ok tt) → ⊥) → Admitted s k h r → Admitted s k (c ∷ h) r
  further c h r n a = record {
    later = c ∷ a.later;
    earlier = a.earlier;
    text = a.text;
    place = a.place;
    end = a.end;
    is = ap (λ z. c ∷ z) a.is;
    was_read = a.was_read;
    kept = λ x. ⊎_elim (λ y. n (has_one y)) (λ y. a.kept y) (has_cases (c ∷ []) a.later _ x);
  }

  keep : (c : Step P) (rs : List (Ruling C)) (r : Ruling C) → (c ≡ withdraw r.id (Ok tt) → ⊥) → Has rs r → Has (after s k c rs) r
  keep (admit text place (Ok end)) rs r n h = has_left rs (read (read_rule k s text place)) r h
  keep (admit text place (Err why)) rs r n h = h
  keep (withdraw id (Ok u)) rs r n h = without_keeps id rs r (λ e. n (ap (λ z. withdraw z (Ok u)) (sym e))) h
  keep (withdraw id (Err why)) rs r n h = h
  keep (report old a new) rs r n h = h
  keep (decide port class point a) rs r n h = h
  keep (route position port old a new) rs r n h = h

  ids_so : {room : ℕ} (h : List (Step P)) {rs : List (Ruling C)} → LedTo s k room h rs → IdsApart rs
  ids_so [] at_first = tt
  ids_so (admit text place (Ok end) ∷ h) (next {rs = rs} c l (admits {r = q} e n m)) = subst (λ z. IdsApart (rs ++ read z)) (sym e) (ids_push rs q (ids_so h l) n)
  ids_so (admit text place (Err why) ∷ h) (next c l _) = ids_so h l
  ids_so (withdraw id (Ok u) ∷ h) (next {rs = rs} c l _) = ids_without id rs (ids_so h l)
  ids_so (withdraw id (Err why) ∷ h) (next c l _) = ids_so h l
  ids_so (report old a new ∷ h) (next c l _) = ids_so h l
  ids_so (decide port class point a ∷ h) (next c l _) = ids_so h l
  ids_so (route position port old a new ∷ h) (next c l _) = ids_so h l

  new_one : (text : List ℕ) (place end : ℕ) (h : List (Step P)) (q r : Ruling C) → read_rule k s text place ≡ Ok (q, end) → Has (read (read_rule k s text place)) r → Admitted s k (admit text place (Ok end) ∷ h) r
  new_one text place end h q r e x =
      let same : q ≡ r = has_one (subst (λ z. Has (read z) r) e x) in
      record { later = []; earlier = h; text = text; place = place; end = end; is = refl; was_read = e ∙ ap (λ z. Ok (z, end)) same; kept = λ y. has_none y }

  each_so : {room : ℕ} (h : List (Step P)) {rs : List (Ruling C)} → LedTo s k room h rs → (r : Ruling C) → Has rs r → Admitted s k h r
  each_so [] at_first r x = absurd (has_none x)
  each_so (admit text place (Ok end) ∷ h) (next {rs = rs} c l (admits {r = q} e n m)) r x = ⊎_elim
      (λ y. further (admit text place (Ok end)) h r (λ w. (cc)) (each_so h l r y))
      (λ y. new_one text place end h q r e y)
      (has_cases rs (read (read_rule k s text place)) r x)
  each_so (admit text place (Err why) ∷ h) (next c l _) r x = further (admit text place (Err why)) h r (λ w. (cc)) (each_so h l r x)
  each_so (withdraw id (Ok u) ∷ h) (next {rs = rs} c l _) r x = further (withdraw id (Ok u)) h r (λ w. without_gone id rs (ids_so h l) r x (let e : id ≡ r.id = cc in sym e)) (each_so h l r (has_without id rs r x))
  each_so (withdraw id (Err why) ∷ h) (next c l _) r x = further (withdraw id (Err why)) h r (λ w. (cc)) (each_so h l r x)
  each_so (report old a new ∷ h) (next c l _) r x = further (report old a new) h r (λ w. (cc)) (each_so h l r x)
  each_so (decide port class point a ∷ h) (next c l _) r x = further (decide port class point a) h r (λ w. (cc)) (each_so h l r x)
  each_so (route position port old a new ∷ h) (next c l _) r x = further (route position port old a new) h r (λ w. (cc)) (each_so h l r x)

  all_so : {room : ℕ} (h : List (Step P)) {rs : List (Ruling C)} → LedTo s k room h rs → (r : Ruling C) → Admitted s k h r → Has rs r
  all_so [] at_first r a = absurd (unbegun a.later a.earlier _ a.is)
  all_so (d ∷ h) (next {rs = rs} c l _) r a = elim (peel c h r a) [
    | inl now ↦ subst (λ z. Has (after s k z rs) r) (sym now.is) (has_right rs (read (read_rule k s a.text a.place)) r (subst (λ z. Has (read z) r) (sym a.was_read) here))
    | inr then ↦ keep c rs r then.uncut (all_so h l r then.by)
  ]

  abbrev InTurn : List (Step P) → List (Ruling C) → Type 0
  InTurn h rs = (i j : ℕ) (q r : Ruling C) → slice_get rs i ≡ Some q → slice_get rs j ≡ Some r → i < j → (a : Admitted s k h q) (b : Admitted s k h r) → length a.earlier < length b.earlier

  -- a call that is no admit comes later
  in_turn_after : (c : Step P) (h : List (Step P)) (rs : List (Ruling C)) → ((text : List ℕ) (place end : ℕ) → c ≡ admit text place (Ok end) → ⊥) → InTurn h rs → InTurn (c ∷ h) rs
  in_turn_after c h rs n t i j q r p o lt a b = elim (peel c h q a) [
    | inl now ↦ absurd (n a.text a.place a.end now.is)
    | inr x ↦ elim (peel c h r b) [
      | inl now ↦ absurd (n b.text b.place b.end now.is)
      | inr y ↦ subst (λ z. length z < length b.earlier) x.same (subst (λ z. length x.by.earlier < length z) y.same (t i j q r p o lt x.by y.by))
    ]
  ]

  -- a rule that stood before was not read by the last admit, whose id did not stand
  stood_before : (text : List ℕ) (place end : ℕ) (h : List (Step P)) (rs : List (Ruling C)) (q : Ruling C) → read_rule k s text place ≡ Ok (q, end) → (Known q.id rs → ⊥) → (r : Ruling C) → Has rs r → (a : Admitted s k (admit text place (Ok end) ∷ h) r) → Before (admit text place (Ok end)) h r a
  stood_before text place end h rs q e n r x a = elim (peel (admit text place (Ok end)) h r a) [
    | inl now ↦ absurd (n (r, x, ap (λ (z : Ruling C). z.id) (sym (again now))))
    | inr y ↦ y
  ]
    where
      again : JustNow (admit text place (Ok end)) h r a → q ≡ r
      again now =
          let m = now.is in
          let t : text ≡ a.text = cc in
          let p : place ≡ a.place = cc in
          let w : read_rule k s text place ≡ Ok (r, a.end) = ap (λ z. read_rule k s z place) t ∙ ap (λ z. read_rule k s a.text z) p ∙ a.was_read in
          let b : ◌≡◌ {A = Ruling C × ℕ} (q, end) (r, a.end) = cc in
          ap (λ (z : Ruling C × ℕ). z.0) b

  -- fewer calls came before it than there are
  shorter : (h : List (Step P)) (r : Ruling C) (a : Admitted s k h r) → length a.earlier < length h
  shorter h r a = omega (arith, simp length-append at (ap (λ z. length z) a.is))

  in_turn_admit : (text : List ℕ) (place end : ℕ) (h : List (Step P)) (rs : List (Ruling C)) (q : Ruling C) → read_rule k s text place ≡ Ok (q, end) → (Known q.id rs → ⊥) → ((r : Ruling C) → Admitted s k h r → Has rs r) → InTurn h rs → InTurn (admit text place (Ok end) ∷ h) (rs ++ q ∷ [])
  in_turn_admit text place end h rs q e n all t i j x y p o lt a b = elim (nth_push rs q j y o) [
    | inl behind ↦ (
        let at_i = nth_front rs q i x (omega (arith, behind.0)) p in
        let u = stood_before text place end h rs q e n x (nth_has rs i x at_i) a in
        let v = stood_before text place end h rs q e n y (nth_has rs j y behind.1) b in
        subst (λ z. length z < length b.earlier) u.same (subst (λ z. length u.by.earlier < length z) v.same (t i j x y at_i behind.1 lt u.by v.by)))
    | inr last ↦ (
        let at_i = nth_front rs q i x (omega (arith, last.0)) p in
        let u = stood_before text place end h rs q e n x (nth_has rs i x at_i) a in
        let w = shorter h x u.by in
        subst (λ z. length z < length b.earlier) u.same (elim (peel (admit text place (Ok end)) h y b) [
          | inl now ↦ subst (λ z. length u.by.earlier < length z) now.first w
          | inr before ↦ absurd (n (y, all y before.by, ap (λ (z : Ruling C). z.id) (sym last.1)))
        ]))
  ]

  in_turn_so : {room : ℕ} (h : List (Step P)) {rs : List (Ruling C)} → LedTo s k room h rs → InTurn h rs
  in_turn_so [] at_first = λ i j q r p o lt a b. absurd (has_none (nth_has [] i q p))
  in_turn_so (admit text place (Ok end) ∷ h) (next {rs = rs} c l (admits {r = q} e n m)) = subst (λ z. InTurn (admit text place (Ok end) ∷ h) (rs ++ read z)) (sym e) (in_turn_admit text place end h rs q e n (λ r a. all_so h l r a) (in_turn_so h l))
  in_turn_so (admit text place (Err why) ∷ h) (next {rs = rs} c l _) = in_turn_after (admit text place (Err why)) h rs (λ t p e w. (cc)) (in_turn_so h l)
  in_turn_so (withdraw id (Ok u) ∷ h) (next {rs = rs} c l _) = in_turn_after (withdraw id (Ok u)) h (without id rs) (λ t p e w. (cc))
      (λ i j q r p o lt a b. (let w = were_at id rs i j q r p o lt in in_turn_so h l w.0 w.1 q r w.2 w.3 w.4 a b))
  in_turn_so (withdraw id (Err why) ∷ h) (next {rs = rs} c l _) = in_turn_after (withdraw id (Err why)) h rs (λ t p e w. (cc)) (in_turn_so h l)
  in_turn_so (report old a new ∷ h) (next {rs = rs} c l _) = in_turn_after (report old a new) h rs (λ t p e w. (cc)) (in_turn_so h l)
  in_turn_so (decide port class point a ∷ h) (next {rs = rs} c l _) = in_turn_after (decide port class point a) h rs (λ t p e w. (cc)) (in_turn_so h l)
  in_turn_so (route position port old a new ∷ h) (next {rs = rs} c l _) = in_turn_after (route position port old a new) h rs (λ t p e w. (cc)) (in_turn_so h l)

  pub by_calls : {room : ℕ} (h : List (Step P)) {rs : List (Ruling C)} → LedTo s k room h rs → StandByCalls s k h rs
  by_calls h l = record { each = λ r x. each_so h l r x; all = λ r a. all_so h l r a; in_order = in_turn_so h l }
