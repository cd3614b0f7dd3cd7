-- The list of walks: each is a path along which the pattern stays alive, each such path is there, and none is there twice.
use Rattle.std.proofs.Common.{◌≡◌, ℕ, zero, suc, ◌+◌, ◌<◌, ◌≤◌, Bool, true, false, cond, eqb, ◌⊎◌, List, [], ◌∷◌, ◌++◌, map, length, get_or, drop, set, Some, None, Option, sym, refl, ap, ◌∙◌, subst, inl, inr, ⊎_elim, zero-add, arith}
use Rattle.std.proofs.lemmas.List.{get_or-set_same, get_or-set_other, length-set}
use Rattle.std.proofs.lemmas.Bool.{true≢false, eqb-false, cases_lt}
use Rattle.site.specs.declared.parts.Link.{Link}
use Rattle.site.specs.Links.{nowhere}
use Rattle.site.specs.Promises.{TwoEnded}
use Rattle.paths.specs.declared.pattern.Item.{Item}
use Rattle.paths.specs.declared.roads.Step.{Step}
use Rattle.paths.specs.Live.{after}
use Rattle.paths.specs.Roads.{far_end, over, steps_of, roads_over}
use Rattle.paths.specs.Walks.{Walk, grow, begin, through, along, opened, from, walks, beyond}
use Rattle.paths.specs.Paths.{In, Once}
use Rattle.paths.proofs.Counting.{through_on, at_live}
use Rattle.paths.proofs.Ways.{Way, steps_way, There, way_there, far_within, roads_at, roads_past}

-- Lists.
pub in_append : {A : Type 0} (p : A) (xs ys : List A) → In p (xs ++ ys) → In p xs ⊎ In p ys
in_append p [] ys h = inr h
in_append p (x ∷ xs) ys (inl e) = inl (inl e)
in_append p (x ∷ xs) ys (inr h) = ⊎_elim (λ a. inl (inr a)) (λ b. inr b) (in_append p xs ys h)

pub in_left : {A : Type 0} (p : A) (xs ys : List A) → In p xs → In p (xs ++ ys)
in_left p [] ys h = absurd h
in_left p (x ∷ xs) ys (inl e) = inl e
in_left p (x ∷ xs) ys (inr h) = inr (in_left p xs ys h)

pub in_right : {A : Type 0} (p : A) (xs ys : List A) → In p ys → In p (xs ++ ys)
in_right p [] ys h = h
in_right p (x ∷ xs) ys h = inr (in_right p xs ys h)

pub record Mapped {A B : Type 0} (f : A → B) (p : B) (xs : List A) : Type 0 where
  pub q : A
  pub there : In q xs
  pub is : p ≡ f q

pub in_map : {A B : Type 0} (f : A → B) (p : B) (xs : List A) → In p (map f xs) → Mapped f p xs
in_map f p [] h = absurd h
in_map f p (x ∷ xs) (inl e) = record { q = x; there = inl refl; is = e }
in_map f p (x ∷ xs) (inr h) = let g = in_map f p xs h in record { q = g.q; there = inr g.there; is = g.is }

pub map_in : {A B : Type 0} (f : A → B) (q : A) (xs : List A) → In q xs → In (f q) (map f xs)
map_in f q [] h = absurd h
map_in f q (x ∷ xs) (inl e) = inl (ap f e)
map_in f q (x ∷ xs) (inr h) = inr (map_in f q xs h)

pub once_append : {A : Type 0} (xs ys : List A) → Once xs → Once ys → ((p : A) → In p xs → In p ys → ⊥) → Once (xs ++ ys)
once_append [] ys ox oy d = oy
once_append (x ∷ xs) ys ox oy d =
    (λ h. ⊎_elim ox.0 (d x (inl refl)) (in_append x xs ys h), once_append xs ys ox.1 oy (λ p a b. d p (inr a) b))

pub once_map : {A B : Type 0} (f : A → B) (xs : List A) → ((x y : A) → In x xs → In y xs → f x ≡ f y → x ≡ y) → Once xs → Once (map f xs)
once_map f [] same o = tt
once_map f (x ∷ xs) same o = (
  λ h. let g = in_map f (f x) xs h in o.0 (subst (λ y. In y xs) (sym (same x g.q (inl refl) (inr g.there) g.is)) g.there),
  once_map f xs (λ a b p q e. same a b (inr p) (inr q) e) o.1,
)

-- What a walk is.
abbrev pub Joined : List Link → ℕ → List ℕ → List ℕ → Type 0
Joined ls n [] [] = Unit {0}
Joined ls n [] (i ∷ is) = ⊥
Joined ls n (m ∷ ns) [] = ⊥
Joined ls n (m ∷ ns) (i ∷ is) = (i < length ls) × (far_end (get_or ls i nowhere) n ≡ Some m) × Joined ls m ns is

-- the pattern has a live position after each of the nodes, and `end` are those after the last
abbrev pub Lives : List Item → ℕ → List ℕ → ℕ → Type 0
Lives items live [] end = end ≡ live
Lives items live (n ∷ ns) end = (after items live n ≡ 0 → ⊥) × Lives items (after items live n) ns end

abbrev pub Avoids : List Bool → List ℕ → Type 0
Avoids v [] = Unit {0}
Avoids v (m ∷ ms) = (get_or v m false ≡ false) × Avoids v ms

pub record Walked (ls : List Link) (items : List Item) (v : List Bool) (n live : ℕ) (w : Walk) : Type 0 where
  pub rest : List ℕ
  pub nodes : w.nodes ≡ n ∷ rest
  pub joined : Joined ls n rest w.links
  pub once : Once (n ∷ rest)
  pub avoids : Avoids v (n ∷ rest)
  pub lives : Lives items live (n ∷ rest) w.live

-- One way.
pub record Hop (rec : ℕ → List Walk) (v : List Bool) (n : ℕ) (s : Step) (p : Walk) : Type 0 where
  pub fresh : get_or v s.node false ≡ false
  pub grown : Mapped (grow n s.link) p (rec s.node)

through_in : (rec : ℕ → List Walk) (v : List Bool) (n : ℕ) (s : Step) (p : Walk) → In p (through rec v n s) → Hop rec v n s p
unfolding through
through_in rec v n s p h = go (get_or v s.node false) refl h
  where
    go : (b : Bool) → get_or v s.node false ≡ b → In p (cond b [] (map (grow n s.link) (rec s.node))) → Hop rec v n s p
    go true e h = absurd h
    go false e h = record { fresh = e; grown = in_map (grow n s.link) p (rec s.node) h }

-- Some way of a list.
pub record Went (rec : ℕ → List Walk) (v : List Bool) (n : ℕ) (ss : List Step) (p : Walk) : Type 0 where
  pub j : ℕ
  pub lt : j < length ss
  pub hop : Hop rec v n (get_or ss j (record { link = 0; node = 0 })) p

pub along_in : (rec : ℕ → List Walk) (v : List Bool) (n : ℕ) (ss : List Step) (p : Walk) → In p (along rec v n ss) → Went rec v n ss p
unfolding along
along_in rec v n [] p h = absurd h
along_in rec v n (s ∷ ss) p h =
    ⊎_elim
    (λ a. record { j = 0; lt = omega arith; hop = through_in rec v n s p a })
    (λ b. let w = along_in rec v n ss p b in record { j = suc w.j; lt = omega (arith, w.lt); hop = w.hop })
    (in_append p (through rec v n s) (along rec v n ss) h)

in_along : (rec : ℕ → List Walk) (v : List Bool) (n j : ℕ) (ss : List Step) (s : Step) (q : Walk) → j < length ss → get_or ss j (record { link = 0; node = 0 }) ≡ s
    → get_or v s.node false ≡ false → In q (rec s.node) → In (grow n s.link q) (along rec v n ss)
unfolding along
in_along rec v n j [] s q h is fresh there = absurd (omega arith)
in_along rec v n zero (x ∷ ss) s q h is fresh there =
    in_left _ (through rec v n x) (along rec v n ss)
    (subst (λ y. In (grow n s.link q) (through rec v n y)) (sym is)
    (subst (λ xs. In (grow n s.link q) xs) (sym (through_on rec v n s fresh)) (map_in (grow n s.link) q (rec s.node) there)))
in_along rec v n (suc j) (x ∷ ss) s q h is fresh there =
    in_right _ (through rec v n x) (along rec v n ss) (in_along rec v n j ss s q (omega arith) is fresh there)

-- The nodes of the trail.
avoid_out : (v : List Bool) (n : ℕ) (ns : List ℕ) → n < length v → Avoids (set v n true) ns → Avoids v ns × (In n ns → ⊥)
avoid_out v n [] h a = (tt, λ x. x)
avoid_out v n (m ∷ ms) h a =
    let ne : n ≡ m → ⊥ = λ e. true≢false (sym (get_or-set_same v n true false h) ∙ subst (λ x. get_or (set v n true) x false ≡ false) (sym e) a.0) in
    let r = avoid_out v n ms h a.1 in
    ((sym (get_or-set_other v n m true false (λ e. ne (sym e))) ∙ a.0, r.0), ⊎_elim ne r.1)

avoid_in : (v : List Bool) (n : ℕ) (ns : List ℕ) → Avoids v ns → (In n ns → ⊥) → Avoids (set v n true) ns
avoid_in v n [] a d = tt
avoid_in v n (m ∷ ms) a d = (get_or-set_other v n m true false (λ e. d (inl (sym e))) ∙ a.0, avoid_in v n ms a.1 (λ h. d (inr h)))

pub opened_in : (dead : Bool) (b p : Walk) (ps : List Walk) → In p (opened dead b ps) → (dead ≡ false) × In p (b ∷ ps)
opened_in true b p ps h = absurd h
opened_in false b p ps h = (refl, h)

-- Each that is listed is a walk.
alone : (ls : List Link) (items : List Item) (v : List Bool) (n live : ℕ) (p : Walk) → get_or v n false ≡ false → (after items live n ≡ 0 → ⊥)
    → p ≡ begin n (after items live n) → Walked ls items v n live p
alone ls items v n live p fresh alive e =
    record {
      rest = [];
      nodes = ap (λ (x : Walk). x.nodes) e;
      joined = subst (λ (x : Walk). Joined ls n [] x.links) (sym e) tt;
      once = (λ x. x, tt);
      avoids = (fresh, tt);
      lives = (alive, ap (λ (x : Walk). x.live) e);
    }

longer : (ls : List Link) (items : List Item) (v : List Bool) (n m i live : ℕ) (p q : Walk) → n < length v → get_or v n false ≡ false → (after items live n ≡ 0 → ⊥)
    → i < length ls → far_end (get_or ls i nowhere) n ≡ Some m → p ≡ grow n i q → Walked ls items (set v n true) m (after items live n) q → Walked ls items v n live p
longer ls items v n m i live p q w fresh alive lt far e g =
    let r = avoid_out v n (m ∷ g.rest) w g.avoids in
    record {
      rest = m ∷ g.rest;
      nodes = ap (λ (x : Walk). x.nodes) e ∙ ap (λ xs. n ∷ xs) g.nodes;
      joined = subst (λ (x : Walk). Joined ls n (m ∷ g.rest) x.links) (sym e) (lt, far, g.joined);
      once = (r.1, g.once);
      avoids = (fresh, r.0);
      lives = (alive, subst (λ (x : Walk). Lives items (after items live n) (m ∷ g.rest) x.live) (sym e) g.lives);
    }

-- what the ways on from a node are
way_at : (ls : List Link) (n j : ℕ) → n < 48 → j < length (get_or (roads_over ls) n []) → Way ls 0 n (get_or (get_or (roads_over ls) n []) j (record { link = 0; node = 0 }))
way_at ls n j h lt =
    let e = roads_at ls n h in
    subst (λ (x : List Step). Way ls 0 n (get_or x j (record { link = 0; node = 0 }))) (sym e) (steps_way ls 0 n j (omega (arith, ap length e)))

pub from_sound : (c : ℕ) (ls : List Link) → c ≤ 48 → TwoEnded c ls → (k : ℕ) (items : List Item) (v : List Bool) (n live : ℕ) (p : Walk) → length v ≡ 48 → n < 48 → get_or v n false ≡ false
    → In p (from k items (roads_over ls) v n live) → Walked ls items v n live p
unfolding from
from_sound c ls small two zero items v n live p long w fresh h = absurd h
from_sound c ls small two (suc k) items v n live p long w fresh h =
    let o = opened_in (eqb (after items live n) 0) (begin n (after items live n)) p (along (λ m. from k items (roads_over ls) (set v n true) m (after items live n)) (set v n true) n (get_or (roads_over ls) n [])) h in
    let alive : after items live n ≡ 0 → ⊥ = eqb-false (after items live n) 0 o.0 in
    ⊎_elim (λ e. alone ls items v n live p fresh alive e)
    (λ a.
    let g = along_in (λ m. from k items (roads_over ls) (set v n true) m (after items live n)) (set v n true) n (get_or (roads_over ls) n []) p a in
    let s : Step = get_or (get_or (roads_over ls) n []) g.j (record { link = 0; node = 0 }) in
    let y = way_at ls n g.j w g.lt in
    let t = two y.k y.lt in
    let m : s.node < c = far_within c (get_or ls y.k nowhere) n s.node y.far t.0 t.1 in
    longer ls items v n s.node y.k live p g.hop.grown.q (omega arith) fresh alive y.lt y.far
    (g.hop.grown.is ∙ ap (λ x. grow n x g.hop.grown.q) (y.number ∙ zero-add y.k))
    (from_sound c ls small two k items (set v n true) s.node (after items live n) g.hop.grown.q (length-set v n true ∙ long) (omega arith) g.hop.fresh g.hop.grown.there))
    o.1

-- Each walk is listed.
complete : (c : ℕ) (ls : List Link) → c ≤ 48 → TwoEnded c ls → (rest is : List ℕ) (end : ℕ) (items : List Item) (v : List Bool) (n live : ℕ) → length v ≡ 48 → n < 48
    → Joined ls n rest is → Once (n ∷ rest) → Avoids v (n ∷ rest) → Lives items live (n ∷ rest) end
    → In (record { nodes = n ∷ rest; links = is; live = end }) (walks items (roads_over ls) v n live)
complete c ls small two [] [] end items v n live long w j d a l =
    subst (λ xs. In (record { nodes = n ∷ []; links = []; live = end }) xs)
    (sym (at_live items (roads_over ls) v (set v n true) n live (after items live n) (omega arith) a.0 refl l.0 refl))
    (inl (ap (λ x. record { nodes = n ∷ []; links = []; live = x }) l.1))
complete c ls small two [] (i ∷ is) end items v n live long w j d a l = absurd j
complete c ls small two (m ∷ ns) [] end items v n live long w j d a l = absurd j
complete c ls small two (m ∷ ns) (i ∷ is) end items v n live long w j d a l =
    let kept = avoid_in v n (m ∷ ns) a.1 d.0 in
    let t = two i j.0 in
    let far : m < c = far_within c (get_or ls i nowhere) n m j.1 t.0 t.1 in
    let q : Walk = record { nodes = m ∷ ns; links = is; live = end } in
    let there : In q (walks items (roads_over ls) (set v n true) m (after items live n)) = complete c ls small two ns is end items (set v n true) m (after items live n) (length-set v n true ∙ long) (omega arith) j.2 d.1 kept l.1 in
    let h = subst (λ (x : List Step). There x (record { link = 0 + i; node = m })) (sym (roads_at ls n w)) (way_there ls 0 n i m j.0 j.1) in
    let at : In (grow n (0 + i) q) (beyond items (roads_over ls) (set v n true) n (after items live n) (get_or (roads_over ls) n [])) =
    in_along (λ x. walks items (roads_over ls) (set v n true) x (after items live n)) (set v n true) n h.j (get_or (roads_over ls) n []) (record { link = 0 + i; node = m }) q h.lt h.is kept.0 there in
    subst (λ xs. In (record { nodes = n ∷ m ∷ ns; links = i ∷ is; live = end }) xs)
    (sym (at_live items (roads_over ls) v (set v n true) n live (after items live n) (omega arith) a.0 refl l.0 refl))
    (inr (subst (λ x. In (grow n x q) (beyond items (roads_over ls) (set v n true) n (after items live n) (get_or (roads_over ls) n []))) (zero-add i) at))

pub walk_listed : (c : ℕ) (ls : List Link) → c ≤ 48 → TwoEnded c ls → (items : List Item) (v : List Bool) (n live : ℕ) (p : Walk) → length v ≡ 48 → n < 48
    → Walked ls items v n live p → In p (walks items (roads_over ls) v n live)
walk_listed c ls small two items v n live p long w g =
    subst (λ xs. In (record { nodes = xs; links = p.links; live = p.live }) (walks items (roads_over ls) v n live)) (sym g.nodes)
    (complete c ls small two g.rest p.links p.live items v n live long w g.joined g.once g.avoids g.lives)

-- None is listed twice.
ungrow : Walk → Walk
ungrow p = record { nodes = drop 1 p.nodes; links = drop 1 p.links; live = p.live }

grow_same : (n i : ℕ) (p q : Walk) → grow n i p ≡ grow n i q → p ≡ q
unfolding ungrow
grow_same n i p q e = ap ungrow e

once_through : (rec : ℕ → List Walk) (v : List Bool) (n : ℕ) (s : Step) → ((m : ℕ) → Once (rec m)) → Once (through rec v n s)
unfolding through
once_through rec v n s h =
    elim (get_or v s.node false) as (λ b. Once (cond b [] (map (grow n s.link) (rec s.node)))) [ true ↦ tt | false ↦ once_map (grow n s.link) (rec s.node) (λ x y _ _ e. grow_same n s.link x y e) (h s.node) ]

along_append : (rec : ℕ → List Walk) (v : List Bool) (n : ℕ) (xs : List Step) (o : Option ℕ) (i : ℕ) → ((m : ℕ) → Once (rec m)) → Once (along rec v n xs)
    → ((p : Walk) (m : ℕ) → In p (through rec v n (record { link = i; node = m })) → In p (along rec v n xs) → ⊥) → Once (along rec v n (over i o ++ xs))
unfolding along
along_append rec v n xs None i h o d = o
along_append rec v n xs (Some m) i h o d = once_append (through rec v n (record { link = i; node = m })) (along rec v n xs) (once_through rec v n (record { link = i; node = m }) h) o (λ p a b. d p m a b)

once_along : (rec : ℕ → List Walk) (v : List Bool) (n i : ℕ) (ls : List Link) → ((m : ℕ) → Once (rec m)) → Once (along rec v n (steps_of i ls n))
unfolding along steps_of
once_along rec v n i [] h = tt
once_along rec v n i (l ∷ ls) h =
    along_append rec v n (steps_of (i + 1) ls n) (far_end l n) i h (once_along rec v n (i + 1) ls h)
    (λ p m a b.
    let x = through_in rec v n (record { link = i; node = m }) p a in
    let y = along_in rec v n (steps_of (i + 1) ls n) p b in
    let z = steps_way ls (i + 1) n y.j y.lt in
    let e : i ≡ (get_or (steps_of (i + 1) ls n) y.j (record { link = 0; node = 0 })).link =
    sym (ap (λ (z : Walk). get_or z.links 0 0) x.grown.is) ∙ ap (λ (z : Walk). get_or z.links 0 0) y.hop.grown.is in
    omega (arith, e, z.number))

once_roads : (rec : ℕ → List Walk) (v : List Bool) (n : ℕ) (ls : List Link) → ((m : ℕ) → Once (rec m)) → Once (along rec v n (get_or (roads_over ls) n []))
unfolding along
once_roads rec v n ls h =
    ⊎_elim
    (λ lt. subst (λ ss. Once (along rec v n ss)) (sym (roads_at ls n lt)) (once_along rec v n 0 ls h))
    (λ ge. subst (λ ss. Once (along rec v n ss)) (sym (roads_past ls n ge)) tt)
    (cases_lt n 48)

pub from_once : (ls : List Link) (k : ℕ) (items : List Item) (v : List Bool) (n live : ℕ) → Once (from k items (roads_over ls) v n live)
unfolding from
from_once ls zero items v n live = tt
from_once ls (suc k) items v n live =
    elim (eqb (after items live n) 0) as (λ b. Once (opened b (begin n (after items live n)) (along (λ m. from k items (roads_over ls) (set v n true) m (after items live n)) (set v n true) n (get_or (roads_over ls) n [])))) [
      | true ↦ tt
      | false ↦ (
        λ h.
            let w = along_in (λ m. from k items (roads_over ls) (set v n true) m (after items live n)) (set v n true) n (get_or (roads_over ls) n []) (begin n (after items live n)) h in
            let e : 0 ≡ suc (length w.hop.grown.q.links) = ap (λ (z : Walk). length z.links) w.hop.grown.is in
            omega (arith, e),
        once_roads (λ m. from k items (roads_over ls) (set v n true) m (after items live n)) (set v n true) n ls (λ m. from_once ls k items (set v n true) m (after items live n)),
      )
    ]
