-- The steps of the search for one path.
use Rattle.std.proofs.Common.{◌≡◌, ℕ, ◌+◌, ◌<◌, ◌≤◌, Bool, true, false, cond, not, ◌&&◌, ◌||◌, eqb, List, [], ◌∷◌, ◌++◌, map, length, get_or, drop, set, Some, None, Option, sym, refl, ap, ◌∙◌, subst, inl, inr, ⊎_elim, arith}
use Rattle.std.proofs.lemmas.Bool.{cond-true, cond-false}
use Rattle.std.specs.Option.{is_none, is_some, option_or}
use Rattle.std.proofs.lemmas.List.Folds.{find-append}
use Rattle.paths.specs.declared.pattern.Item.{Item}
use Rattle.paths.specs.declared.roads.Step.{Step}
use Rattle.paths.specs.Live.{after}
use Rattle.paths.specs.Paths.{In}
use Rattle.paths.specs.Digits.{has}
use Rattle.paths.specs.Routes.{among, without, met_by, hit, first_hit, written, Drawn}
use Rattle.paths.specs.Walks.{Walk, grow, begin, through, opened, walks, beyond}
use Rattle.paths.proofs.Counting.{along_more, along_all, through_on, through_back, walks_open, at_live}
use Rattle.paths.proofs.Listing.{along_in}

-- The first hit of two lists, and of walks that are grown.
abbrev grown : ℕ → ℕ → Option Walk → Option Walk
grown n i None = None
grown n i (Some w) = Some (grow n i w)

pub hits_append : (last : ℕ) (unmet : Option ℕ) (xs ys : List Walk) → first_hit last unmet (xs ++ ys) ≡ option_or (first_hit last unmet xs) (first_hit last unmet ys)
unfolding first_hit
hits_append last unmet xs ys = find-append (hit last unmet) xs ys

hit_grow : (last : ℕ) (unmet : Option ℕ) (n i : ℕ) (w : Walk) → hit last unmet (grow n i w) ≡ hit last (without unmet i) w
hit_grow last unmet n i w = ap (λ x. has w.live last && x) (met_grow unmet)
  where
    met_grow : (o : Option ℕ) → met_by o (i ∷ w.links) ≡ met_by (without o i) w.links
    met_grow None = refl
    met_grow (Some j) = elim (eqb i j) as (λ b. (b || among j w.links) ≡ met_by (cond b None (Some j)) w.links) [ true ↦ refl | false ↦ refl ]

hits_map : (last : ℕ) (unmet : Option ℕ) (n i : ℕ) (ws : List Walk) → first_hit last unmet (map (grow n i) ws) ≡ grown n i (first_hit last (without unmet i) ws)
unfolding first_hit
hits_map last unmet n i [] = refl
hits_map last unmet n i (w ∷ ws) =
    ap (λ b. cond b (Some (grow n i w)) (first_hit last unmet (map (grow n i) ws))) (hit_grow last unmet n i w)
    ∙ (elim (hit last (without unmet i) w) as (λ b. cond b (Some (grow n i w)) (first_hit last unmet (map (grow n i) ws)) ≡ grown n i (cond b (Some w) (first_hit last (without unmet i) ws)))
    [ true ↦ refl | false ↦ hits_map last unmet n i ws ])

-- A hit is in the list, and is one.
pub hit_in : (last : ℕ) (unmet : Option ℕ) (ws : List Walk) (w : Walk) → first_hit last unmet ws ≡ Some w → In w ws × (hit last unmet w ≡ true)
unfolding first_hit
hit_in last unmet [] w e = absurd (never e)
  where
    never : None ≡ Some w → ⊥
    never e = let z : ◌≡◌ {A = ℕ} 0 1 = cc in omega arith
hit_in last unmet (x ∷ ws) w e = go (hit last unmet x) refl e (λ e. hit_in last unmet ws w e)
  where
    go : (b : Bool) → hit last unmet x ≡ b → cond b (Some x) (first_hit last unmet ws) ≡ Some w → (first_hit last unmet ws ≡ Some w → In w ws × (hit last unmet w ≡ true)) → In w (x ∷ ws) × (hit last unmet w ≡ true)
    go true h e rec = let same : x ≡ w = cc in (inl (sym same), subst (λ y. hit last unmet y ≡ true) same h)
    go false h e rec = let r = rec e in (inr r.0, r.1)

-- Where there is none, no walk is one.
pub no_hit : (last : ℕ) (unmet : Option ℕ) (ws : List Walk) → first_hit last unmet ws ≡ None → (w : Walk) → In w ws → hit last unmet w ≡ true → ⊥
unfolding first_hit
no_hit last unmet [] e w h t = h
no_hit last unmet (x ∷ ws) e w h t = go (hit last unmet x) refl e (λ e. no_hit last unmet ws e w)
  where
    go : (b : Bool) → hit last unmet x ≡ b → cond b (Some x) (first_hit last unmet ws) ≡ None → (first_hit last unmet ws ≡ None → In w ws → hit last unmet w ≡ true → ⊥) → ⊥
    go true q e rec = let z : ◌≡◌ {A = ℕ} 0 1 = cc in omega arith
    go false q e rec = ⊎_elim (λ s. let f : ◌≡◌ {A = ℕ} 0 1 = differ (subst (λ y. hit last unmet y ≡ true) s t) q in omega arith) (λ i. rec e i t) h
      where
        differ : {b : Bool} → b ≡ true → b ≡ false → ◌≡◌ {A = ℕ} 0 1
        differ p q = let s : true ≡ false = sym p ∙ q in cc

-- What is drawn tells whether there is a hit.
pub drawn_none : (k d : ℕ) (o : Option Walk) (out kept : List ℕ) (r : Option ℕ) → r ≡ None → Drawn k d o out r kept → (o ≡ None) × (kept ≡ out)
drawn_none k d None out kept r e g = (refl, g.1)
drawn_none k d (Some w) out kept r e g = let z : ◌≡◌ {A = ℕ} 0 1 = clash (sym e ∙ g.0) in absurd (omega arith)
  where
    clash : {x : ℕ} → None ≡ Some x → ◌≡◌ {A = ℕ} 0 1
    clash e = cc

pub record Drew (k d : ℕ) (o : Option Walk) (out kept : List ℕ) (len : ℕ) : Type 0 where
  pub w : Walk
  pub is : o ≡ Some w
  pub size : len ≡ d + length (drop k w.nodes)
  pub text : kept ≡ written d (drop k w.nodes) out

pub drawn_some : (k d : ℕ) (o : Option Walk) (out kept : List ℕ) (r : Option ℕ) (len : ℕ) → r ≡ Some len → Drawn k d o out r kept → Drew k d o out kept len
drawn_some k d None out kept r len e g = let z : ◌≡◌ {A = ℕ} 0 1 = clash (sym g.0 ∙ e) in absurd (omega arith)
  where
    clash : {x : ℕ} → None ≡ Some x → ◌≡◌ {A = ℕ} 0 1
    clash e = cc
drawn_some k d (Some w) out kept r len e g = record { w = w; is = refl; size = same (sym e ∙ g.0); text = g.1 }
  where
    same : {x y : ℕ} → Some x ≡ Some y → x ≡ y
    same e = cc

-- One way: a path was found on it, or none, or it was left.
module _ (last : ℕ) (items : List Item) (roads : List (List Step)) (v v₀ : List Bool) (n live i : ℕ) (unmet : Option ℕ) (ss xs : List Step) (d s : Step)
    (lt : i < length xs) (ways : xs ≡ ss) (way : s ≡ get_or xs i d) (same : v ≡ v₀)
    (g : first_hit last unmet (beyond items roads v₀ n live (drop i ss)) ≡ first_hit last unmet (beyond items roads v₀ n live ss)) where
  h : i < length ss
  h = omega (arith, lt, ap length ways)

  first : beyond items roads v₀ n live (drop i ss) ≡ through (λ m. walks items roads v₀ m live) v₀ n s ++ beyond items roads v₀ n live (drop (i + 1) ss)
  first = along_more (λ m. walks items roads v₀ m live) v₀ n ss i d h
      ∙ ap (λ x. through (λ m. walks items roads v₀ m live) v₀ n x ++ beyond items roads v₀ n live (drop (i + 1) ss)) (sym (way ∙ ap (λ (x : List Step). get_or x i d) ways))

  on : (mark : Bool) (unmet' : Option ℕ) → mark ≡ get_or v s.node false → mark ≡ false → unmet' ≡ without unmet s.link
      → option_or (grown n s.link (first_hit last unmet' (walks items roads v s.node live))) (first_hit last unmet (beyond items roads v₀ n live (drop (i + 1) ss)))
      ≡ first_hit last unmet (beyond items roads v₀ n live ss)
  on mark unmet' is fresh m =
      let fresh₂ : get_or v₀ s.node false ≡ false = subst (λ (x : List Bool). get_or x s.node false ≡ false) same (sym is ∙ fresh) in
      ap (λ (x : List Bool). option_or (grown n s.link (first_hit last unmet' (walks items roads x s.node live))) (first_hit last unmet (beyond items roads v₀ n live (drop (i + 1) ss)))) same
      ∙ ap (λ x. option_or (grown n s.link (first_hit last x (walks items roads v₀ s.node live))) (first_hit last unmet (beyond items roads v₀ n live (drop (i + 1) ss)))) m
      ∙ ap (λ x. option_or x (first_hit last unmet (beyond items roads v₀ n live (drop (i + 1) ss)))) (sym (hits_map last unmet n s.link (walks items roads v₀ s.node live)))
      ∙ ap (λ x. option_or (first_hit last unmet x) (first_hit last unmet (beyond items roads v₀ n live (drop (i + 1) ss)))) (sym (through_on (λ m. walks items roads v₀ m live) v₀ n s fresh₂))
      ∙ sym (hits_append last unmet (through (λ m. walks items roads v₀ m live) v₀ n s) (beyond items roads v₀ n live (drop (i + 1) ss)))
      ∙ sym (ap (first_hit last unmet) first) ∙ g

  pub way_found : (mark : Bool) (unmet' : Option ℕ) (depth len : ℕ) (out out₀ kept : List ℕ) (r : Option ℕ) → mark ≡ get_or v s.node false → mark ≡ false → unmet' ≡ without unmet s.link
      → out ≡ out₀ → r ≡ Some len → Drawn 0 depth (first_hit last unmet' (walks items roads v s.node live)) out r kept
      → Drawn 1 depth (first_hit last unmet (beyond items roads v₀ n live ss)) out₀ (Some len) kept
  way_found mark unmet' depth len out out₀ kept r is fresh m eo er drawn =
      let x = drawn_some 0 depth (first_hit last unmet' (walks items roads v s.node live)) out kept r len er drawn in
      let e : Some (grow n s.link x.w) ≡ first_hit last unmet (beyond items roads v₀ n live ss) =
      sym (ap (λ o. option_or (grown n s.link o) (first_hit last unmet (beyond items roads v₀ n live (drop (i + 1) ss)))) x.is) ∙ on mark unmet' is fresh m in
      subst (λ o. Drawn 1 depth o out₀ (Some len) kept) e (ap Some x.size, x.text ∙ ap (written depth x.w.nodes) eo)

  pub way_none : (mark : Bool) (unmet' : Option ℕ) (depth : ℕ) (out kept : List ℕ) (r : Option ℕ) → mark ≡ get_or v s.node false → mark ≡ false → unmet' ≡ without unmet s.link
      → r ≡ None → Drawn 0 depth (first_hit last unmet' (walks items roads v s.node live)) out r kept
      → (kept ≡ out) × (first_hit last unmet (beyond items roads v₀ n live (drop (i + 1) ss)) ≡ first_hit last unmet (beyond items roads v₀ n live ss))
  way_none mark unmet' depth out kept r is fresh m er drawn =
      let x = drawn_none 0 depth (first_hit last unmet' (walks items roads v s.node live)) out kept r er drawn in
      (x.1, sym (ap (λ o. option_or (grown n s.link o) (first_hit last unmet (beyond items roads v₀ n live (drop (i + 1) ss)))) x.0) ∙ on mark unmet' is fresh m)

  pub way_back : (mark : Bool) → mark ≡ get_or v s.node false → mark ≡ true
      → first_hit last unmet (beyond items roads v₀ n live (drop (i + 1) ss)) ≡ first_hit last unmet (beyond items roads v₀ n live ss)
  way_back mark is seen =
      let seen₂ : get_or v₀ s.node false ≡ true = subst (λ (x : List Bool). get_or x s.node false ≡ true) same (sym is ∙ seen) in
      sym (ap (first_hit last unmet) (first ∙ ap (λ x. x ++ beyond items roads v₀ n live (drop (i + 1) ss)) (through_back (λ m. walks items roads v₀ m live) v₀ n s seen₂))) ∙ g

pub ways_over : (last : ℕ) (items : List Item) (roads : List (List Step)) (v : List Bool) (n live i : ℕ) (unmet : Option ℕ) (ss : List Step) (depth : ℕ) (out kept : List ℕ) → length ss ≤ i → kept ≡ out
    → first_hit last unmet (beyond items roads v n live (drop i ss)) ≡ first_hit last unmet (beyond items roads v n live ss)
    → Drawn 1 depth (first_hit last unmet (beyond items roads v n live ss)) out None kept
unfolding first_hit
ways_over last items roads v n live i unmet ss depth out kept past eo g =
    subst (λ o. Drawn 1 depth o out None kept) (sym (ap (first_hit last unmet) (along_all (λ m. walks items roads v m live) v n ss i past)) ∙ g) (refl, eo)

-- Whether a path ends at a node, from the two tests: `stands`, which says that the position past the last is live, and `none`, of what is still to be met.
pub ends_yes : (full stands : Bool) (unmet : Option ℕ) (none : Bool) → stands ≡ full → is_some unmet ≡ not none → stands ≡ true → none ≡ true → (full && is_none unmet) ≡ true
ends_yes full stands unmet none a e b d = ap (λ x. x && is_none unmet) (sym a ∙ b) ∙ ap not (e ∙ ap not d)

pub ends_not_full : (full stands : Bool) (unmet : Option ℕ) → stands ≡ full → stands ≡ false → (full && is_none unmet) ≡ false
ends_not_full full stands unmet a b = ap (λ x. x && is_none unmet) (sym a ∙ b)

pub ends_unmet : (full none : Bool) (unmet : Option ℕ) → is_some unmet ≡ not none → none ≡ false → (full && is_none unmet) ≡ false
ends_unmet full none unmet e d = ap (λ x. full && not x) (e ∙ ap not d) ∙ never full
  where
    never : (b : Bool) → (b && false) ≡ false
    never true = refl
    never false = refl

-- At a node: the pattern dies, the path ends here, or it goes on.
module _ (last : ℕ) (items : List Item) (roads : List (List Step)) (v : List Bool) (n live live' : ℕ) (unmet : Option ℕ) (depth : ℕ) (out : List ℕ)
    (lt : n < length v) (fresh : get_or v n false ≡ false) (is : live' ≡ after items live n) where
  pub node_dead : live' ≡ 0 → Drawn 0 depth (first_hit last unmet (walks items roads v n live)) out None out
  unfolding first_hit
  node_dead z =
      let none : walks items roads v n live ≡ [] =
      walks_open items roads v n live lt fresh ∙ ap (λ x. opened (eqb x 0) (begin n (after items live n)) (beyond items roads (set v n true) n (after items live n) (get_or roads n []))) (sym is ∙ z) in
      subst (λ ws. Drawn 0 depth (first_hit last unmet ws) out None out) (sym none) (refl, refl)

  pub node_ends : (live' ≡ 0 → ⊥) → (has live' last && is_none unmet) ≡ true → Drawn 0 depth (first_hit last unmet (walks items roads v n live)) out (Some (depth + 1)) (set out depth n)
  unfolding first_hit written
  node_ends z t =
      let all = at_live items roads v (set v n true) n live live' lt fresh is z refl in
      let yes : hit last unmet (begin n live') ≡ true = ap (λ x. has live' last && x) (none_met unmet) ∙ t in
      let found : first_hit last unmet (walks items roads v n live) ≡ Some (begin n live') =
      ap (first_hit last unmet) all ∙ cond-true (hit last unmet (begin n live')) (Some (begin n live')) (first_hit last unmet (beyond items roads (set v n true) n live' (get_or roads n []))) yes in
      subst (λ o. Drawn 0 depth o out (Some (depth + 1)) (set out depth n)) (sym found) (refl, refl)
    where
      none_met : (o : Option ℕ) → met_by o [] ≡ is_none o
      none_met None = refl
      none_met (Some i) = refl

  on_from : (v' : List Bool) → v' ≡ set v n true → (live' ≡ 0 → ⊥) → (has live' last && is_none unmet) ≡ false
      → first_hit last unmet (walks items roads v n live) ≡ first_hit last unmet (beyond items roads v' n live' (get_or roads n []))
  unfolding first_hit
  on_from v' marked z f =
      let all = at_live items roads v v' n live live' lt fresh is z marked in
      let no : hit last unmet (begin n live') ≡ false = ap (λ x. has live' last && x) (none_met unmet) ∙ f in
      ap (first_hit last unmet) all ∙ cond-false (hit last unmet (begin n live')) (Some (begin n live')) (first_hit last unmet (beyond items roads v' n live' (get_or roads n []))) no
    where
      none_met : (o : Option ℕ) → met_by o [] ≡ is_none o
      none_met None = refl
      none_met (Some i) = refl

  pub node_none : (v' : List Bool) → v' ≡ set v n true → (live' ≡ 0 → ⊥) → (has live' last && is_none unmet) ≡ false → (kept : List ℕ) (r : Option ℕ) → r ≡ None
      → Drawn 1 (depth + 1) (first_hit last unmet (beyond items roads v' n live' (get_or roads n []))) out r kept → Drawn 0 depth (first_hit last unmet (walks items roads v n live)) out None kept
  node_none v' marked z f kept r er drawn =
      let x = drawn_none 1 (depth + 1) (first_hit last unmet (beyond items roads v' n live' (get_or roads n []))) out kept r er drawn in
      subst (λ o. Drawn 0 depth o out None kept) (sym (on_from v' marked z f ∙ x.0)) (refl, x.1)

  pub node_found : (v' : List Bool) → v' ≡ set v n true → (live' ≡ 0 → ⊥) → (has live' last && is_none unmet) ≡ false → (kept : List ℕ) (r : Option ℕ) (len : ℕ) → r ≡ Some len
      → Drawn 1 (depth + 1) (first_hit last unmet (beyond items roads v' n live' (get_or roads n []))) out r kept → Drawn 0 depth (first_hit last unmet (walks items roads v n live)) out (Some len) (set kept depth n)
  unfolding written
  node_found v' marked z f kept r len er drawn =
      let x = drawn_some 1 (depth + 1) (first_hit last unmet (beyond items roads v' n live' (get_or roads n []))) out kept r len er drawn in
      let y = along_in (λ m. walks items roads v' m live') v' n (get_or roads n []) x.w (hit_in last unmet (beyond items roads v' n live' (get_or roads n [])) x.w x.is).0 in
      let nodes : x.w.nodes ≡ n ∷ drop 1 x.w.nodes =
      ap (λ (w : Walk). w.nodes) y.hop.grown.is ∙ ap (λ (w : Walk). n ∷ drop 1 w.nodes) (sym y.hop.grown.is) in
      subst (λ o. Drawn 0 depth o out (Some len) (set kept depth n)) (sym (on_from v' marked z f ∙ x.is))
      (ap Some (omega (arith, x.size, ap length nodes)), ap (λ k. set k depth n) x.text ∙ sym (ap (λ ns. written depth ns out) nodes))
