-- The steps of the search: what each way out of a node and of its links tells of the tally.
use Rattle.std.proofs.Common.{◌≡◌, ℕ, zero, suc, ◌+◌, ◌*◌, ◌^◌, ◌<◌, ◌≤◌, Bool, true, false, cond, eqb, List, [], ◌∷◌, ◌++◌, map, length, get_or, drop, set, Ok, Err, Result, sym, refl, ap, ◌∙◌, subst, arith, MatchResult}
use lib.Bits.{bit_or}
use Rattle.std.proofs.lemmas.List.{set-set, set-get_or, drop_more, drop_all, length-append, length-map}
use Rattle.std.proofs.lemmas.Bool.{true≢false, ne_eqb}
use Rattle.paths.specs.declared.pattern.Item.{Item}
use Rattle.paths.specs.declared.roads.Step.{Step}
use Rattle.paths.specs.declared.tally.Tally.{Tally}
use Rattle.paths.specs.declared.tally.OverBudget.{OverBudget}
use Rattle.paths.specs.Live.{after}
use Rattle.paths.specs.Digits.{has}
use Rattle.paths.specs.Walks.{Walk, grow, begin, free, through, along, opened, from, walks, beyond, ports_on, gather, Counted}

-- The trail: the mark, what was kept over the call, and the clear.
pub restored : (v a b d : List Bool) (n : ℕ) → get_or v n false ≡ false → a ≡ set v n true → b ≡ a → d ≡ set b n false → d ≡ v
restored v a b d n fresh ea eb ed =
    ed ∙ ap (λ x. set x n false) (eb ∙ ea) ∙ set-set v n true false ∙ ap (λ x. set v n x) (sym fresh) ∙ set-get_or v n false

-- One more node on the trail is one fewer that is free.
pub free_mark : (v : List Bool) (n : ℕ) → n < length v → get_or v n false ≡ false → free v ≡ suc (free (set v n true))
unfolding free
free_mark [] n h e = absurd (omega arith)
free_mark (true ∷ v) zero h e = absurd (true≢false e)
free_mark (false ∷ v) zero h e = refl
free_mark (true ∷ v) (suc n) h e = free_mark v n (omega arith) e
free_mark (false ∷ v) (suc n) h e = ap suc (free_mark v n (omega arith) e)

-- The ways from number i on: the first of them, and the rest.
pub along_more : (rec : ℕ → List Walk) (v : List Bool) (n : ℕ) (ss : List Step) (i : ℕ) (d : Step) → i < length ss
    → along rec v n (drop i ss) ≡ through rec v n (get_or ss i d) ++ along rec v n (drop (i + 1) ss)
unfolding along
along_more rec v n ss i d h = ap (along rec v n) (drop_more ss i d h)

pub along_all : (rec : ℕ → List Walk) (v : List Bool) (n : ℕ) (ss : List Step) (i : ℕ) → length ss ≤ i → along rec v n (drop i ss) ≡ []
unfolding along
along_all rec v n ss i h = ap (along rec v n) (drop_all i ss h)

pub through_back : (rec : ℕ → List Walk) (v : List Bool) (n : ℕ) (s : Step) → get_or v s.node false ≡ true → through rec v n s ≡ []
unfolding through
through_back rec v n s b = ap (λ x. cond x [] (map (grow n s.link) (rec s.node))) b

pub through_on : (rec : ℕ → List Walk) (v : List Bool) (n : ℕ) (s : Step) → get_or v s.node false ≡ false → through rec v n s ≡ map (grow n s.link) (rec s.node)
unfolding through
through_on rec v n s b = ap (λ x. cond x [] (map (grow n s.link) (rec s.node))) b

-- The set of ports.
abbrev pub both : ℕ → ℕ → ℕ
both used i = bit_or (bit_or used (2 ^ (2 * i))) (2 ^ (2 * i + 1))

pub gather_append : (last used f : ℕ) (ps qs : List Walk) → gather last used f (ps ++ qs) ≡ gather last used (gather last used f ps) qs
unfolding gather
gather_append last used f [] qs = refl
gather_append last used f (p ∷ ps) qs = gather_append last used (cond (has p.live last) (bit_or f (ports_on used p.links)) f) ps qs

gather_map : (last used f n i : ℕ) (ps : List Walk) → gather last used f (map (grow n i) ps) ≡ gather last (both used i) f ps
unfolding gather ports_on
gather_map last used f n i [] = refl
gather_map last used f n i (p ∷ ps) = gather_map last used (cond (has p.live last) (bit_or f (ports_on (both used i) p.links)) f) n i ps

-- The walks from a node that is not on the trail.
pub walks_open : (items : List Item) (roads : List (List Step)) (v : List Bool) (n live : ℕ) → n < length v → get_or v n false ≡ false
    → walks items roads v n live ≡ opened (eqb (after items live n) 0) (begin n (after items live n)) (beyond items roads (set v n true) n (after items live n) (get_or roads n []))
unfolding from
walks_open items roads v n live h e = ap (λ k. from k items roads v n live) (free_mark v n h e)

-- Where the search stands before some ways: of the walks `all`, `rest` are left; b is the tally at the start, e as it is now.
pub record Going (last : ℕ) (all rest : List Walk) (used : ℕ) (b e : Tally) : Type 0 where
  pub room : e.count ≤ 65536
  pub count : e.count + length rest ≡ b.count + length all
  pub found : gather last used e.found.bits rest ≡ gather last used b.found.bits all

pub going_none : (last : ℕ) (all : List Walk) (used : ℕ) (b : Tally) → b.count ≤ 65536 → Going last all all used b b
going_none last all used b h = record { room = h; count = refl; found = refl }

going_more : (last : ℕ) (all rest ps rest' : List Walk) (used n i : ℕ) (b e e' : Tally) → rest ≡ map (grow n i) ps ++ rest'
    → Going last all rest used b e → Counted last e (both used i) ps e' → Going last all rest' used b e'
going_more last all rest ps rest' used n i b e e' q g k =
    record {
      room = omega (arith, k.within, k.count);
      count = omega (arith, k.count, g.count, ap length q, length-append (map (grow n i) ps) rest', length-map ps (grow n i));
      found = ap (λ f. gather last used f rest') (k.found ∙ sym (gather_map last used e.found.bits n i ps)) ∙ sym (gather_append last used e.found.bits (map (grow n i) ps) rest') ∙ sym (ap (gather last used e.found.bits) q) ∙ g.found;
    }

going_over : (last : ℕ) (all rest ps rest' : List Walk) (used n i : ℕ) (b e : Tally) → rest ≡ map (grow n i) ps ++ rest'
    → Going last all rest used b e → 65536 < e.count + length ps → 65536 < b.count + length all
going_over last all rest ps rest' used n i b e q g k =
    omega (arith, k, g.count, ap length q, length-append (map (grow n i) ps) rest', length-map ps (grow n i))

pub going_all : (last : ℕ) (all rest : List Walk) (used : ℕ) (b e : Tally) → rest ≡ [] → Going last all rest used b e → Counted last b used all e
unfolding gather
going_all last all rest used b e q g =
    record {
      within = omega (arith, g.count, g.room, ap length q);
      count = omega (arith, g.count, ap length q);
      found = sym (ap (gather last used e.found.bits) q) ∙ g.found;
    }

-- A node after which the pattern has no live position starts no walk.
pub at_dead : (items : List Item) (roads : List (List Step)) (v : List Bool) (n live live' used last : ℕ) (b : Tally) → n < length v → get_or v n false ≡ false
    → live' ≡ after items live n → live' ≡ 0 → b.count ≤ 65536 → Counted last b used (walks items roads v n live) b
unfolding gather
at_dead items roads v n live live' used last b h e q z room =
    let none : walks items roads v n live ≡ [] =
    walks_open items roads v n live h e ∙ ap (λ x. opened (eqb x 0) (begin n (after items live n)) (beyond items roads (set v n true) n (after items live n) (get_or roads n []))) (sym q ∙ z) in
    subst (λ ps. Counted last b used ps b) (sym none) (record { within = omega arith; count = omega arith; found = refl })

-- The first is the node alone, and the others go along a link.
pub at_live : (items : List Item) (roads : List (List Step)) (v v' : List Bool) (n live live' : ℕ) → n < length v → get_or v n false ≡ false
    → live' ≡ after items live n → (live' ≡ 0 → ⊥) → v' ≡ set v n true
    → walks items roads v n live ≡ begin n live' ∷ beyond items roads v' n live' (get_or roads n [])
at_live items roads v v' n live live' h e q z w =
    let alive : eqb live' 0 ≡ false = ne_eqb live' 0 z in
    let started : walks items roads v n live ≡ opened (eqb live' 0) (begin n live') (beyond items roads v' n live' (get_or roads n [])) =
    walks_open items roads v n live h e
    ∙ ap (λ x. opened (eqb x 0) (begin n x) (beyond items roads (set v n true) n x (get_or roads n []))) (sym q)
    ∙ ap (λ x. opened (eqb live' 0) (begin n live') (beyond items roads x n live' (get_or roads n []))) (sym w) in
    started ∙ ap (λ x. opened x (begin n live') (beyond items roads v' n live' (get_or roads n []))) alive

pub counted_more : (last : ℕ) (all ps : List Walk) (n live used : ℕ) (b e : Tally) (is : Bool) (r : Result (Unit {0}) OverBudget) (x : Tally) → all ≡ begin n live ∷ ps
    → is ≡ has live last → b.count < 65536 → e.count ≡ b.count + 1 → e.found.bits ≡ cond is (bit_or b.found.bits used) b.found.bits
    → MatchResult r (λ _. Counted last e used ps x) (λ _. 65536 < e.count + length ps)
    → MatchResult r (λ _. Counted last b used all x) (λ _. 65536 < b.count + length all)
unfolding gather ports_on
counted_more last all ps n live used b e is (Ok u) x q f h c s k =
    let g : e.found.bits ≡ cond (has live last) (bit_or b.found.bits used) b.found.bits =
    s ∙ ap (λ y. cond y (bit_or b.found.bits used) b.found.bits) f in
    record {
      within = omega (arith, k.within, c, ap length q);
      count = omega (arith, k.count, c, ap length q);
      found = k.found ∙ ap (λ y. gather last used y ps) g ∙ sym (ap (gather last used b.found.bits) q);
    }
counted_more last all ps n live used b e is (Err u) x q f h c s k = omega (arith, k, c, ap length q)

-- One way: the search went on by it, stopped in it, or left it.
module _ (last : ℕ) (items : List Item) (roads : List (List Step)) (v v₀ : List Bool) (n live i used : ℕ) (ss xs : List Step) (d s : Step) (b e : Tally)
    (lt : i < length xs) (ways : xs ≡ ss) (way : s ≡ get_or xs i d) (same : v ≡ v₀)
    (g : Going last (beyond items roads v₀ n live ss) (beyond items roads v₀ n live (drop i ss)) used b e) where
  h : i < length ss
  h = omega (arith, lt, ap length ways)

  first : beyond items roads v₀ n live (drop i ss) ≡ through (λ m. walks items roads v₀ m live) v₀ n s ++ beyond items roads v₀ n live (drop (i + 1) ss)
  first = along_more (λ m. walks items roads v₀ m live) v₀ n ss i d h
      ∙ ap (λ x. through (λ m. walks items roads v₀ m live) v₀ n x ++ beyond items roads v₀ n live (drop (i + 1) ss)) (sym (way ∙ ap (λ (x : List Step). get_or x i d) ways))

  hop_is : (mark : Bool) → mark ≡ get_or v s.node false → mark ≡ false
      → beyond items roads v₀ n live (drop i ss) ≡ map (grow n s.link) (walks items roads v₀ s.node live) ++ beyond items roads v₀ n live (drop (i + 1) ss)
  hop_is mark is fresh =
      let fresh₂ : get_or v₀ s.node false ≡ false = subst (λ (x : List Bool). get_or x s.node false ≡ false) same (sym is ∙ fresh) in
      first
      ∙ ap (λ x. x ++ beyond items roads v₀ n live (drop (i + 1) ss)) (through_on (λ m. walks items roads v₀ m live) v₀ n (s) fresh₂)

  pub hop_counted : (mark : Bool) (used' : ℕ) (e' : Tally) → mark ≡ get_or v s.node false → mark ≡ false → used' ≡ both used s.link
      → Counted last e used' (walks items roads v s.node live) e'
      → Going last (beyond items roads v₀ n live ss) (beyond items roads v₀ n live (drop (i + 1) ss)) used b e'
  hop_counted mark used' e' is fresh u k =
      let k₁ : Counted last e (both used s.link) (walks items roads v s.node live) e' = subst (λ x. Counted last e x (walks items roads v s.node live) e') u k in
      let k₂ : Counted last e (both used s.link) (walks items roads v₀ s.node live) e' = subst (λ (x : List Bool). Counted last e (both used s.link) (walks items roads x s.node live) e') same k₁ in
      going_more last _ _ (walks items roads v₀ s.node live) _ used n s.link b e e' (hop_is mark is fresh) g k₂

  pub hop_over : (mark : Bool) → mark ≡ get_or v s.node false → mark ≡ false
      → 65536 < e.count + length (walks items roads v s.node live)
      → 65536 < b.count + length (beyond items roads v₀ n live ss)
  hop_over mark is fresh k =
      let k₂ : 65536 < e.count + length (walks items roads v₀ s.node live) = subst (λ (x : List Bool). 65536 < e.count + length (walks items roads x s.node live)) same k in
      going_over last (beyond items roads v₀ n live ss) (beyond items roads v₀ n live (drop i ss)) (walks items roads v₀ s.node live) (beyond items roads v₀ n live (drop (i + 1) ss)) used n s.link b e (hop_is mark is fresh) g k₂

  pub hop_back : (mark : Bool) → mark ≡ get_or v s.node false → mark ≡ true
      → Going last (beyond items roads v₀ n live ss) (beyond items roads v₀ n live (drop (i + 1) ss)) used b e
  hop_back mark is seen =
      let seen₂ : get_or v₀ s.node false ≡ true = subst (λ (x : List Bool). get_or x s.node false ≡ true) same (sym is ∙ seen) in
      subst (λ x. Going last (beyond items roads v₀ n live ss) x used b e)
      (first
      ∙ ap (λ x. x ++ beyond items roads v₀ n live (drop (i + 1) ss)) (through_back (λ m. walks items roads v₀ m live) v₀ n (s) seen₂)) g
