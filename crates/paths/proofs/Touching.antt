-- The ports that a search finds are those that the paths of the pattern touch.
use Rattle.std.proofs.Common.{◌≡◌, ℕ, zero, suc, ◌+◌, ◌*◌, ◌^◌, ◌<◌, ◌≤◌, Bool, true, false, cond, ◌||◌, eqb, ltb, ◌⊎◌, List, [], ◌∷◌, ◌++◌, length, get_or, drop, Ok, Err, Decides, sym, refl, ap, ◌∙◌, subst, inl, inr, ⊎_elim, arith}
use lib.Bits.{bit_or}
use Rattle.std.proofs.lemmas.List.{length-map, length-append}
use Rattle.std.proofs.lemmas.Bool.{false≢true, eq-eqb, ne_eqb, eqb-true, eqb-false, ltb-true, ltb-false, lt-ltb, and_parts, and_from, or_cases, or_left, or_right, cases_Bool, cond_both}
use Rattle.site.specs.declared.parts.Link.{Link}
use Rattle.site.specs.Links.{nowhere, ends, joins, linked}
use Rattle.site.specs.Promises.{TwoEnded, Unrepeated, AllLinked}
use Rattle.paths.specs.declared.finding.Fault.TheVariants.{TooMany, NoPath}
use Rattle.paths.specs.declared.pattern.Item.{Item}
use Rattle.paths.specs.declared.pattern.Item.TheVariants.{Node, Star}
use Rattle.paths.specs.declared.ports.Port.{Port}
use Rattle.paths.specs.declared.ports.PortSet.{PortSet}
use Rattle.paths.specs.Found.{all_walks, add_end, end_ports, alone_ports, touched_bits, answered, searched}
use Rattle.paths.specs.Live.{start}
use Rattle.paths.specs.Paths.{In, Path, Own, Takes, Touches, Reached, partial_paths, Judged}
use Rattle.paths.specs.Patterns.{Blocks, starred, Stands}
use Rattle.paths.specs.Digits.{has}
use Rattle.paths.specs.PortSets.{is_port, number_of, holds}
use Rattle.paths.specs.Roads.{roads_over}
use Rattle.paths.specs.Walks.{Walk, unmarked, ports_on, gather}
use Rattle.paths.proofs.Bits.{has_or, has_with, has_none, some_in}
use Rattle.paths.proofs.Counting.{both}
use Rattle.paths.proofs.Listing.{Joined, Walked}
use Rattle.paths.proofs.Numbered.{EitherEnd, end_of, same_end, EndAt, port_end, port_link, same_node}
use Rattle.paths.proofs.Partials.{far_joins, same_link, lives_tracks, starting_in, walk_is, walked_path, walk_on, walk_on_nodes, walk_on_there}
use Rattle.paths.proofs.Standing.{start_tracks, full_tracks}

-- The ports of some links.
has_both : (used i k : ℕ) → has (both used i) k ≡ ((has used k || eqb (2 * i) k) || eqb (2 * i + 1) k)
has_both used i k = has_with (bit_or used (2 ^ (2 * i))) (2 * i + 1) k ∙ ap (λ x. x || eqb (2 * i + 1) k) (has_with used (2 * i) k)

both_in : (used i k : ℕ) → has (both used i) k ≡ true → (has used k ≡ true) ⊎ EitherEnd i k
both_in used i k h =
    ⊎_elim
    (λ x. ⊎_elim (λ y. inl y) (λ y. inr (inl (eqb-true _ _ y))) (or_cases (has used k) (eqb (2 * i) k) x))
    (λ x. inr (inr (eqb-true _ _ x)))
    (or_cases (has used k || eqb (2 * i) k) (eqb (2 * i + 1) k) (sym (has_both used i k) ∙ h))

in_both : (used i k : ℕ) → EitherEnd i k → has (both used i) k ≡ true
in_both used i k (inl e) = has_both used i k ∙ or_left _ _ (or_right _ _ (eq-eqb _ _ e))
in_both used i k (inr e) = has_both used i k ∙ or_right _ _ (eq-eqb _ _ e)

keep_both : (used i k : ℕ) → has used k ≡ true → has (both used i) k ≡ true
keep_both used i k h = has_both used i k ∙ or_left _ _ (or_left _ _ h)

record OnLinks (is : List ℕ) (k : ℕ) : Type 0 where
  i : ℕ
  there : In i is
  end : EitherEnd i k

ports_in : (is : List ℕ) (used k : ℕ) → has (ports_on used is) k ≡ true → (has used k ≡ true) ⊎ OnLinks is k
unfolding ports_on
ports_in [] used k h = inl h
ports_in (i ∷ is) used k h =
    ⊎_elim
    (λ x. ⊎_elim (λ y. inl y) (λ y. inr (record { i = i; there = inl refl; end = y })) (both_in used i k x))
    (λ o. inr (record { i = o.i; there = inr o.there; end = o.end }))
    (ports_in is (both used i) k h)

keep_ports : (is : List ℕ) (used k : ℕ) → has used k ≡ true → has (ports_on used is) k ≡ true
unfolding ports_on
keep_ports [] used k h = h
keep_ports (i ∷ is) used k h = keep_ports is (both used i) k (keep_both used i k h)

in_ports : (is : List ℕ) (used i k : ℕ) → In i is → EitherEnd i k → has (ports_on used is) k ≡ true
unfolding ports_on
in_ports [] used i k h e = absurd h
in_ports (j ∷ is) used i k (inl q) e = keep_ports is (both used j) k (subst (λ x. has (both used x) k ≡ true) q (in_both used i k e))
in_ports (j ∷ is) used i k (inr h) e = in_ports is (both used j) i k h e

-- The ports of some walks.
record Gathered (last used : ℕ) (ws : List Walk) (k : ℕ) : Type 0 where
  w : Walk
  there : In w ws
  full : has w.live last ≡ true
  at : has (ports_on used w.links) k ≡ true

gather_in : (last used f : ℕ) (ws : List Walk) (k : ℕ) → has (gather last used f ws) k ≡ true → (has f k ≡ true) ⊎ Gathered last used ws k
unfolding gather
gather_in last used f [] k h = inl h
gather_in last used f (w ∷ ws) k h =
    ⊎_elim
    (λ x. go (has w.live last) refl x)
    (λ g. inr (record { w = g.w; there = inr g.there; full = g.full; at = g.at }))
    (gather_in last used (cond (has w.live last) (bit_or f (ports_on used w.links)) f) ws k h)
  where
    go : (b : Bool) → has w.live last ≡ b → has (cond b (bit_or f (ports_on used w.links)) f) k ≡ true → (has f k ≡ true) ⊎ Gathered last used (w ∷ ws) k
    go true e x = ⊎_elim (λ y. inl y) (λ y. inr (record { w = w; there = inl refl; full = e; at = y })) (or_cases (has f k) (has (ports_on used w.links) k) (sym (has_or f (ports_on used w.links) k) ∙ x))
    go false e x = inl x

keep_gather : (last used f : ℕ) (ws : List Walk) (k : ℕ) → has f k ≡ true → has (gather last used f ws) k ≡ true
unfolding gather
keep_gather last used f [] k h = h
keep_gather last used f (w ∷ ws) k h =
    keep_gather last used (cond (has w.live last) (bit_or f (ports_on used w.links)) f) ws k
    (cond_both (has w.live last) (bit_or f (ports_on used w.links)) f (λ x. has x k ≡ true) (λ _. has_or f (ports_on used w.links) k ∙ or_left _ _ h) (λ _. h))

in_gather : (last used f : ℕ) (ws : List Walk) (k : ℕ) (w : Walk) → In w ws → has w.live last ≡ true → has (ports_on used w.links) k ≡ true → has (gather last used f ws) k ≡ true
unfolding gather
in_gather last used f [] k w h full at = absurd h
in_gather last used f (x ∷ ws) k w (inl e) full at =
    let full₂ : has x.live last ≡ true = subst (λ (y : Walk). has y.live last ≡ true) e full in
    keep_gather last used (cond (has x.live last) (bit_or f (ports_on used x.links)) f) ws k
    (subst (λ b. has (cond b (bit_or f (ports_on used x.links)) f) k ≡ true) (sym full₂)
    (has_or f (ports_on used x.links) k ∙ or_right _ _ (subst (λ (y : Walk). has (ports_on used y.links) k ≡ true) e at)))
in_gather last used f (x ∷ ws) k w (inr h) full at = in_gather last used (cond (has x.live last) (bit_or f (ports_on used x.links)) f) ws k w h full at

-- The links of a walk are those between its nodes.
pub joined_takes : (ls : List Link) (rest is : List ℕ) (n i : ℕ) → Joined ls n rest is → In i is → Takes (get_or ls i nowhere) (n ∷ rest)
joined_takes ls [] [] n i j h = absurd h
joined_takes ls [] (x ∷ is) n i j h = absurd j
joined_takes ls (m ∷ rest) [] n i j h = absurd h
joined_takes ls (m ∷ rest) (x ∷ is) n i j (inl e) = inl (subst (λ y. joins (get_or ls y nowhere) n m ≡ true) (sym e) (far_joins (get_or ls x nowhere) n m j.1))
joined_takes ls (m ∷ rest) (x ∷ is) n i j (inr h) = inr (joined_takes ls rest is m i j.2 h)

pub takes_joined : (ls : List Link) → Unrepeated ls → (rest is : List ℕ) (n i : ℕ) → i < length ls → Joined ls n rest is → Takes (get_or ls i nowhere) (n ∷ rest) → In i is
takes_joined ls u [] is n i lt j t = absurd t
takes_joined ls u (m ∷ rest) [] n i lt j t = absurd j
takes_joined ls u (m ∷ rest) (x ∷ is) n i lt j (inl e) = inl (same_link ls i x n m u lt j.0 e (far_joins (get_or ls x nowhere) n m j.1))
takes_joined ls u (m ∷ rest) (x ∷ is) n i lt j (inr t) = inr (takes_joined ls u rest is m i lt j.2 t)

-- The ports of one node.
record Ended (ls : List Link) (i n k : ℕ) : Type 0 where
  j : ℕ
  lt : j < length ls
  at : EndAt ls i n j k

add_in : (f i : ℕ) (l : Link) (n k : ℕ) → has (add_end f i l n) k ≡ true → (has f k ≡ true) ⊎ (((2 * i ≡ k) × (l.a ≡ n)) ⊎ ((2 * i + 1 ≡ k) × (l.a ≡ n → ⊥) × (l.b ≡ n)))
add_in f i l n k h = go (eqb l.a n) refl (eqb l.b n) refl h
  where
    go : (a : Bool) → eqb l.a n ≡ a → (b : Bool) → eqb l.b n ≡ b → has (cond a (bit_or f (2 ^ (2 * i))) (cond b (bit_or f (2 ^ (2 * i + 1))) f)) k ≡ true
        → (has f k ≡ true) ⊎ (((2 * i ≡ k) × (l.a ≡ n)) ⊎ ((2 * i + 1 ≡ k) × (l.a ≡ n → ⊥) × (l.b ≡ n)))
    go true ea b eb x = ⊎_elim (λ y. inl y) (λ y. inr (inl (eqb-true _ _ y, eqb-true _ _ ea))) (or_cases (has f k) (eqb (2 * i) k) (sym (has_with f (2 * i) k) ∙ x))
    go false ea true eb x = ⊎_elim (λ y. inl y) (λ y. inr (inr (eqb-true _ _ y, eqb-false _ _ ea, eqb-true _ _ eb))) (or_cases (has f k) (eqb (2 * i + 1) k) (sym (has_with f (2 * i + 1) k) ∙ x))
    go false ea false eb x = inl x

keep_add : (f i : ℕ) (l : Link) (n k : ℕ) → has f k ≡ true → has (add_end f i l n) k ≡ true
keep_add f i l n k h =
    cond_both (eqb l.a n) (bit_or f (2 ^ (2 * i))) (cond (eqb l.b n) (bit_or f (2 ^ (2 * i + 1))) f) (λ x. has x k ≡ true)
    (λ _. has_with f (2 * i) k ∙ or_left _ _ h)
    (λ _. cond_both (eqb l.b n) (bit_or f (2 ^ (2 * i + 1))) f (λ x. has x k ≡ true) (λ _. has_with f (2 * i + 1) k ∙ or_left _ _ h) (λ _. h))

in_add : (f i : ℕ) (l : Link) (n k : ℕ) → ((2 * i ≡ k) × (l.a ≡ n)) ⊎ ((2 * i + 1 ≡ k) × (l.a ≡ n → ⊥) × (l.b ≡ n)) → has (add_end f i l n) k ≡ true
in_add f i l n k (inl x) =
    subst (λ b. has (cond b (bit_or f (2 ^ (2 * i))) (cond (eqb l.b n) (bit_or f (2 ^ (2 * i + 1))) f)) k ≡ true) (sym (eq-eqb _ _ x.1)) (has_with f (2 * i) k ∙ or_right _ _ (eq-eqb _ _ x.0))
in_add f i l n k (inr x) =
    subst (λ a. has (cond a (bit_or f (2 ^ (2 * i))) (cond (eqb l.b n) (bit_or f (2 ^ (2 * i + 1))) f)) k ≡ true) (sym (ne_eqb _ _ x.1))
    (subst (λ b. has (cond b (bit_or f (2 ^ (2 * i + 1))) f) k ≡ true) (sym (eq-eqb _ _ x.2)) (has_with f (2 * i + 1) k ∙ or_right _ _ (eq-eqb _ _ x.0)))

ended_later : (l : Link) (ls : List Link) (i n k : ℕ) → Ended ls (i + 1) n k → Ended (l ∷ ls) i n k
ended_later l ls i n k e =
    record { j = suc e.j; lt = omega (arith, e.lt); at = ⊎_elim (λ x. inl (omega (arith, x.0), x.1)) (λ x. inr (omega (arith, x.0), x.1, x.2)) e.at }

ends_in : (ls : List Link) (f i n k : ℕ) → has (end_ports f i ls n) k ≡ true → (has f k ≡ true) ⊎ Ended ls i n k
unfolding end_ports
ends_in [] f i n k h = inl h
ends_in (l ∷ ls) f i n k h =
    ⊎_elim
    (λ x. ⊎_elim (λ y. inl y)
    (λ y. inr (record { j = 0; lt = omega arith; at = ⊎_elim (λ z. inl (omega (arith, z.0), z.1)) (λ z. inr (omega (arith, z.0), z.1, z.2)) y }))
    (add_in f i l n k x))
    (λ e. inr (ended_later l ls i n k e))
    (ends_in ls (add_end f i l n) (i + 1) n k h)

keep_ends : (ls : List Link) (f i n k : ℕ) → has f k ≡ true → has (end_ports f i ls n) k ≡ true
unfolding end_ports
keep_ends [] f i n k h = h
keep_ends (l ∷ ls) f i n k h = keep_ends ls (add_end f i l n) (i + 1) n k (keep_add f i l n k h)

in_ends : (ls : List Link) (f i n j k : ℕ) → j < length ls → EndAt ls i n j k → has (end_ports f i ls n) k ≡ true
unfolding end_ports
in_ends [] f i n j k lt e = absurd (omega arith)
in_ends (l ∷ ls) f i n zero k lt e =
    keep_ends ls (add_end f i l n) (i + 1) n k (in_add f i l n k (⊎_elim (λ z. inl (omega (arith, z.0), z.1)) (λ z. inr (omega (arith, z.0), z.1, z.2)) e))
in_ends (l ∷ ls) f i n (suc j) k lt e =
    in_ends ls (add_end f i l n) (i + 1) n j k (omega arith) (⊎_elim (λ z. inl (omega (arith, z.0), z.1)) (λ z. inr (omega (arith, z.0), z.1, z.2)) e)

-- A pattern that stands for one node is that node.
no_blocks : (is : List Item) → starred is ≡ false → Blocks is [] → is ≡ []
no_blocks [] s b = refl
no_blocks (Node m ∷ is) s b = absurd (omega (arith, ap length b.whole, length-append b.front b.back, ap length b.first))
no_blocks (Star ∷ is) s b = absurd (false≢true (sym s))

pub one_node : (items : List Item) (n : ℕ) → Stands items (n ∷ []) → items ≡ Node n ∷ []
one_node [] n s = absurd (omega (arith, ap length s.blocks))
one_node (Star ∷ is) n s = absurd (omega (arith, s.two refl))
one_node (Node m ∷ is) n s =
    let b = s.blocks in
    let whole : n ∷ [] ≡ m ∷ b.back = b.whole ∙ ap (λ x. x ++ b.back) b.first in
    let plain : starred is ≡ false = ⊎_elim (λ t. absurd (omega (arith, s.two t))) (λ f. f) (cases_Bool (starred is)) in
    let none : is ≡ [] = no_blocks is plain (subst (Blocks is) (sym (ap (drop 1) whole)) b.rest) in
    ap (λ x. Node x ∷ is) (sym (ap (λ (x : List ℕ). get_or x 0 0) whole)) ∙ ap (λ x. Node n ∷ x) none

-- Some link of a node.
record HasLink (ls : List Link) (n : ℕ) : Type 0 where
  i : ℕ
  lt : i < length ls
  end : ends (get_or ls i nowhere) n ≡ true

has_link : (ls : List Link) (n : ℕ) → linked ls n ≡ true → HasLink ls n
has_link [] n h = absurd (false≢true h)
has_link (l ∷ ls) n h =
    ⊎_elim (λ x. record { i = 0; lt = omega arith; end = x }) (λ x. let r = has_link ls n x in record { i = suc r.i; lt = omega (arith, r.lt); end = r.end })
    (or_cases (ends l n) (linked ls n) h)

module _ (c : ℕ) (ls : List Link) (small : c ≤ 48) (two : TwoEnded c ls) (unrep : Unrepeated ls) (items : List Item) where
  pub walked : (w : Walk) → In w (all_walks ls c items) → (n : ℕ) × (n < c) × Walked ls items unmarked n (start items) w
  walked w h =
      let s = starting_in items (roads_over ls) c 0 w h in
      (s.m, omega (arith, s.high), walk_is c ls small two items 0 c w (omega arith) s)

  -- the last position is live after a walk exactly where the pattern's items stand for its nodes
  pub full_is : (w : Walk) → In w (all_walks ls c items) → Decides (has w.live (length items)) (Blocks items w.nodes)
  full_is w h =
      let g = walked w h in
      let t = lives_tracks items (g.0 ∷ g.2.rest) [] (start items) w.live (start_tracks items) g.2.lives in
      subst (λ ns. Decides (has w.live (length items)) (Blocks items ns)) (sym g.2.nodes) (full_tracks items w.live (g.0 ∷ g.2.rest) t)

  -- a port that was gathered is on a path of two nodes or more
  gathered_own : (k : ℕ) → Gathered (length items) 0 (all_walks ls c items) k
      → (n m : ℕ) × (ns : List ℕ) × (i : ℕ) × Own ls c items (n ∷ m ∷ ns) × Takes (get_or ls i nowhere) (n ∷ m ∷ ns) × EitherEnd i k
  gathered_own k g =
      let x = walked g.w g.there in
      let o = ⊎_elim (λ z. absurd (false≢true (sym (has_none k) ∙ z))) (λ z. z) (ports_in g.w.links 0 k g.at) in
      go x.2.rest x.0 o.i x.2.nodes (joined_takes ls x.2.rest g.w.links x.0 o.i x.2.joined o.there) o.end (walked_path c ls small two items x.0 g.w x.1 x.2) ((full_is g.w g.there).0 g.full)
    where
      go : (rest : List ℕ) (n i : ℕ) → g.w.nodes ≡ n ∷ rest → Takes (get_or ls i nowhere) (n ∷ rest) → EitherEnd i k → Path ls c g.w.nodes → Blocks items g.w.nodes
          → (n m : ℕ) × (ns : List ℕ) × (i : ℕ) × Own ls c items (n ∷ m ∷ ns) × Takes (get_or ls i nowhere) (n ∷ m ∷ ns) × EitherEnd i k
      go [] n i e t end p b = absurd t
      go (m ∷ ns) n i e t end p b =
          (n, m, ns, i, record { path = subst (Path ls c) e p; stands = record { blocks = subst (Blocks items) e b; two = λ _. omega arith } }, t, end)

  -- what the search finds of a path of one node
  alone_in : (k : ℕ) → has (alone_ports ls c items) k ≡ true → (m : ℕ) × (m < c) × (items ≡ Node m ∷ []) × Ended ls 0 m k
  alone_in k h = go items h
    where
      go : (is : List Item) → has (alone_ports ls c is) k ≡ true → (m : ℕ) × (m < c) × (is ≡ Node m ∷ []) × Ended ls 0 m k
      go [] h = absurd (false≢true (sym (has_none k) ∙ h))
      go (Star ∷ is) h = absurd (false≢true (sym (has_none k) ∙ h))
      go (Node m ∷ i ∷ is) h = absurd (false≢true (sym (has_none k) ∙ h))
      go (Node m ∷ []) h = at (ltb m c) refl h
        where
          at : (b : Bool) → ltb m c ≡ b → has (cond b (end_ports 0 0 ls m) 0) k ≡ true → (x : ℕ) × (x < c) × (Node m ∷ [] ≡ Node x ∷ []) × Ended ls 0 x k
          at true e h = (m, ltb-true _ _ e, refl, ⊎_elim (λ z. absurd (false≢true (sym (has_none k) ∙ z))) (λ z. z) (ends_in ls 0 0 m k h))
          at false e h = absurd (false≢true (sym (has_none k) ∙ h))

  pub one_own : (m : ℕ) → m < c → items ≡ Node m ∷ [] → Own ls c items (m ∷ [])
  one_own m lt e =
      record {
        path = record { some = omega arith; declared = (lt, tt); once = (λ x. x, tt); chain = tt };
        stands = subst (λ is. Stands is (m ∷ [])) (sym e) (record { blocks = record { front = m ∷ []; back = []; whole = refl; first = refl; rest = refl }; two = λ t. absurd (false≢true t) });
      }

  found_parts : (k : ℕ) → has (touched_bits ls c items) k ≡ true → Gathered (length items) 0 (all_walks ls c items) k ⊎ (has (alone_ports ls c items) k ≡ true)
  found_parts k h =
      ⊎_elim
      (λ g. ⊎_elim (λ z. absurd (false≢true (sym (has_none k) ∙ z))) (λ z. inl z) (gather_in (length items) 0 0 (all_walks ls c items) k g))
      (λ a. inr a)
      (or_cases _ _ (sym (has_or (gather (length items) 0 0 (all_walks ls c items)) (alone_ports ls c items) k) ∙ h))

  -- a port that was found is touched
  found_reached : (q : Port) → is_port ls q ≡ true → has (touched_bits ls c items) (number_of ls q) ≡ true → Reached ls c items q
  found_reached q port h =
      ⊎_elim
      (λ g. let x = gathered_own (number_of ls q) g in
      let e = same_end x.3 q.link (number_of ls q) x.6 (end_of ls q) in
      record { path = x.0 ∷ x.1 ∷ x.2; own = x.4; touches = record { port = port; passes = subst (λ i. Takes (get_or ls i nowhere) (x.0 ∷ x.1 ∷ x.2)) e x.5 } })
      (λ a. let x = alone_in (number_of ls q) a in
      record { path = x.0 ∷ []; own = one_own x.0 x.1 x.2; touches = record { port = port; passes = same_node ls q.link x.3.j q.node x.0 (number_of ls q) (port_end ls q port) x.3.at } })
      (found_parts (number_of ls q) h)

  -- a port that is touched is found
  reached_found : (p : List ℕ) (q : Port) → Own ls c items p → Touches ls p q → has (touched_bits ls c items) (number_of ls q) ≡ true
  reached_found [] q own t = absurd t.passes
  reached_found (n ∷ []) q own t =
      let e = one_node items n own.stands in
      let at : has (end_ports 0 0 ls n) (number_of ls q) ≡ true = in_ends ls 0 0 n q.link (number_of ls q) (port_link ls q t.port) (subst (λ x. EndAt ls 0 x q.link (number_of ls q)) t.passes (port_end ls q t.port)) in
      let al : has (alone_ports ls c items) (number_of ls q) ≡ true =
      subst (λ is. has (alone_ports ls c is) (number_of ls q) ≡ true) (sym e)
      (subst (λ b. has (cond b (end_ports 0 0 ls n) 0) (number_of ls q) ≡ true) (sym (lt-ltb n c own.path.declared.0)) at) in
      has_or (gather (length items) 0 0 (all_walks ls c items)) (alone_ports ls c items) (number_of ls q) ∙ or_right _ _ al
  reached_found (n ∷ m ∷ ns) q own t =
      let w = walk_on c ls small two items n (m ∷ ns) own.path.chain in
      let there : In w (all_walks ls c items) = walk_on_there c ls small two items n (m ∷ ns) [] own.path (subst (Blocks items) (sym (append_none (n ∷ m ∷ ns))) own.stands.blocks) in
      let nodes : w.nodes ≡ n ∷ m ∷ ns = walk_on_nodes c ls small two items n (m ∷ ns) own.path.chain in
      let g = walked w there in
      let full : has w.live (length items) ≡ true = (full_is w there).1 (subst (Blocks items) (sym nodes) own.stands.blocks) in
      let takes : Takes (get_or ls q.link nowhere) (g.0 ∷ g.2.rest) = subst (Takes (get_or ls q.link nowhere)) (sym nodes ∙ g.2.nodes) t.passes in
      let on : In q.link w.links = takes_joined ls unrep g.2.rest w.links g.0 q.link (port_link ls q t.port) g.2.joined takes in
      has_or (gather (length items) 0 0 (all_walks ls c items)) (alone_ports ls c items) (number_of ls q)
      ∙ or_left _ _ (in_gather (length items) 0 0 (all_walks ls c items) (number_of ls q) w there full (in_ports w.links 0 q.link (number_of ls q) on (end_of ls q)))
    where
      append_none : (xs : List ℕ) → xs ++ [] ≡ xs
      append_none [] = refl
      append_none (x ∷ xs) = ap (λ y. x ∷ y) (append_none xs)

  pub each_touched : (s : PortSet) → s.bits ≡ touched_bits ls c items → (q : Port) → Decides (holds ls s q) (Reached ls c items q)
  each_touched s e q = (
    λ h. let x = and_parts (is_port ls q) (has s.bits (number_of ls q)) h in found_reached q x.0 (subst (λ b. has b (number_of ls q) ≡ true) e x.1),
    λ r. and_from (is_port ls q) (has s.bits (number_of ls q)) r.touches.port (subst (λ b. has b (number_of ls q) ≡ true) (sym e) (reached_found r.path q r.own r.touches)),
  )

  -- every path touches a port
  pub some_touch : AllLinked c ls → (p : List ℕ) → Own ls c items p → touched_bits ls c items ≡ 0 → ⊥
  some_touch every [] own z = omega (arith, own.path.some)
  some_touch every (n ∷ []) own z =
      let l = has_link ls n (every n own.path.declared.0) in
      let q : Port = record { link = l.i; node = n } in
      false≢true (sym (ap (λ x. has x (number_of ls q)) z ∙ has_none (number_of ls q)) ∙ reached_found (n ∷ []) q own (record { port = and_from _ _ (lt-ltb l.i (length ls) l.lt) l.end; passes = refl }))
  some_touch every (n ∷ m ∷ ns) own z =
      let l = own.path.chain.0 in
      let q : Port = record { link = l.link; node = (get_or ls l.link nowhere).a } in
      false≢true (sym (ap (λ x. has x (number_of ls q)) z ∙ has_none (number_of ls q))
      ∙ reached_found (n ∷ m ∷ ns) q own (record { port = and_from _ _ (lt-ltb l.link (length ls) l.there) (or_left _ (eqb (get_or ls l.link nowhere).b (get_or ls l.link nowhere).a) (eq-eqb (get_or ls l.link nowhere).a (get_or ls l.link nowhere).a refl)); passes = inl l.joined }))

  pub some_own : (touched_bits ls c items ≡ 0 → ⊥) → (p : List ℕ) × Own ls c items p
  some_own ne =
      let s = some_in (touched_bits ls c items) ne in
      ⊎_elim
      (λ g. let x = gathered_own s.j g in (x.0 ∷ x.1 ∷ x.2, x.4))
      (λ a. let x = alone_in s.j a in (x.0 ∷ [], one_own x.0 x.1 x.2))
      (found_parts s.j s.there)

  pub judged : AllLinked c ls → Judged ls c items (searched ls c items)
  unfolding searched
  judged every =
      cond_both (ltb 65536 (length (all_walks ls c items))) (Err TooMany) (answered (touched_bits ls c items)) (Judged ls c items)
      (λ t. omega (arith, ltb-true _ _ t, length-map (all_walks ls c items) (λ (w : Walk). w.nodes)))
      (λ f.
      let few : length (partial_paths ls c items) ≤ 65536 = omega (arith, ltb-false _ _ f, length-map (all_walks ls c items) (λ (w : Walk). w.nodes)) in
      cond_both (eqb (touched_bits ls c items) 0) (Err NoPath) (Ok (record { bits = touched_bits ls c items })) (Judged ls c items)
      (λ t. (few, λ p own. some_touch every p own (eqb-true _ _ t)))
      (λ g. record { few = few; some = some_own (eqb-false _ _ g); each = each_touched (record { bits = touched_bits ls c items }) refl }))
