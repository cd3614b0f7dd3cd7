-- A path that is drawn is a path of the pattern that touches the port.
use Rattle.std.proofs.Common.{◌≡◌, ℕ, zero, suc, ◌+◌, ◌-◌, ◌<◌, ◌≤◌, Bool, true, false, eqb, ltb, ◌⊎◌, List, [], ◌∷◌, ◌++◌, length, get_or, take, drop, set, Some, None, MatchBool, Option, sym, refl, ap, ◌∙◌, subst, inl, inr, ⊎_elim, arith}
use Rattle.std.proofs.lemmas.List.{append_assoc, append-nil, take-append-drop, drop-append-le, take_all, take_more, set_at, length-take-le, set_split}
use Rattle.std.proofs.lemmas.Bool.{false≢true, eq-eqb, eqb-true, ltb-true, lt-ltb, and_parts, and_from, or_cases, or_left, or_right}
use Rattle.std.specs.Option.{option_or}
use Rattle.site.specs.declared.parts.Link.{Link}
use Rattle.site.specs.Links.{nowhere}
use Rattle.site.specs.Promises.{TwoEnded, Unrepeated}
use Rattle.paths.specs.declared.pattern.Item.{Item}
use Rattle.paths.specs.declared.pattern.Item.TheVariants.{Node, Star}
use Rattle.paths.specs.declared.ports.Port.{Port}
use Rattle.paths.specs.declared.roads.Step.{Step}
use Rattle.paths.specs.Found.{starting, all_walks}
use Rattle.paths.specs.Live.{start, after}
use Rattle.paths.specs.Paths.{In, Path, Own, Takes, Touches}
use Rattle.paths.specs.Patterns.{Blocks}
use Rattle.paths.specs.Digits.{has}
use Rattle.paths.specs.PortSets.{is_port}
use Rattle.paths.specs.Roads.{roads_over}
use Rattle.paths.specs.Routes.{among, hit, first_hit, written, Drawn, stands_alone, Untouched, Routed}
use Rattle.paths.specs.Walks.{Walk, begin, unmarked, free, along, from, walks}
use Rattle.paths.proofs.Hits.{hits_append, hit_in, no_hit, drawn_none, drawn_some}
use Rattle.paths.proofs.Listing.{in_append, along_in, opened_in}
use Rattle.paths.proofs.Numbered.{port_link}
use Rattle.paths.proofs.Partials.{starting_in, walked_path, walk_on, walk_on_nodes, walk_on_there}
use Rattle.paths.proofs.Sweeping.{starting_more, starting_all}
use Rattle.paths.proofs.Touching.{joined_takes, takes_joined, one_node, walked, full_is, one_own}

-- One start node: a path was found from it, or none; and past the last.
module _ (last : ℕ) (items : List Item) (roads : List (List Step)) (n k live : ℕ) (unmet : Option ℕ) (v : List Bool)
    (lt : n < k) (clean : v ≡ unmarked) (at : live ≡ start items)
    (g : first_hit last unmet (starting items roads n (k - n)) ≡ first_hit last unmet (starting items roads 0 k)) where
  on : option_or (first_hit last unmet (walks items roads v n live)) (first_hit last unmet (starting items roads (n + 1) (k - (n + 1)))) ≡ first_hit last unmet (starting items roads 0 k)
  on =
      ap (λ v. option_or (first_hit last unmet (walks items roads v n live)) (first_hit last unmet (starting items roads (n + 1) (k - (n + 1))))) clean
      ∙ ap (λ x. option_or (first_hit last unmet (walks items roads unmarked n x)) (first_hit last unmet (starting items roads (n + 1) (k - (n + 1))))) at
      ∙ sym (hits_append last unmet (walks items roads unmarked n (start items)) (starting items roads (n + 1) (k - (n + 1))))
      ∙ sym (ap (first_hit last unmet) (starting_more items roads n k lt)) ∙ g

  pub start_found : (len : ℕ) (out out₀ kept : List ℕ) (r : Option ℕ) → out ≡ out₀ → r ≡ Some len → Drawn 0 0 (first_hit last unmet (walks items roads v n live)) out r kept
      → Drawn 0 0 (first_hit last unmet (starting items roads 0 k)) out₀ (Some len) kept
  start_found len out out₀ kept r eo er drawn =
      let x = drawn_some 0 0 (first_hit last unmet (walks items roads v n live)) out kept r len er drawn in
      let e : Some x.w ≡ first_hit last unmet (starting items roads 0 k) = sym (ap (λ o. option_or o (first_hit last unmet (starting items roads (n + 1) (k - (n + 1))))) x.is) ∙ on in
      subst (λ o. Drawn 0 0 o out₀ (Some len) kept) e (ap Some x.size, x.text ∙ ap (written 0 x.w.nodes) eo)

  pub start_none : (out kept : List ℕ) (r : Option ℕ) → r ≡ None → Drawn 0 0 (first_hit last unmet (walks items roads v n live)) out r kept
      → (kept ≡ out) × (first_hit last unmet (starting items roads (n + 1) (k - (n + 1))) ≡ first_hit last unmet (starting items roads 0 k))
  start_none out kept r er drawn =
      let x = drawn_none 0 0 (first_hit last unmet (walks items roads v n live)) out kept r er drawn in
      (x.1, sym (ap (λ o. option_or o (first_hit last unmet (starting items roads (n + 1) (k - (n + 1))))) x.0) ∙ on)

pub starts_over : (last : ℕ) (items : List Item) (roads : List (List Step)) (n k : ℕ) (unmet : Option ℕ) (out kept : List ℕ) → k ≤ n → kept ≡ out
    → first_hit last unmet (starting items roads n (k - n)) ≡ first_hit last unmet (starting items roads 0 k)
    → Drawn 0 0 (first_hit last unmet (starting items roads 0 k)) out None kept
unfolding first_hit
starts_over last items roads n k unmet out kept past eo g =
    subst (λ o. Drawn 0 0 o out None kept) (sym (ap (first_hit last unmet) (starting_all items roads n k past)) ∙ g) (refl, eo)

pub unmarked_free : free unmarked ≡ 48
unfolding free unmarked
unmarked_free = refl

-- What is written.
written_is : (ns out : List ℕ) (d : ℕ) → d + length ns ≤ length out → written d ns out ≡ take d out ++ (ns ++ drop (d + length ns) out)
unfolding written
written_is [] out d h =
    let e : d ≡ d + 0 = omega arith in
    sym (take-append-drop d out) ∙ ap (λ x. take d out ++ drop x out) e
written_is (n ∷ ns) out d h =
    let size : d + 1 + length ns ≡ d + suc (length ns) = omega arith in
    let front : take (d + 1) out ++ (ns ++ drop (d + 1 + length ns) out) ≡ take d out ++ (get_or out d 0 ∷ (ns ++ drop (d + 1 + length ns) out)) =
    ap (λ x. x ++ (ns ++ drop (d + 1 + length ns) out)) (take_more out d 0 (omega arith)) ∙ append_assoc (take d out) (get_or out d 0 ∷ []) (ns ++ drop (d + 1 + length ns) out) in
    ap (λ x. set x d n) (written_is ns out (d + 1) (omega arith) ∙ front)
    ∙ set_at (take d out) (get_or out d 0) (ns ++ drop (d + 1 + length ns) out) n d (length-take-le d out (omega arith))
    ∙ ap (λ x. take d out ++ (n ∷ (ns ++ drop x out))) size

-- A walk has at most as many nodes as were free.
walk_length : (k : ℕ) (items : List Item) (roads : List (List Step)) (v : List Bool) (n live : ℕ) (w : Walk) → In w (from k items roads v n live) → length w.nodes ≤ k
unfolding from
walk_length zero items roads v n live w h = absurd h
walk_length (suc k) items roads v n live w h =
    let o = opened_in (eqb (after items live n) 0) (begin n (after items live n)) w (along (λ m. from k items roads (set v n true) m (after items live n)) (set v n true) n (get_or roads n [])) h in
    ⊎_elim
    (λ e. omega (arith, ap (λ (x : Walk). length x.nodes) e))
    (λ a.
    let g = along_in (λ m. from k items roads (set v n true) m (after items live n)) (set v n true) n (get_or roads n []) w a in
    let short = walk_length k items roads (set v n true) (get_or (get_or roads n []) g.j (record { link = 0; node = 0 })).node (after items live n) g.hop.grown.q g.hop.grown.there in
    omega (arith, short, ap (λ (x : Walk). length x.nodes) g.hop.grown.is))
    o.1

-- Links among some.
among_in : (i : ℕ) (is : List ℕ) → among i is ≡ true → In i is
among_in i [] h = absurd (false≢true h)
among_in i (j ∷ js) h = ⊎_elim (λ e. inl (sym (eqb-true j i e))) (λ r. inr (among_in i js r)) (or_cases (eqb j i) (among i js) h)

in_among : (i : ℕ) (is : List ℕ) → In i is → among i is ≡ true
in_among i [] h = absurd h
in_among i (j ∷ js) (inl e) = or_left (eqb j i) (among i js) (eq-eqb j i (sym e))
in_among i (j ∷ js) (inr h) = or_right (eqb j i) (among i js) (in_among i js h)

-- What one pattern gives.
pub record Route (ls : List Link) (c : ℕ) (items : List Item) (q : Port) (out : List ℕ) (len : ℕ) (kept : List ℕ) : Type 0 where
  pub path : List ℕ
  pub own : Own ls c items path
  pub touches : Touches ls path q
  pub size : len ≡ length path
  pub short : length path ≤ 48
  pub front : kept ≡ path ++ drop (length path) out

alone_is : (items : List Item) (c n : ℕ) → stands_alone items c n ≡ true → (items ≡ Node n ∷ []) × (n < c)
alone_is [] c n h = absurd (false≢true h)
alone_is (Star ∷ is) c n h = absurd (false≢true h)
alone_is (Node m ∷ i ∷ is) c n h = absurd (false≢true h)
alone_is (Node m ∷ []) c n h = let x = and_parts (eqb m n) (ltb n c) h in (ap (λ y. Node y ∷ []) (eqb-true m n x.0), ltb-true n c x.1)

is_alone : (items : List Item) (c n : ℕ) → items ≡ Node n ∷ [] → n < c → stands_alone items c n ≡ true
is_alone items c n e lt = subst (λ is. stands_alone is c n ≡ true) (sym e) (and_from (eqb n n) (ltb n c) (eq-eqb n n refl) (lt-ltb n c lt))

-- by the test, at each of its answers
split : (b : Bool) (P Q : Type 0) → MatchBool b P Q → ((b ≡ true) × P) ⊎ ((b ≡ false) × Q)
split true P Q h = inl (refl, h)
split false P Q h = inr (refl, h)

module _ (c : ℕ) (ls : List Link) (small : c ≤ 48) (two : TwoEnded c ls) (unrep : Unrepeated ls) (items : List Item) (q : Port) (port : is_port ls q ≡ true)
    (out kept : List ℕ) (room : 48 ≤ length out) (r : Option ℕ)
    (told : MatchBool (stands_alone items c q.node) ((r ≡ Some 1) × (kept ≡ set out 0 q.node)) (Drawn 0 0 (first_hit (length items) (Some q.link) (all_walks ls c items)) out r kept)) where
  hit_route : (w : Walk) → In w (all_walks ls c items) → hit (length items) (Some q.link) w ≡ true → (len : ℕ) → len ≡ 0 + length w.nodes → kept ≡ written 0 w.nodes out → Route ls c items q out len kept
  hit_route w there h len size text =
      let x = walked c ls small two unrep items w there in
      let parts = and_parts (has w.live (length items)) (among q.link w.links) h in
      let takes = joined_takes ls x.2.rest w.links x.0 q.link x.2.joined (among_in q.link w.links parts.1) in
      let s = starting_in items (roads_over ls) c 0 w there in
      let short : length w.nodes ≤ 48 = omega (arith, walk_length (free unmarked) items (roads_over ls) unmarked s.m (start items) w s.there, unmarked_free) in
      go x.2.rest x.0 x.2.nodes takes (walked_path c ls small two items x.0 w x.1 x.2) ((full_is c ls small two unrep items w there).0 parts.0) short
    where
      go : (rest : List ℕ) (n : ℕ) → w.nodes ≡ n ∷ rest → Takes (get_or ls q.link nowhere) (n ∷ rest) → Path ls c w.nodes → Blocks items w.nodes → length w.nodes ≤ 48 → Route ls c items q out len kept
      go [] n e t p b short = absurd t
      go (m ∷ ns) n e t p b short =
          record {
            path = n ∷ m ∷ ns;
            own = record { path = subst (Path ls c) e p; stands = record { blocks = subst (Blocks items) e b; two = λ _. omega arith } };
            touches = record { port = port; passes = t };
            size = omega (arith, size, ap length e);
            short = omega (arith, short, ap length e);
            front = text ∙ ap (λ ns. written 0 ns out) e ∙ written_is (n ∷ m ∷ ns) out 0 (omega (arith, short, ap length e, room)) ∙ ap (λ x. (n ∷ m ∷ ns) ++ drop x out) (zero_plus (length (n ∷ m ∷ ns)));
          }
        where
          zero_plus : (x : ℕ) → 0 + x ≡ x
          zero_plus x = omega arith

  pub route_found : (len : ℕ) → r ≡ Some len → Route ls c items q out len kept
  route_found len er =
      ⊎_elim
      (λ a.
      let x = alone_is items c q.node a.0 in
      record {
        path = q.node ∷ [];
        own = one_own c ls small two unrep items q.node x.1 x.0;
        touches = record { port = port; passes = refl };
        size = same (sym er ∙ a.1.0);
        short = omega arith;
        front = a.1.1 ∙ set_split out 0 q.node (omega arith);
      })
      (λ b.
      let x = drawn_some 0 0 (first_hit (length items) (Some q.link) (all_walks ls c items)) out kept r len er b.1 in
      let y = hit_in (length items) (Some q.link) (all_walks ls c items) x.w x.is in
      hit_route x.w y.0 y.1 len x.size x.text)
      (split (stands_alone items c q.node) ((r ≡ Some 1) × (kept ≡ set out 0 q.node)) (Drawn 0 0 (first_hit (length items) (Some q.link) (all_walks ls c items)) out r kept) told)
    where
      same : {x y : ℕ} → Some x ≡ Some y → x ≡ y
      same e = cc

  untouched : stands_alone items c q.node ≡ false → first_hit (length items) (Some q.link) (all_walks ls c items) ≡ None → (p : List ℕ) → Own ls c items p → Touches ls p q → ⊥
  untouched f none [] own t = t.passes
  untouched f none (n ∷ []) own t =
      let e = one_node items n own.stands in
      false≢true (sym f ∙ subst (λ m. stands_alone items c m ≡ true) (sym t.passes) (is_alone items c n e own.path.declared.0))
  untouched f none (n ∷ m ∷ ns) own t =
      let w = walk_on c ls small two items n (m ∷ ns) own.path.chain in
      let there : In w (all_walks ls c items) = walk_on_there c ls small two items n (m ∷ ns) [] own.path (subst (Blocks items) (sym (append-nil (n ∷ m ∷ ns))) own.stands.blocks) in
      let nodes : w.nodes ≡ n ∷ m ∷ ns = walk_on_nodes c ls small two items n (m ∷ ns) own.path.chain in
      let g = walked c ls small two unrep items w there in
      let full : has w.live (length items) ≡ true = (full_is c ls small two unrep items w there).1 (subst (Blocks items) (sym nodes) own.stands.blocks) in
      let takes : Takes (get_or ls q.link nowhere) (g.0 ∷ g.2.rest) = subst (Takes (get_or ls q.link nowhere)) (sym nodes ∙ g.2.nodes) t.passes in
      let on : In q.link w.links = takes_joined ls unrep g.2.rest w.links g.0 q.link (port_link ls q t.port) g.2.joined takes in
      no_hit (length items) (Some q.link) (all_walks ls c items) none w there (and_from (has w.live (length items)) (among q.link w.links) full (in_among q.link w.links on))

  pub route_none : r ≡ None → (kept ≡ out) × ((p : List ℕ) → Own ls c items p → Touches ls p q → ⊥)
  route_none er =
      ⊎_elim
      (λ a. absurd (let z : ◌≡◌ {A = ℕ} 0 1 = clash (sym er ∙ a.1.0) in omega arith))
      (λ b.
      let x = drawn_none 0 0 (first_hit (length items) (Some q.link) (all_walks ls c items)) out kept r er b.1 in
      (x.1, untouched b.0 x.0))
      (split (stands_alone items c q.node) ((r ≡ Some 1) × (kept ≡ set out 0 q.node)) (Drawn 0 0 (first_hit (length items) (Some q.link) (all_walks ls c items)) out r kept) told)
    where
      clash : {x : ℕ} → None ≡ Some x → ◌≡◌ {A = ℕ} 0 1
      clash e = cc

-- Pattern by pattern.
pub told_same : (ls : List Link) (c n : ℕ) (items is : List Item) (roads : List (List Step)) (q : Port) (out kept : List ℕ) (r : Option ℕ) → roads ≡ roads_over ls → n ≡ c → is ≡ items
    → MatchBool (stands_alone is n q.node) ((r ≡ Some 1) × (kept ≡ set out 0 q.node)) (Drawn 0 0 (first_hit (length is) (Some q.link) (starting is roads 0 n)) out r kept)
    → MatchBool (stands_alone items c q.node) ((r ≡ Some 1) × (kept ≡ set out 0 q.node)) (Drawn 0 0 (first_hit (length items) (Some q.link) (all_walks ls c items)) out r kept)
told_same ls c n items is roads q out kept r er en ei h =
    let A : Type 0 = (r ≡ Some 1) × (kept ≡ set out 0 q.node) in
    let h₁ : MatchBool (stands_alone items n q.node) A (Drawn 0 0 (first_hit (length items) (Some q.link) (starting items roads 0 n)) out r kept) =
    subst (λ x. MatchBool (stands_alone x n q.node) A (Drawn 0 0 (first_hit (length x) (Some q.link) (starting x roads 0 n)) out r kept)) ei h in
    let h₂ : MatchBool (stands_alone items c q.node) A (Drawn 0 0 (first_hit (length items) (Some q.link) (starting items roads 0 c)) out r kept) =
    subst (λ x. MatchBool (stands_alone items x q.node) A (Drawn 0 0 (first_hit (length items) (Some q.link) (starting items roads 0 x)) out r kept)) en h₁ in
    subst (λ x. MatchBool (stands_alone items c q.node) A (Drawn 0 0 (first_hit (length items) (Some q.link) (starting items x 0 c)) out r kept)) er h₂

get_or_in : {A : Type 0} (ps : List A) (i : ℕ) (d : A) → i < length ps → In (get_or ps i d) ps
get_or_in [] i d h = absurd (omega arith)
get_or_in (p ∷ ps) zero d h = inl refl
get_or_in (p ∷ ps) (suc i) d h = inr (get_or_in ps i d (omega arith))

pub routed : (ls : List Link) (c : ℕ) (ps : List (List Item)) (i : ℕ) (d : List Item) (q : Port) (out front kept : List ℕ) (len : ℕ) → i < length ps → d ≡ get_or ps i d → 48 ≤ length out → front ≡ take 48 out
    → Route ls c d q front len kept → Routed ls c ps q out len (kept ++ drop 48 out)
routed ls c ps i d q out front kept len lt is room same g =
    let n = length g.path in
    let short : n ≤ length (take 48 out) = omega (arith, g.short, length-take-le 48 out room) in
    record {
      room = room;
      path = g.path;
      pattern = d;
      there = subst (λ p. In p ps) (sym is) (get_or_in ps i d lt);
      own = g.own;
      touches = g.touches;
      size = g.size;
      short = g.short;
      front = ap (λ (x : List ℕ). x ++ drop 48 out) (g.front ∙ ap (λ (x : List ℕ). g.path ++ drop n x) same)
          ∙ append_assoc g.path (drop n (take 48 out)) (drop 48 out)
          ∙ ap (λ (x : List ℕ). g.path ++ x) (sym (drop-append-le n (take 48 out) (drop 48 out) short) ∙ ap (drop n) (take-append-drop 48 out));
    }

pub front_long : (out front : List ℕ) → 48 ≤ length out → front ≡ take 48 out → 48 ≤ length front
front_long out front room same = omega (arith, ap length same, length-take-le 48 out room)

pub kept_whole : (out front : List ℕ) → front ≡ take 48 out → front ++ drop 48 out ≡ out
kept_whole out front same = ap (λ (x : List ℕ). x ++ drop 48 out) same ∙ take-append-drop 48 out

pub one_more : (ls : List Link) (c : ℕ) (ps : List (List Item)) (i : ℕ) (d : List Item) (q : Port) → i < length ps → d ≡ get_or ps i d
    → ((p : List Item) → In p (take i ps) → Untouched ls c q p) → Untouched ls c q d → (p : List Item) → In p (take (i + 1) ps) → Untouched ls c q p
one_more ls c ps i d q lt is below here p h =
    ⊎_elim (λ a. below p a) (λ b. ⊎_elim (λ e. subst (Untouched ls c q) (is ∙ sym e) here) (λ x. absurd x) b)
    (in_append p (take i ps) (get_or ps i d ∷ []) (subst (In p) (take_more ps i d lt) h))

pub no_more : (ls : List Link) (c : ℕ) (ps : List (List Item)) (i : ℕ) (q : Port) → length ps ≤ i → ((p : List Item) → In p (take i ps) → Untouched ls c q p) → (p : List Item) → In p ps → Untouched ls c q p
no_more ls c ps i q past below p h = below p (subst (In p) (sym (take_all i ps past)) h)
