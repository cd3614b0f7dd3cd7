-- The list of partial paths has each, no other, and none twice.
use Rattle.std.proofs.Common.{◌≡◌, ℕ, zero, suc, ◌+◌, ◌<◌, ◌≤◌, true, List, [], ◌∷◌, ◌++◌, length, get_or, drop, Some, sym, refl, ap, ◌∙◌, subst, ⊎_elim, arith}
use Rattle.std.proofs.lemmas.List.{append-nil, append_assoc}
use Rattle.std.proofs.lemmas.Bool.{cases_order}
use Rattle.std.proofs.lemmas.Bool.Decides.{nat_tests}
use Rattle.site.specs.declared.parts.Link.{Link}
use Rattle.site.specs.Links.{nowhere, joins}
use Rattle.site.specs.Promises.{TwoEnded, Unrepeated}
use Rattle.paths.specs.declared.pattern.Item.{Item}
use Rattle.paths.specs.declared.roads.Step.{Step}
use Rattle.paths.specs.Found.{starting, all_walks}
use Rattle.paths.specs.Live.{start, after, live_after}
use Rattle.paths.specs.Paths.{In, Once, Declared, Chain, Path, Partial, partial_paths, Listed}
use Rattle.paths.specs.Patterns.{Blocks, Stands}
use Rattle.paths.specs.Roads.{far_end, roads_over}
use Rattle.paths.specs.Walks.{Walk, unmarked, free, walks}
use Rattle.paths.proofs.Listing.{in_append, in_left, in_right, in_map, map_in, once_append, once_map, Joined, Lives, Avoids, Walked, from_sound, walk_listed, from_once}
use Rattle.paths.proofs.Standing.{Tracks, start_tracks, after_tracks, Onward, onward_from_live, live_from_onward, completed}
use Rattle.paths.proofs.Sweeping.{unmarked_long, unmarked_at}
use Rattle.paths.proofs.Ways.{far_within}

-- A link leads from one of its ends to the other.
pub far_joins : (l : Link) (n m : ℕ) → far_end l n ≡ Some m → joins l n m ≡ true
far_joins l n m e = grind (arith, nat_tests)

pub joins_far : (l : Link) (n m : ℕ) → joins l n m ≡ true → far_end l n ≡ Some m
joins_far l n m e = grind (arith, nat_tests)

same_ends : (l k : Link) (n m : ℕ) → joins l n m ≡ true → joins k n m ≡ true → joins l k.a k.b ≡ true
same_ends l k n m e f = grind (arith, nat_tests)

-- No two links join the same nodes.
pub same_link : (ls : List Link) (i j n m : ℕ) → Unrepeated ls → i < length ls → j < length ls → joins (get_or ls i nowhere) n m ≡ true → joins (get_or ls j nowhere) n m ≡ true → i ≡ j
same_link ls i j n m u hi hj ei ej =
    ⊎_elim (λ e. e)
    (⊎_elim (λ lt. absurd (u i j lt hj (same_ends (get_or ls i nowhere) (get_or ls j nowhere) n m ei ej)))
    (λ gt. absurd (u j i gt hi (same_ends (get_or ls j nowhere) (get_or ls i nowhere) n m ej ei))))
    (cases_order i j)

joined_same : (ls : List Link) → Unrepeated ls → (rest is js : List ℕ) (n : ℕ) → Joined ls n rest is → Joined ls n rest js → is ≡ js
joined_same ls u [] [] [] n a b = refl
joined_same ls u [] [] (j ∷ js) n a b = absurd b
joined_same ls u [] (i ∷ is) js n a b = absurd a
joined_same ls u (m ∷ rest) [] js n a b = absurd a
joined_same ls u (m ∷ rest) (i ∷ is) [] n a b = absurd b
joined_same ls u (m ∷ rest) (i ∷ is) (j ∷ js) n a b =
    let e = same_link ls i j n m u a.0 b.0 (far_joins (get_or ls i nowhere) n m a.1) (far_joins (get_or ls j nowhere) n m b.1) in
    ap (λ x. x ∷ is) e ∙ ap (λ xs. j ∷ xs) (joined_same ls u rest is js m a.2 b.2)

joined_chain : (ls : List Link) (rest is : List ℕ) (n : ℕ) → Joined ls n rest is → Chain ls (n ∷ rest)
joined_chain ls [] is n j = tt
joined_chain ls (m ∷ rest) [] n j = absurd j
joined_chain ls (m ∷ rest) (i ∷ is) n j = (record { link = i; there = j.0; joined = far_joins (get_or ls i nowhere) n m j.1 }, joined_chain ls rest is m j.2)

joined_declared : (c : ℕ) (ls : List Link) → TwoEnded c ls → (rest is : List ℕ) (n : ℕ) → Joined ls n rest is → Declared c rest
joined_declared c ls two [] is n j = tt
joined_declared c ls two (m ∷ rest) [] n j = absurd j
joined_declared c ls two (m ∷ rest) (i ∷ is) n j =
    let t = two i j.0 in (far_within c (get_or ls i nowhere) n m j.1 t.0 t.1, joined_declared c ls two rest is m j.2)

-- the links along a chain
links_on : (ls : List Link) (n : ℕ) (rest : List ℕ) → Chain ls (n ∷ rest) → List ℕ
links_on ls n [] ch = []
links_on ls n (m ∷ rest) ch = ch.0.link ∷ links_on ls m rest ch.1

chain_joined : (ls : List Link) (n : ℕ) (rest : List ℕ) (ch : Chain ls (n ∷ rest)) → Joined ls n rest (links_on ls n rest ch)
unfolding links_on
chain_joined ls n [] ch = tt
chain_joined ls n (m ∷ rest) ch = (ch.0.there, joins_far (get_or ls ch.0.link nowhere) n m ch.0.joined, chain_joined ls m rest ch.1)

avoids_none : (c : ℕ) → c ≤ 48 → (ns : List ℕ) → Declared c ns → Avoids unmarked ns
avoids_none c small [] d = tt
avoids_none c small (n ∷ ns) d = (unmarked_at n (omega arith), avoids_none c small ns d.1)

-- The live positions along a path.
lives_same : (items : List Item) (ns : List ℕ) (live d e : ℕ) → Lives items live ns d → Lives items live ns e → d ≡ e
lives_same items [] live d e p q = p ∙ sym q
lives_same items (n ∷ ns) live d e p q = lives_same items ns (after items live n) d e p.1 q.1

pub lives_tracks : (items : List Item) (ns pre : List ℕ) (live end : ℕ) → Tracks items live pre → Lives items live ns end → Tracks items end (pre ++ ns)
lives_tracks items [] pre live end t l = subst (Tracks items end) (sym (append-nil pre)) (subst (λ x. Tracks items x pre) (sym l) t)
lives_tracks items (n ∷ ns) pre live end t l =
    subst (Tracks items end) (append_assoc pre (n ∷ []) ns) (lives_tracks items ns (pre ++ n ∷ []) (after items live n) end (after_tracks items live n pre t) l.1)

lives_on : (items : List Item) (n : ℕ) (ns : List ℕ) (live end : ℕ) → Lives items live (n ∷ ns) end → end ≡ 0 → ⊥
lives_on items n [] live end l z = l.0 (sym l.1 ∙ z)
lives_on items n (m ∷ ns) live end l z = lives_on items m ns (after items live n) end l.1 z

lives_from : (items : List Item) (ns pre : List ℕ) (live : ℕ) → Tracks items live pre → Onward items (pre ++ ns) → Lives items live ns (live_after items live ns)
unfolding live_after
lives_from items [] pre live t o = refl
lives_from items (n ∷ ns) pre live t o =
    let t₁ = after_tracks items live n pre t in
    let o₁ : Onward items ((pre ++ n ∷ []) ++ ns) = subst (Onward items) (sym (append_assoc pre (n ∷ []) ns)) o in
    let o₂ : Onward items (pre ++ n ∷ []) = record { more = ns ++ o₁.more; stands = subst (Blocks items) (append_assoc (pre ++ n ∷ []) ns o₁.more) o₁.stands } in
    (live_from_onward items (after items live n) (pre ++ n ∷ []) t₁ o₂, lives_from items ns (pre ++ n ∷ []) (after items live n) t₁ o₁)

-- The walks from each node.
pub record Started (items : List Item) (roads : List (List Step)) (n k : ℕ) (w : Walk) : Type 0 where
  pub m : ℕ
  pub low : n ≤ m
  pub high : m < n + k
  pub there : In w (walks items roads unmarked m (start items))

pub starting_in : (items : List Item) (roads : List (List Step)) (k n : ℕ) (w : Walk) → In w (starting items roads n k) → Started items roads n k w
unfolding starting
starting_in items roads zero n w h = absurd h
starting_in items roads (suc k) n w h =
    ⊎_elim (λ a. record { m = n; low = omega arith; high = omega arith; there = a })
    (λ b. let s = starting_in items roads k (n + 1) w b in record { m = s.m; low = omega (arith, s.low); high = omega (arith, s.high); there = s.there })
    (in_append w (walks items roads unmarked n (start items)) (starting items roads (n + 1) k) h)

pub in_starting : (items : List Item) (roads : List (List Step)) (k n m : ℕ) (w : Walk) → n ≤ m → m < n + k → In w (walks items roads unmarked m (start items)) → In w (starting items roads n k)
unfolding starting
in_starting items roads zero n m w lo hi h = absurd (omega arith)
in_starting items roads (suc k) n m w lo hi h =
    ⊎_elim
    (λ e. in_left w (walks items roads unmarked n (start items)) (starting items roads (n + 1) k) (subst (λ x. In w (walks items roads unmarked x (start items))) (sym e) h))
    (⊎_elim
    (λ lt. in_right w (walks items roads unmarked n (start items)) (starting items roads (n + 1) k) (in_starting items roads k (n + 1) m w (omega arith) (omega arith) h))
    (λ gt. absurd (omega arith)))
    (cases_order n m)

same_walk : (x y : Walk) → x.nodes ≡ y.nodes → x.links ≡ y.links → x.live ≡ y.live → x ≡ y
same_walk x y p q r =
    ap (λ a. record { nodes = a; links = x.links; live = x.live }) p
    ∙ ap (λ a. record { nodes = y.nodes; links = a; live = x.live }) q
    ∙ ap (λ a. record { nodes = y.nodes; links = y.links; live = a }) r

module _ (c : ℕ) (ls : List Link) (small : c ≤ 48) (two : TwoEnded c ls) (items : List Item) where
  -- what a walk of the list is
  pub walk_is : (n k : ℕ) (w : Walk) → n + k ≤ c → (s : Started items (roads_over ls) n k w) → Walked ls items unmarked s.m (start items) w
  walk_is n k w h s =
      let lt : s.m < 48 = omega (arith, s.high) in
      from_sound c ls small two (free unmarked) items unmarked s.m (start items) w unmarked_long lt (unmarked_at s.m lt) s.there

  first : List ℕ → ℕ
  first [] = 0
  first (n ∷ ns) = n

  starting_once : (k n : ℕ) → n + k ≤ c → Once (starting items (roads_over ls) n k)
  unfolding starting first
  starting_once zero n h = tt
  starting_once (suc k) n h =
      once_append (walks items (roads_over ls) unmarked n (start items)) (starting items (roads_over ls) (n + 1) k) (from_once ls (free unmarked) items unmarked n (start items)) (starting_once k (n + 1) (omega arith))
      (λ w a b.
      let s = starting_in items (roads_over ls) k (n + 1) w b in
      let x = walk_is n (suc k) w h (record { m = n; low = omega arith; high = omega arith; there = a }) in
      let y = walk_is (n + 1) k w (omega arith) s in
      let e : n ≡ s.m = sym (ap first x.nodes) ∙ ap first y.nodes in
      omega (arith, e, s.low))

  nodes_fix : Unrepeated ls → (x y : Walk) → In x (all_walks ls c items) → In y (all_walks ls c items) → x.nodes ≡ y.nodes → x ≡ y
  unfolding first
  nodes_fix u x y hx hy e =
      let sx = starting_in items (roads_over ls) c 0 x hx in
      let sy = starting_in items (roads_over ls) c 0 y hy in
      let a = walk_is 0 c x (omega arith) sx in
      let b = walk_is 0 c y (omega arith) sy in
      let all : sx.m ∷ a.rest ≡ sy.m ∷ b.rest = sym a.nodes ∙ e ∙ b.nodes in
      let m : sx.m ≡ sy.m = ap first all in
      let r : a.rest ≡ b.rest = ap (drop 1) all in
      let jb : Joined ls sx.m a.rest y.links = subst (λ k. Joined ls k a.rest y.links) (sym m) (subst (λ ns. Joined ls sy.m ns y.links) (sym r) b.joined) in
      let lb : Lives items (start items) (sx.m ∷ a.rest) y.live = subst (λ ns. Lives items (start items) ns y.live) (sym all) b.lives in
      same_walk x y e (joined_same ls u a.rest x.links y.links sx.m a.joined jb) (lives_same items (sx.m ∷ a.rest) (start items) x.live y.live a.lives lb)

  pub walked_path : (n : ℕ) (w : Walk) → n < c → Walked ls items unmarked n (start items) w → Path ls c w.nodes
  walked_path n w h g =
      subst (Path ls c) (sym g.nodes)
      (record { some = omega arith; declared = (h, joined_declared c ls two g.rest w.links n g.joined); once = g.once; chain = joined_chain ls g.rest w.links n g.joined })

  pub walked_partial : (n : ℕ) (w : Walk) → n < c → Walked ls items unmarked n (start items) w → Partial ls c items w.nodes
  walked_partial n w h g =
      let t = lives_tracks items (n ∷ g.rest) [] (start items) w.live (start_tracks items) g.lives in
      let o = completed items n g.rest (onward_from_live items w.live (n ∷ g.rest) t (lives_on items n g.rest (start items) w.live g.lives)) in
      record { path = walked_path n w h g; more = o.more; stands = subst (λ ns. Stands items (ns ++ o.more)) (sym g.nodes) o.stands }

  -- the walk along a path
  pub walk_on : (n : ℕ) (ns : List ℕ) → Chain ls (n ∷ ns) → Walk
  walk_on n ns ch = record { nodes = n ∷ ns; links = links_on ls n ns ch; live = live_after items (start items) (n ∷ ns) }

  pub walk_on_nodes : (n : ℕ) (ns : List ℕ) (ch : Chain ls (n ∷ ns)) → (walk_on n ns ch).nodes ≡ n ∷ ns
  unfolding walk_on
  walk_on_nodes n ns ch = refl

  pub walk_on_there : (n : ℕ) (ns more : List ℕ) (p : Path ls c (n ∷ ns)) → Blocks items ((n ∷ ns) ++ more) → In (walk_on n ns p.chain) (all_walks ls c items)
  unfolding walk_on
  walk_on_there n ns more p b =
      in_starting items (roads_over ls) c 0 n _ (omega arith) (omega (arith, p.declared.0))
      (walk_listed c ls small two items unmarked n (start items) _ unmarked_long (omega (arith, p.declared.0))
      (record {
        rest = ns;
        nodes = refl;
        joined = chain_joined ls n ns p.chain;
        once = p.once;
        avoids = avoids_none c small (n ∷ ns) p.declared;
        lives = lives_from items (n ∷ ns) [] (start items) (start_tracks items) (record { more = more; stands = b });
      }))

  every : (p : List ℕ) → Partial ls c items p → In p (partial_paths ls c items)
  unfolding walk_on
  every [] g = absurd (omega (arith, g.path.some))
  every (n ∷ ns) g = map_in (λ (w : Walk). w.nodes) (walk_on n ns g.path.chain) (all_walks ls c items) (walk_on_there n ns g.more g.path g.stands.blocks)

  pub listed : Unrepeated ls → Listed ls c items
  listed u =
      record {
        only = λ p h.
            let g = in_map (λ (w : Walk). w.nodes) p (all_walks ls c items) h in
            let s = starting_in items (roads_over ls) c 0 g.q g.there in
            subst (Partial ls c items) (sym g.is) (walked_partial s.m g.q (omega (arith, s.high)) (walk_is 0 c g.q (omega arith) s));
        every = every;
        once = once_map (λ (w : Walk). w.nodes) (all_walks ls c items) (nodes_fix u) (starting_once c 0 (omega arith));
      }
