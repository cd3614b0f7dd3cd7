-- The live positions of a pattern are those up to which its items stand for the nodes so far.
use Rattle.std.proofs.Common.{◌≡◌, ℕ, zero, suc, ◌+◌, ◌<◌, ◌≤◌, Bool, true, false, cond, not, ◌&&◌, eqb, ◌⊎◌, List, [], ◌∷◌, ◌++◌, length, get_or, take, drop, Decides, sym, refl, ap, ◌∙◌, subst, inl, inr, ⊎_elim, add-one, arith}
use Rattle.std.proofs.lemmas.List.{append-nil, append_assoc, same_from_push, take_more, length-append, take-append-drop, take_all}
use Rattle.std.proofs.lemmas.Bool.{false≢true, eq-eqb, ne_eqb, eqb-true, eqb-false, not-true, not_from_false, and_parts, and_from, or_cases, or_left, or_right, cases_Bool, cases_lt}
use Rattle.paths.specs.declared.pattern.Item.{Item}
use Rattle.paths.specs.declared.pattern.Item.TheVariants.{Node, Star}
use Rattle.paths.specs.Live.{is_star, goes, opens, moves, start, after, live_after}
use Rattle.paths.specs.Tracking.{GoesOn, Tracked}
use Rattle.paths.specs.Patterns.{Split, Block, Blocks, starred}
use Rattle.paths.specs.Digits.{has}
use Rattle.paths.proofs.Bits.{has_pow, has_none, some_in}
use Rattle.paths.proofs.Marks.{flags_at, marks_flags}

-- One item more at the end.
push : (is : List Item) (i : Item) (a b : List ℕ) → Blocks is a → Block i b → Blocks (is ++ i ∷ []) (a ++ b)
push [] i a b m s = record { front = b; back = []; whole = ap (λ x. x ++ b) m ∙ sym (append-nil b); first = s; rest = refl }
push (j ∷ is) i a b m s =
    record { front = m.front; back = m.back ++ b; whole = ap (λ x. x ++ b) m.whole ∙ append_assoc m.front m.back b; first = m.first; rest = push is i m.back b m.rest s }

pull : (is : List Item) (i : Item) (ns : List ℕ) → Blocks (is ++ i ∷ []) ns → Split (Blocks is) (Block i) ns
pull [] i ns m =
    record { front = []; back = m.front; whole = m.whole ∙ ap (λ x. m.front ++ x) m.rest ∙ append-nil m.front; first = refl; rest = m.first }
pull (j ∷ is) i ns m =
    let r = pull is i m.back m.rest in
    record {
      front = m.front ++ r.front;
      back = r.back;
      whole = m.whole ∙ ap (λ x. m.front ++ x) r.whole ∙ sym (append_assoc m.front r.front r.back);
      first = record { front = m.front; back = r.front; whole = refl; first = m.first; rest = r.first };
      rest = r.rest;
    }

record Last (b : List ℕ) : Type 0 where
  before : List ℕ
  last : ℕ
  is : b ≡ before ++ last ∷ []

last_of : (b : List ℕ) → (b ≡ []) ⊎ Last b
last_of [] = inl refl
last_of (x ∷ xs) =
    inr (⊎_elim (λ e. record { before = []; last = x; is = ap (λ y. x ∷ y) e })
    (λ l. record { before = x ∷ l.before; last = l.last; is = ap (λ y. x ∷ y) l.is }) (last_of xs))

-- One node more.
one : (it : Item) (is : List Item) (n : ℕ) (ns : List ℕ) (here past now : Bool)
    → Decides here (Blocks is ns) → Decides past (Blocks (is ++ it ∷ []) ns) → Decides now (Blocks is (ns ++ n ∷ []))
    → Decides (goes it n here past now) (Blocks (is ++ it ∷ []) (ns ++ n ∷ []))
one (Node m) is n ns here past now h p w = (
  λ e. let x = and_parts (eqb m n) here e in
      push is (Node m) ns (n ∷ []) (h.0 x.1) (ap (λ y. y ∷ []) (sym (eqb-true m n x.0))),
  λ q. let s = pull is (Node m) (ns ++ n ∷ []) q in
      let e = same_from_push ns s.front n m (s.whole ∙ ap (λ y. s.front ++ y) s.rest) in
      and_from (eqb m n) here (eq-eqb m n (sym e.1)) (h.1 (subst (Blocks is) (sym e.0) s.first)),
)
one Star is n ns here past now h p w = (
  λ e. ⊎_elim
      (λ x. let s = pull is Star ns (p.0 x) in
      subst (Blocks (is ++ Star ∷ [])) (sym (ap (λ y. y ++ n ∷ []) s.whole ∙ append_assoc s.front s.back (n ∷ []))) (push is Star s.front (s.back ++ n ∷ []) s.first tt))
      (λ x. subst (Blocks (is ++ Star ∷ [])) (append-nil (ns ++ n ∷ [])) (push is Star (ns ++ n ∷ []) [] (w.0 x) tt))
      (or_cases past now e),
  λ q. let s = pull is Star (ns ++ n ∷ []) q in
      ⊎_elim
      (λ e. or_right past now (w.1 (subst (Blocks is) (sym (s.whole ∙ ap (λ y. s.front ++ y) e ∙ append-nil s.front)) s.first)))
      (λ l. let e = same_from_push ns (s.front ++ l.before) n l.last (s.whole ∙ ap (λ y. s.front ++ y) l.is ∙ sym (append_assoc s.front l.before (l.last ∷ []))) in
      or_left past now (p.1 (subst (Blocks (is ++ Star ∷ [])) (sym e.0) (push is Star s.front l.before s.first tt))))
      (last_of s.back),
)

take_one : (items : List Item) (k : ℕ) → k < length items → take (suc k) items ≡ take k items ++ get_or items k (Node 0) ∷ []
take_one items k h = ap (λ x. take x items) (sym (add-one k)) ∙ take_more items k (Node 0) h

-- The set of live positions tells of the nodes ns.
pub record Tracks (items : List Item) (live : ℕ) (ns : List ℕ) : Type 0 where
  pub low : (j : ℕ) → j ≤ length items → Decides (has live j) (Blocks (take j items) ns)
  pub high : (j : ℕ) → length items < j → has live j ≡ false

moved : (items : List Item) (live n : ℕ) (ns : List ℕ) → Tracks items live ns → (j : ℕ) → j ≤ length items → Decides (flags_at (moves items live n) false j) (Blocks (take j items) (ns ++ n ∷ []))
moved items live n ns t zero h =
    (λ e. absurd (false≢true e), λ q. absurd (omega (arith, ap length q, length-append ns (n ∷ []))))
moved items live n ns t (suc k) h =
    let lt : k < length items = omega arith in
    let e = take_one items k lt in
    let p : Decides (has live (k + 1)) (Blocks (take (suc k) items) ns) = subst (λ x. Decides (has live x) (Blocks (take (suc k) items) ns)) (sym (add-one k)) (t.low (suc k) h) in
    subst (λ x. Decides (flags_at (moves items live n) false (suc k)) (Blocks x (ns ++ n ∷ []))) (sym e)
    (one (get_or items k (Node 0)) (take k items) n ns (has live k) (has live (k + 1)) (flags_at (moves items live n) false k)
    (t.low k (omega arith)) (subst (λ x. Decides (has live (k + 1)) (Blocks x ns)) e p) (moved items live n ns t k (omega arith)))

empty_flags : (j : ℕ) → has 0 j ≡ cond (eqb j 0) false false
empty_flags j = has_none j ∙ sym (both (eqb j 0))
  where
    both : (x : Bool) → cond x false false ≡ false
    both true = refl
    both false = refl

pub after_tracks : (items : List Item) (live n : ℕ) (ns : List ℕ) → Tracks items live ns → Tracks items (after items live n) (ns ++ n ∷ [])
after_tracks items live n ns t =
    let f = marks_flags (moves items live n) 0 false empty_flags (length items) in
    record {
      low = λ j h. subst (λ b. Decides b (Blocks (take j items) (ns ++ n ∷ []))) (sym (f.low j h)) (moved items live n ns t j h);
      high = f.high;
    }

-- Before any node.
opening : (it : Item) (is : List Item) (now : Bool) → Decides now (Blocks is []) → Decides (is_star it && now) (Blocks (is ++ it ∷ []) [])
opening (Node m) is now w = (
  λ e. absurd (false≢true e),
  λ q. let s = pull is (Node m) [] q in absurd (omega (arith, ap length s.whole, length-append s.front s.back, ap length s.rest)),
)
opening Star is now w = (
  λ e. push is Star [] [] (w.0 e) tt,
  λ q. let s = pull is Star [] q in
      let z : s.front ≡ [] = nothing s.front (omega (arith, ap length s.whole, length-append s.front s.back)) in
      w.1 (subst (Blocks is) z s.first),
)
  where
    nothing : (xs : List ℕ) → length xs ≡ 0 → xs ≡ []
    nothing [] h = refl
    nothing (x ∷ xs) h = absurd (omega arith)

opened : (items : List Item) (j : ℕ) → j ≤ length items → Decides (flags_at (opens items) true j) (Blocks (take j items) [])
opened items zero h = (λ e. refl, λ q. refl)
opened items (suc k) h =
    let lt : k < length items = omega arith in
    subst (λ x. Decides (flags_at (opens items) true (suc k)) (Blocks x [])) (sym (take_one items k lt)) (opening (get_or items k (Node 0)) (take k items) (flags_at (opens items) true k) (opened items k (omega arith)))

one_flags : (j : ℕ) → has 1 j ≡ cond (eqb j 0) true false
one_flags j = has_pow 0 j ∙ turned j
  where
    turned : (j : ℕ) → eqb 0 j ≡ cond (eqb j 0) true false
    turned zero = refl
    turned (suc j) = ne_eqb 0 (suc j) (λ e. omega arith) ∙ sym (ap (λ x. cond x true false) (ne_eqb (suc j) 0 (λ e. omega arith)))

pub start_tracks : (items : List Item) → Tracks items (start items) []
start_tracks items =
    let f = marks_flags (opens items) 1 true one_flags (length items) in
    record {
      low = λ j h. subst (λ b. Decides b (Blocks (take j items) [])) (sym (f.low j h)) (opened items j h);
      high = f.high;
    }

-- The last position is live exactly where all items stand for the nodes.
pub full_tracks : (items : List Item) (live : ℕ) (ns : List ℕ) → Tracks items live ns → Decides (has live (length items)) (Blocks items ns)
full_tracks items live ns t = subst (λ x. Decides (has live (length items)) (Blocks x ns)) (take_all (length items) items (omega arith)) (t.low (length items) (omega arith))

-- Two rows of items, one after the other.
join : (is js : List Item) (a b : List ℕ) → Blocks is a → Blocks js b → Blocks (is ++ js) (a ++ b)
join [] js a b m s = subst (λ x. Blocks js (x ++ b)) (sym m) s
join (i ∷ is) js a b m s =
    record { front = m.front; back = m.back ++ b; whole = ap (λ x. x ++ b) m.whole ∙ append_assoc m.front m.back b; first = m.first; rest = join is js m.back b m.rest s }

-- what items can stand for: each node itself, each star a node
plain : List Item → List ℕ
plain [] = []
plain (Node m ∷ is) = m ∷ plain is
plain (Star ∷ is) = 0 ∷ plain is

plain_stands : (is : List Item) → Blocks is (plain is)
unfolding plain
plain_stands [] = refl
plain_stands (Node m ∷ is) = record { front = m ∷ []; back = plain is; whole = refl; first = refl; rest = plain_stands is }
plain_stands (Star ∷ is) = record { front = 0 ∷ []; back = plain is; whole = refl; first = tt; rest = plain_stands is }

-- Some list goes on from the nodes for which the items stand.
pub record Onward (items : List Item) (ns : List ℕ) : Type 0 where
  pub more : List ℕ
  pub stands : Blocks items (ns ++ more)

pub onward_from_live : (items : List Item) (live : ℕ) (ns : List ℕ) → Tracks items live ns → (live ≡ 0 → ⊥) → Onward items ns
onward_from_live items live ns t ne =
    let s = some_in live ne in
    ⊎_elim
    (λ past. absurd (false≢true (sym (t.high s.j past) ∙ s.there)))
    (λ h. record {
      more = plain (drop s.j items);
      stands = subst (λ x. Blocks x (ns ++ plain (drop s.j items))) (take-append-drop s.j items)
          (join (take s.j items) (drop s.j items) ns (plain (drop s.j items)) ((t.low s.j h).0 s.there) (plain_stands (drop s.j items)));
    })
    (cases_lt (length items) s.j)

-- which of two fronts of a list is the longer
data Fronts (xs zs ys ws : List ℕ) : Type 0 where
  reaches : (t : List ℕ) → xs ≡ zs ++ t → ws ≡ t ++ ys → Fronts xs zs ys ws
  within : (x : ℕ) (t : List ℕ) → zs ≡ xs ++ x ∷ t → Fronts xs zs ys ws

head : List ℕ → ℕ
head [] = 0
head (x ∷ xs) = x

same_head : (x z : ℕ) (xs zs : List ℕ) → x ∷ xs ≡ z ∷ zs → x ≡ z
unfolding head
same_head x z xs zs e = ap head e

fronts : (xs zs ys ws : List ℕ) → xs ++ ys ≡ zs ++ ws → Fronts xs zs ys ws
fronts xs [] ys ws e = reaches xs refl (sym e)
fronts [] (z ∷ zs) ys ws e = within z zs refl
fronts (x ∷ xs) (z ∷ zs) ys ws e =
    let h = same_head x z (xs ++ ys) (zs ++ ws) e in
    elim (fronts xs zs ys ws (ap (drop 1) e)) [
      | reaches t p q ↦ reaches t (ap (λ y. x ∷ y) p ∙ ap (λ y. y ∷ zs ++ t) h) q
      | within y t p ↦ within y t (ap (λ y. z ∷ y) p ∙ ap (λ w. w ∷ xs ++ y ∷ t) (sym h))
    ]

-- the first j items stand for the nodes
record Upto (items : List Item) (ns : List ℕ) : Type 0 where
  j : ℕ
  fits : j ≤ length items
  stands : Blocks (take j items) ns

upto : (items : List Item) (ns more : List ℕ) → Blocks items (ns ++ more) → Upto items ns
upto [] ns more b = record { j = 0; fits = omega arith; stands = front_nil ns more b }
  where
    front_nil : (ns more : List ℕ) → ns ++ more ≡ [] → ns ≡ []
    front_nil [] more e = refl
    front_nil (n ∷ ns) more e = absurd (omega (arith, ap length e))
upto (i ∷ is) ns more b = go i b.first (λ t e. upto is t more e) (fronts ns b.front more b.back b.whole)
  where
    go : (i : Item) → Block i b.front → ((t : List ℕ) → Blocks is (t ++ more) → Upto is t) → Fronts ns b.front more b.back → Upto (i ∷ is) ns
    go i s rec (reaches t p q) =
        let u = rec t (subst (Blocks is) q b.rest) in
        record { j = suc u.j; fits = omega (arith, u.fits); stands = record { front = b.front; back = t; whole = p; first = s; rest = u.stands } }
    go (Node m) s rec (within x t p) =
        record { j = 0; fits = omega arith; stands = front_nil ns (omega (arith, ap length p, ap length s, length-append ns (x ∷ t))) }
      where
        front_nil : (ns : List ℕ) → length ns ≡ 0 → ns ≡ []
        front_nil [] h = refl
        front_nil (n ∷ ns) h = absurd (omega arith)
    go Star s rec (within x t p) =
        record { j = 1; fits = omega arith; stands = record { front = ns; back = []; whole = sym (append-nil ns); first = tt; rest = refl } }

pub live_from_onward : (items : List Item) (live : ℕ) (ns : List ℕ) → Tracks items live ns → Onward items ns → live ≡ 0 → ⊥
live_from_onward items live ns t o z =
    let u = upto items ns o.more o.stands in
    false≢true (sym (ap (λ x. has x u.j) z ∙ has_none u.j) ∙ (t.low u.j u.fits).1 u.stands)

-- A star lets a list go on.
longer : (items : List Item) (ns : List ℕ) → starred items ≡ true → Blocks items ns → (x : ℕ) × (more : List ℕ) × Blocks items (ns ++ x ∷ more)
longer [] ns s b = absurd (false≢true s)
longer (Node m ∷ is) ns s b =
    let l = longer is b.back s b.rest in
    (l.0, l.1, record { front = b.front; back = b.back ++ l.0 ∷ l.1; whole = ap (λ y. y ++ l.0 ∷ l.1) b.whole ∙ append_assoc b.front b.back (l.0 ∷ l.1); first = b.first; rest = l.2 })
longer (Star ∷ is) ns s b =
    (0, plain is, record { front = ns ++ 0 ∷ []; back = plain is; whole = sym (append_assoc ns (0 ∷ []) (plain is)); first = tt; rest = plain_stands is })

pub completed : (items : List Item) (n : ℕ) (ns : List ℕ) → Onward items (n ∷ ns) → GoesOn items (n ∷ ns)
completed items n ns o =
    ⊎_elim
    (λ s. let l = longer items ((n ∷ ns) ++ o.more) s o.stands in
    record {
      more = o.more ++ l.0 ∷ l.1;
      stands = record {
        blocks = subst (Blocks items) (append_assoc (n ∷ ns) o.more (l.0 ∷ l.1)) l.2;
        two = λ _. omega (arith, length-append (n ∷ ns) (o.more ++ l.0 ∷ l.1), length-append o.more (l.0 ∷ l.1));
      };
    })
    (λ f. record { more = o.more; stands = record { blocks = o.stands; two = λ s. absurd (false≢true (sym f ∙ s)) } })
    (cases_Bool (starred items))

pub after_all_tracks : (items : List Item) (ns pre : List ℕ) (live : ℕ) → Tracks items live pre → Tracks items (live_after items live ns) (pre ++ ns)
unfolding live_after
after_all_tracks items [] pre live t = subst (Tracks items live) (sym (append-nil pre)) t
after_all_tracks items (n ∷ ns) pre live t =
    subst (Tracks items (live_after items (after items live n) ns)) (append_assoc pre (n ∷ []) ns) (after_all_tracks items ns (pre ++ n ∷ []) (after items live n) (after_tracks items live n pre t))

nonzero : (m : ℕ) → not (eqb m 0) ≡ true → m ≡ 0 → ⊥
nonzero m h = eqb-false m 0 (not-true (eqb m 0) h)

pub tracked : (items : List Item) → Tracked items
tracked items =
    record {
      alive = λ n ns.
          let t = after_all_tracks items (n ∷ ns) [] (start items) (start_tracks items) in (
            λ h. completed items n ns (onward_from_live items (live_after items (start items) (n ∷ ns)) (n ∷ ns) t (nonzero (live_after items (start items) (n ∷ ns)) h)),
            λ g. not_from_false (eqb (live_after items (start items) (n ∷ ns)) 0) (ne_eqb (live_after items (start items) (n ∷ ns)) 0 (live_from_onward items (live_after items (start items) (n ∷ ns)) (n ∷ ns) t (record { more = g.more; stands = g.stands.blocks }))),
          );
      full = λ ns. full_tracks items (live_after items (start items) ns) ns (after_all_tracks items ns [] (start items) (start_tracks items));
    }
