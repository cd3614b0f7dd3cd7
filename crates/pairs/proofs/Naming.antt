-- Lists of entries that name the pairs up to a place.
use Rattle.std.proofs.Common.{◌≡◌, ℕ, ◌+◌, ◌<◌, ◌≤◌, ltb, ◌⊎◌, List, [], ◌∷◌, ◌++◌, map, length, take, drop, set, Some, sym, refl, ap, ◌∙◌, subst, inl, inr, ⊎_elim, arith, length-set}
use Rattle.std.specs.List.{slice_get}
use Rattle.std.proofs.lemmas.List.{length_push, take_more_set, drop-drop, drop-set-lt, length-take-le, length-map}
use Rattle.std.proofs.lemmas.Bool.{cases_order, cases_Bool, ltb-false, cond-true, cond-false}
use Rattle.std.proofs.lemmas.Option.{slice_get_within, slice_get-map}
use Rattle.std.specs.Option.{option_map}
use Rattle.std.proofs.lemmas.Bool.Decides.{nat_tests}
use Rattle.kind.specs.Sense.{Sense, Laws}
use Rattle.site.specs.Plans.{Plan}
use Rattle.rules.specs.declared.rule.Rule.{Rule}
use Rattle.rules.specs.Rules.{Ruling, rule_of}
use Rattle.pairs.specs.declared.walking.Pair.{Pair}
use Rattle.pairs.specs.declared.answers.Entry.{Entry}
use Rattle.pairs.specs.declared.answers.Mark.{Mark}
use Rattle.pairs.specs.declared.answers.Mark.TheVariants.{Open, First, Second}
use Rattle.pairs.specs.Disagreement.{mark_of, Contradict, ContradictAt, Tells}
use Rattle.pairs.specs.Lists.{Has, here, there}
use Rattle.pairs.specs.Clashing.{Lex, Upto, Onward}
use Rattle.pairs.specs.Walking.{next_place, Comes}
use Rattle.pairs.specs.Pairs.{Earlier, InOrder, one_open, opens, Clashing, SpeaksOf, Names, NamesAll, Reports}
use Rattle.pairs.proofs.Having.{has_cases, has_left, has_right, has_none, has_one, nth_one}

pub lex_not : (a b c d : ℕ) → Lex a b c d → a ≡ c → b ≡ d → ⊥
lex_not a b c d (inl l) e f = omega arith
lex_not a b c d (inr p) e f = omega (arith, p.1)

pub lex_trans : (a b c d x y : ℕ) → Lex a b c d → Lex c d x y → Lex a b x y
lex_trans a b c d x y (inl l) (inl m) = inl (omega arith)
lex_trans a b c d x y (inl l) (inr q) = inl (omega (arith, q.0))
lex_trans a b c d x y (inr p) (inl m) = inl (omega (arith, p.0))
lex_trans a b c d x y (inr p) (inr q) = inr (p.0 ∙ q.0, omega (arith, p.1, q.1))

pub lex_same : (a b c d e f : ℕ) → a ≡ c → b ≡ d → Lex c d e f → Lex a b e f
lex_same a b c d e f p q (inl l) = inl (omega arith)
lex_same a b c d e f p q (inr m) = inr (p ∙ m.0, omega (arith, m.1))

pub lex_upto : (a b c d e f : ℕ) → Lex a b c d → e ≡ c → f ≡ d → Lex a b e f
lex_upto a b c d e f (inl l) p q = inl (omega arith)
lex_upto a b c d e f (inr m) p q = inr (m.0 ∙ sym p, omega (arith, m.1))

split : (a i : ℕ) → a < i + 1 → (a < i) ⊎ (a ≡ i)
split a i z = ⊎_elim (λ q. inr q) (λ q. ⊎_elim (λ l. inl l) (λ g. absurd (omega arith)) q) (cases_order a i)

here_or : (a b i j : ℕ) → Lex a b i (j + 1) → Lex a b i j ⊎ ((a ≡ i) × (b ≡ j))
here_or a b i j (inl l) = inl (inl l)
here_or a b i j (inr p) = ⊎_elim (λ l. inl (inr (p.0, l))) (λ e. inr (p.0, e)) (split b j p.1)

pub open_means : (a b : ℕ) → mark_of a b ≡ Open → a ≡ b
open_means a b e = grind (arith, nat_tests)

pub one_most : (m : Mark) → one_open m ≤ 1
one_most Open = omega arith
one_most First = omega arith
one_most Second = omega arith

pub opens_push : {P : Type 0} (es : List (Entry P)) (e : Entry P) → opens (es ++ e ∷ []) ≡ opens es + one_open e.mark
opens_push [] e = refl
opens_push (f ∷ es) e = let q = opens_push es e in omega arith

in_order_push : {P : Type 0} (es : List (Entry P)) (e : Entry P) → InOrder es → ((x : Entry P) → Has es x → Earlier x e) → InOrder (es ++ e ∷ [])
in_order_push [] e o h = ((λ f q. absurd (has_none q)), tt)
in_order_push {P} (f ∷ es) e o h = (
  (λ x q. ⊎_elim (λ z. o.0 x z) (λ z. subst (λ (y : Entry P). Earlier f y) (has_one z) (h f here)) (has_cases es (e ∷ []) x q)),
  in_order_push es e o.1 (λ x q. h x (there q)),
)

-- an ordered list whose places all stand in another ordered list is no longer than that
abbrev Found : {P : Type 0} → List (Entry P) → Entry P → Type 0
Found {P} es f = (e : Entry P) × Has es e × (e.first ≡ f.first) × (e.second ≡ f.second)

found_cases : {P : Type 0} (e : Entry P) (es : List (Entry P)) (f : Entry P) → Found (e ∷ es) f → ((e.first ≡ f.first) × (e.second ≡ f.second)) ⊎ Found es f
found_cases e es f (x, here, p, q) = inl (p, q)
found_cases e es f (x, there h, p, q) = inr (x, h, p, q)

pub no_longer : {P : Type 0} (fs es : List (Entry P)) → InOrder fs → InOrder es → ((f : Entry P) → Has fs f → Found es f) → length fs ≤ length es
no_longer [] es o p h = omega arith
no_longer (f ∷ fs) [] o p h = absurd (has_none (h f here).1)
no_longer (f ∷ fs) (e ∷ es) o p h =
    elim (found_cases e es f (h f here)) [
      | inl same ↦ (let q = no_longer fs es o.1 p.1 (λ x z. ⊎_elim (λ w. absurd (lex_not f.first f.second x.first x.second (o.0 x z) (sym same.0 ∙ w.0) (sym same.1 ∙ w.1))) (λ w. w) (found_cases e es x (h x (there z)))) in omega arith)
      | inr at ↦ (let q = no_longer (f ∷ fs) es o p.1 (λ x z. ⊎_elim (λ w. absurd (late at x z w)) (λ w. w) (found_cases e es x (h x z))) in omega arith)
    ]
  where
    late : Found es f → (x : Entry _) → Has (f ∷ fs) x → (e.first ≡ x.first) × (e.second ≡ x.second) → ⊥
    late (y, hy, a, b) x here w = lex_not e.first e.second y.first y.second (p.0 y hy) (w.0 ∙ sym a) (w.1 ∙ sym b)
    late (y, hy, a, b) x (there z) w = lex_not e.first e.second x.first x.second (lex_trans e.first e.second y.first y.second x.first x.second (p.0 y hy) (lex_same y.first y.second f.first f.second x.first x.second a b (o.0 x z))) w.0 w.1

-- one turn of a walk over the pairs: it came to the rules q and r at the place (i, j), and goes on at (i', j')
pub record Turn {C : Type 0} (rs : List (Ruling C)) (i j i' j' : ℕ) (q r : Ruling C) : Type 0 where
  pub first_is : slice_get rs i ≡ Some q
  pub second_is : slice_get rs j ≡ Some r
  pub in_turn : i < j
  pub next : (i', j') ≡ next_place (length rs) i j

pub turned : {C : Type 0} {rs rs' : List (Rule C)} {i j i' j' : ℕ} {p : Pair C} → rs' ≡ rs → Comes rs' i j i' j' p → Turn (map rule_of rs) i j i' j' (rule_of p.one.now) (rule_of p.other.now)
turned {C} {rs} {rs'} {i} {j} {i'} {j'} {p} e t = subst (λ z. Turn (map rule_of z) i j i' j' (rule_of p.one.now) (rule_of p.other.now)) e (record {
  first_is = slice_get-map rule_of rs' i ∙ ap (option_map rule_of) t.one_is;
  second_is = slice_get-map rule_of rs' j ∙ ap (option_map rule_of) t.other_is;
  in_turn = t.in_turn;
  next = t.next ∙ ap (λ n. next_place n i j) (sym (length-map rs' (rule_of {C = C})));
})

module _ {C P : Type 0} (site : Plan) (k : Sense C P) where
  pub upto_start : (rs : List (Ruling C)) (i j : ℕ) → i ≡ 0 → j ≡ 1 → Upto site k rs i j []
  upto_start rs i j p q = record {
    only = record { true_of = λ e h. absurd (has_none h); in_order = tt };
    before = λ e h. absurd (has_none h);
    every = λ a b c x. absurd (nowhere a b c.in_turn x);
  }
    where
      nowhere : (a b : ℕ) → a < b → Lex a b i j → ⊥
      nowhere a b lt (inl l) = omega arith
      nowhere a b lt (inr l) = omega (arith, l.1)

  -- a row ends behind the last rule, and the next begins behind its own rule
  row_ends : (rs : List (Ruling C)) (i j : ℕ) (es : List (Entry P)) → length rs ≤ j → Upto site k rs i j es → Upto site k rs (i + 1) (i + 1 + 1) es
  row_ends rs i j es le u = record {
    only = u.only;
    before = λ e h. inl (⊎_elim (λ l. omega arith) (λ l. omega (arith, l.0)) (u.before e h));
    every = λ a b c x. u.every a b c (let m = slice_get_within rs b c.r c.second_is in ⊎_elim (λ z. near a b m z) (λ z. absurd (let l = c.in_turn in omega (arith, z.0, z.1))) x);
  }
    where
      near : (a b : ℕ) → b < length rs → a < i + 1 → Lex a b i j
      near a b m z = ⊎_elim (λ (q : a < i). inl q) (λ (q : a ≡ i). inr (q, omega arith)) (split a i z)

  moves_on : {rs : List (Ruling C)} {i j i' j' : ℕ} {q r : Ruling C} (es : List (Entry P)) → Turn rs i j i' j' q r → Upto site k rs i (j + 1) es → Upto site k rs i' j' es
  moves_on {rs} {i} {j} {i'} {j'} es t u = at (i', j') t.next
    where
      n : ℕ
      n = length rs

      at : (p : ℕ × ℕ) → p ≡ next_place n i j → Upto site k rs p.0 p.1 es
      at p e = subst (λ (z : ℕ × ℕ). Upto site k rs z.0 z.1 es) (sym e) (elim (cases_Bool (ltb (j + 1) n)) [
        | inl on ↦ subst (λ (z : ℕ × ℕ). Upto site k rs z.0 z.1 es) (sym (cond-true (ltb (j + 1) n) (i, j + 1) (i + 1, i + 1 + 1) on)) u
        | inr off ↦ subst (λ (z : ℕ × ℕ). Upto site k rs z.0 z.1 es) (sym (cond-false (ltb (j + 1) n) (i, j + 1) (i + 1, i + 1 + 1) off)) (row_ends rs i (j + 1) es (ltb-false (j + 1) n off) u)
      ])

  pub upto_all : (rs : List (Ruling C)) (i j : ℕ) (es : List (Entry P)) → length rs ≤ i + 1 → Upto site k rs i j es → NamesAll site k rs es
  upto_all rs i j es le u = record {
    only = u.only;
    every = λ a b c. u.every a b c (inl (let m = slice_get_within rs b c.r c.second_is in let l = c.in_turn in omega arith));
  }

  -- the rules at the place do not contradict each other
  pub upto_skip : {rs : List (Ruling C)} {i j i' j' : ℕ} {q r : Ruling C} (es : List (Entry P)) → Turn rs i j i' j' q r → (Contradict site k q r → ⊥) → Upto site k rs i j es → Upto site k rs i' j' es
  upto_skip {rs} {i} {j} {i'} {j'} {q} {r} es t apart u = moves_on es t (record {
    only = u.only;
    before = λ e h. ⊎_elim (λ l. inl l) (λ l. inr (l.0, omega (arith, l.1))) (u.before e h);
    every = λ a b c x. ⊎_elim (λ y. u.every a b c y) (λ y. absurd (apart (subst (λ z. Contradict site k z r) (nth_one c.first_is (ap (λ n. slice_get rs n) y.0 ∙ t.first_is)) (subst (λ z. Contradict site k c.q z) (nth_one c.second_is (ap (λ n. slice_get rs n) y.1 ∙ t.second_is)) c.contradict)))) (here_or a b i j x);
  })

  -- they do, and an entry tells so
  abbrev pub Clash : ℕ → ℕ → Ruling C → Ruling C → Entry P → Type 0
  Clash i j q r e = (e.first ≡ i) × (e.second ≡ j) × Tells site k q r e

  pub names_push : {rs : List (Ruling C)} {i j i' j' : ℕ} {q r : Ruling C} (es : List (Entry P)) (e : Entry P) → Turn rs i j i' j' q r → Clash i j q r e → Upto site k rs i j es → Names site k rs (es ++ e ∷ [])
  names_push {rs} {i} {j} {i'} {j'} {q} {r} es e t (f, g, w) u = record {
    true_of = λ x h. ⊎_elim (λ z. u.only.true_of x z) (λ z. subst (λ y. SpeaksOf site k rs y) (has_one z) (record { q = q; r = r; first_is = ap (λ n. slice_get rs n) f ∙ t.first_is; second_is = ap (λ n. slice_get rs n) g ∙ t.second_is; in_turn = (let l = t.in_turn in omega arith); tells = w })) (has_cases es (e ∷ []) x h);
    in_order = in_order_push es e u.only.in_order (λ x h. lex_upto x.first x.second i j e.first e.second (u.before x h) f g);
  }

  pub upto_push : {rs : List (Ruling C)} {i j i' j' : ℕ} {q r : Ruling C} (es : List (Entry P)) (e : Entry P) → Turn rs i j i' j' q r → Clash i j q r e → Upto site k rs i j es → Upto site k rs i' j' (es ++ e ∷ [])
  upto_push {rs} {i} {j} {i'} {j'} {q} {r} es e t (f, g, w) u = moves_on (es ++ e ∷ []) t (record {
    only = names_push es e t (f, g, w) u;
    before = λ x h. ⊎_elim (λ z. ⊎_elim (λ l. inl l) (λ l. inr (l.0, omega (arith, l.1))) (u.before x z)) (λ z. inr (ap (λ (y : Entry P). y.first) (sym (has_one z)) ∙ f, (let m = ap (λ (y : Entry P). y.second) (has_one z) in omega (arith, m)))) (has_cases es (e ∷ []) x h);
    every = λ a b c x. ⊎_elim (λ y. (let m = u.every a b c y in (m.0, has_left es (e ∷ []) m.0 m.1, m.2, m.3))) (λ y. (e, has_right es (e ∷ []) e here, f ∙ sym y.0, g ∙ sym y.1)) (here_or a b i j x);
  })

  -- a named pair contradicts itself
  pub shows : Laws k → (q r : Ruling C) (e : Entry P) → Tells site k q r e → ContradictAt site k q r e.port e.class e.point
  shows laws q r e t = record {
    share = t.port_is.shared;
    differ = t.class_is.0;
    first_holds = laws.given_first _ _ _ t.point_is;
    second_holds = laws.given_second _ _ _ t.point_is;
  }

  pub told : Laws k → (rs : List (Ruling C)) (e : Entry P) → SpeaksOf site k rs e → Clashing site k rs e.first e.second
  told laws rs e t = record {
    q = t.q;
    r = t.r;
    first_is = t.first_is;
    second_is = t.second_is;
    in_turn = t.in_turn;
    contradict = record { port = e.port; class = e.class; point = e.point; there = shows laws t.q t.r e t.tells };
  }

  -- names of a part are no more than names of all
  pub fewer : Laws k → (rs : List (Ruling C)) (fs es : List (Entry P)) → Names site k rs fs → NamesAll site k rs es → length fs ≤ length es
  fewer laws rs fs es n m = no_longer fs es n.in_order m.only.in_order (λ f h. m.every f.first f.second (told laws rs f (n.true_of f h)))

  -- so many entries in the order of the walk are too many for the places, or all fit
  abbrev pub Short : List (Ruling C) → ℕ → Type 0
  Short rs places = (es : List (Entry P)) × Names site k rs es × (places < length es)

  abbrev pub Suffices : List (Ruling C) → ℕ → Type 0
  Suffices rs places = (es : List (Entry P)) × NamesAll site k rs es × (length es ≤ places)

  -- what stands in the list, where the walk is at (i, j)
  pub record Filled (rs : List (Ruling C)) (i j : ℕ) (old list : List (Entry P)) (n unsettled : ℕ) : Type 0 where
    pub upto : Upto site k rs i j (take n list)
    pub within : n ≤ length list
    pub open_ones : unsettled ≡ opens (take n list)
    pub few : unsettled ≤ n
    pub same_length : length list ≡ length old
    pub rest : drop n list ≡ drop n old

  pub filled_none : (rs : List (Ruling C)) (i j : ℕ) (old : List (Entry P)) → i ≡ 0 → j ≡ 1 → Filled rs i j old old 0 0
  filled_none rs i j old a b = record { upto = upto_start rs i j a b; within = omega arith; open_ones = refl; few = omega arith; same_length = refl; rest = refl }

  -- there is a place for one more
  pub filled_room : Laws k → {rs : List (Ruling C)} {i j i' j' : ℕ} {old list : List (Entry P)} {n u : ℕ} (e : Entry P) → Onward site k rs i j i' j' (Some e) → Suffices rs (length old) → Filled rs i j old list n u → n < length list
  filled_room laws {rs} {old = old} {list = list} {n = n} e on (es, all, enough) f =
      let m : length (take n list ++ e ∷ []) ≤ length es = fewer laws rs (take n list ++ e ∷ []) es (on (take n list) f.upto).only all in
      omega (arith, m, length_push (take n list) e, length-take-le n list f.within, f.same_length, enough)

  pub filled_more : {rs : List (Ruling C)} {i j i' j' : ℕ} {old list : List (Entry P)} {n u : ℕ} (e : Entry P) → Onward site k rs i j i' j' (Some e) → n < length list → Filled rs i j old list n u → Filled rs i' j' old (set list n e) (n + 1) (u + one_open e.mark)
  filled_more {rs} {i} {j} {i'} {j'} {old} {list} {n} e on more f =
      let front : take (n + 1) (set list n e) ≡ take n list ++ e ∷ [] = take_more_set list n e more in
      record {
        upto = subst (λ z. Upto site k rs i' j' z) (sym front) (on (take n list) f.upto);
        within = omega (arith, length-set list n e);
        open_ones = ap (λ m. m + one_open e.mark) f.open_ones ∙ sym (opens_push (take n list) e) ∙ ap (λ z. opens z) (sym front);
        few = (let m = one_most e.mark in omega (arith, f.few, m));
        same_length = length-set list n e ∙ f.same_length;
        rest = drop-set-lt (n + 1) list n e (omega arith) ∙ sym (drop-drop 1 n list) ∙ ap (λ z. drop 1 z) f.rest ∙ drop-drop 1 n old;
      }

  pub filled_all : {rs : List (Ruling C)} {i j : ℕ} {old list : List (Entry P)} {n u : ℕ} → ((es : List (Entry P)) → Upto site k rs i j es → NamesAll site k rs es) → Filled rs i j old list n u → Reports site k rs old list n u
  filled_all {list = list} {n = n} on f = record { names = on (take n list) f.upto; open_ones = f.open_ones; room = omega (arith, f.within, f.same_length); same_length = f.same_length; rest = f.rest }
