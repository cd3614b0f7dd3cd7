-- The section of paths is read exactly where it is written.
use Rattle.std.proofs.Common.{◌≡◌, ℕ, ◌+◌, ◌<◌, true, ◌&&◌, ltb, List, [], ◌∷◌, ◌++◌, length, Some, None, Ok, Option, Result, sym, refl, ap, ◌∙◌, subst, inl, inr, arith}
use mathlib.Core.Bool.{false≢true}
use Rattle.std.proofs.lemmas.List.{length_push}
use Rattle.std.proofs.lemmas.Bool.{ltb-true, lt-ltb, and_parts, and_from, cond-true}
use Rattle.fixed.specs.Rosters.{number_of}
use Rattle.fixed.specs.Spelling.{is_name}
use Rattle.paths.specs.declared.pattern.Item.{Item}
use Rattle.paths.specs.declared.pattern.Item.TheVariants.{Node, Star as StarItem}
use Rattle.site.specs.declared.refusals.Refusal.{Refusal}
use Rattle.sections.specs.declared.routes.Stage.{Stage}
use Rattle.sections.specs.declared.routes.Stage.TheVariants.{Open, First, Item as InItem, After, Between, Next, Close, Done}
use Rattle.words.specs.declared.signs.Sign.TheVariants as sign
use Rattle.rules.specs.Grammar.{SignNext, ItemAt, star, node, ItemsAt, one, also, PatternAt, PatternsAt, PathsAt, any, some}
use Rattle.sections.specs.Meeting.{read_section, onward}
use Rattle.words.specs.Tests.{is_sign, is_named}
use Rattle.sections.specs.Routes.{Paths, paths, kept, added, added_node, numbered, meet_in, no_paths, path_section, paths_done}
use Rattle.words.specs.Writing.{Token, spelling, Stands, kind}
use Rattle.words.specs.Writing.{sign as sign_token}
use Rattle.rules.proofs.Courses.{onward_ok, which, ok_same, by, kept_through}
use Rattle.sections.proofs.Folds.{Sofar, ended}
use Rattle.words.proofs.Telling.{as_sign, as_name}
use Rattle.words.proofs.Standing.{no_way}

-- what an item adds

star_added : (is js : List Item) (p : ℕ) → added is StarItem p ≡ Ok js → (length is < 12) × (js ≡ is ++ StarItem ∷ [])
star_added is js p e = elim (which (ltb (length is) 12) _ _ js e) [ inl x ↦ (ltb-true _ _ x.0, sym (ok_same x.1)) | inr x ↦ absurd (no_way x.1) ]

adds : (is : List Item) (i : Item) (p : ℕ) → length is < 12 → added is i p ≡ Ok (is ++ i ∷ [])
adds is i p h = cond-true _ _ _ (lt-ltb _ _ h)

pub record NodeAdded (nodes : List (List ℕ)) (is js : List Item) (n : List ℕ) : Type 0 where
  pub number : ℕ
  pub proper : is_name n ≡ true
  pub declared : number_of n nodes ≡ Some number
  pub room : length is < 12
  pub result : js ≡ is ++ Node number ∷ []

node_added : (nodes : List (List ℕ)) (is js : List Item) (n : List ℕ) (p : ℕ) → added_node nodes is n p ≡ Ok js → NodeAdded nodes is js n
node_added nodes is js n p e = elim (which (is_name n && ltb (length is) 12) _ _ js e) [
  | inl x ↦ (let b = and_parts _ _ x.0 in go (number_of n nodes) refl b.0 (ltb-true _ _ b.1) x.1)
  | inr x ↦ absurd (no_way x.1)
]
  where
    go : (o : Option ℕ) → number_of n nodes ≡ o → is_name n ≡ true → length is < 12 → numbered is p o ≡ Ok js → NodeAdded nodes is js n
    go None f a b g = absurd (no_way g)
    go (Some k) f a b g = record { number = k; proper = a; declared = f; room = b; result = elim (which (ltb (length is) 12) _ _ js g) [ inl x ↦ sym (ok_same x.1) | inr x ↦ absurd (no_way x.1) ] }

node_adds : (nodes : List (List ℕ)) (is : List Item) (n : List ℕ) (k p : ℕ) → is_name n ≡ true → number_of n nodes ≡ Some k → length is < 12 → added_node nodes is n p ≡ Ok (is ++ Node k ∷ [])
node_adds nodes is n k p a f h =
    cond-true _ _ _ (and_from _ _ a (lt-ltb _ _ h)) ∙ ap (numbered is p) f ∙ adds is (Node k) p h

pub kept_room : {A : Type 0} (xs : List A) (x : A) → length xs < 4 → kept xs x ≡ xs ++ x ∷ []
kept_room xs x h = cond-true _ _ _ (lt-ltb _ _ h)

module _ (text : List ℕ) (nodes : List (List ℕ)) where
  same_count : {at to : ℕ} {ps : List (List Item)} {gs : List ℕ} → PatternsAt text nodes at ps gs to → length ps ≡ length gs
  same_count (one o p) = refl
  same_count (also {ps = ps} {gs = gs} {is = is} {place = g} pp c lt p) = length_push ps is ∙ ap (λ n. n + 1) (same_count pp) ∙ sym (length_push gs g)

  module _ (a : ℕ) where
    -- what stands before a pattern
    data Before : List (List Item) → List ℕ → ℕ → Type 0 where
      first : {at : ℕ} → SignNext text a sign.Open at → Before [] [] at
      next : {ps : List (List Item)} {gs : List ℕ} {p at : ℕ} → PatternsAt text nodes a ps gs p → SignNext text p sign.Comma at → length gs < 4 → Before ps gs at

    -- what stands before an item of a pattern
    data Filling (inner : ℕ) : List Item → ℕ → Type 0 where
      fresh : Filling inner [] inner
      more : {is : List Item} {p at : ℕ} → ItemsAt text nodes inner is p → SignNext text p sign.Comma at → Filling inner is at

    record Entering (ps : List (List Item)) (gs : List ℕ) (is : List Item) (g at : ℕ) : Type 0 where
      pub outer : ℕ
      pub inner : ℕ
      pub before : Before ps gs outer
      pub opens : Stands text outer (sign_token sign.Less) g inner
      pub filling : Filling inner is at

    record Filled (ps : List (List Item)) (gs : List ℕ) (is : List Item) (g at : ℕ) : Type 0 where
      pub outer : ℕ
      pub inner : ℕ
      pub before : Before ps gs outer
      pub opens : Stands text outer (sign_token sign.Less) g inner
      pub items : ItemsAt text nodes inner is at

    record Empty (ps : List (List Item)) (gs : List ℕ) (is : List Item) : Type 0 where
      pub patterns : ps ≡ []
      pub places : gs ≡ []
      pub items : is ≡ []

    record Starred (ps : List (List Item)) (gs : List ℕ) (at : ℕ) : Type 0 where
      pub inner : ℕ
      pub place : ℕ
      pub opens : SignNext text a sign.Open inner
      pub star : Stands text inner (sign_token sign.Star) place at
      pub patterns : ps ≡ (StarItem ∷ []) ∷ []
      pub places : gs ≡ place ∷ []

    -- what stands from the section's start to a place, by the stage that is reached there
    abbrev So : Stage → List (List Item) → List ℕ → List Item → ℕ → ℕ → Type 0
    So Open ps gs is g at = (at ≡ a) × Empty ps gs is
    So First ps gs is g at = SignNext text a sign.Open at × Empty ps gs is
    So InItem ps gs is g at = Entering ps gs is g at
    So After ps gs is g at = Filled ps gs is g at
    So Between ps gs is g at = PatternsAt text nodes a ps gs at
    So Next ps gs is g at = (p : ℕ) × PatternsAt text nodes a ps gs p × SignNext text p sign.Comma at
    So Close ps gs is g at = Starred ps gs at
    So Done ps gs is g at = PathsAt text nodes a ps gs at

    abbrev Inv : Paths → ℕ → Type 0
    Inv s at = So s.stage s.patterns s.places s.items s.start at

    closed : {ps : List (List Item)} {gs : List ℕ} {is : List Item} {p g to : ℕ} → Before ps gs p → PatternAt text nodes p is g to → PatternsAt text nodes a (kept ps is) (kept gs g) to
    closed (first o) pat = one o pat
    closed {is = is} {g = g} {to = to} (next {ps = ps} {gs = gs} pp c lt) pat =
        let e = kept_room ps is (omega (arith, same_count pp)) in
        let f = kept_room gs g lt in
        subst (λ x. PatternsAt text nodes a x (kept gs g) to) (sym e) (subst (λ y. PatternsAt text nodes a (ps ++ is ∷ []) y to) (sym f) (also pp c lt pat))

    item_in : {inner at to : ℕ} {is : List Item} {i : Item} → Filling inner is at → length is < 12 → ItemAt text nodes at i to → ItemsAt text nodes inner (is ++ i ∷ []) to
    item_in fresh h x = one x
    item_in (more xs c) h x = also xs c h x

    land : {x s : Paths} (to : ℕ) → ◌≡◌ {A = Result Paths Refusal} (Ok x) (Ok s) → Inv x to → Inv s to
    land to e h = subst (λ s. Inv s to) (ok_same e) h

    filled : {ps : List (List Item)} {gs : List ℕ} {is js : List Item} {i : Item} {g at to : ℕ} → Entering ps gs is g at → length is < 12 → js ≡ is ++ i ∷ [] → ItemAt text nodes at i to → Filled ps gs js g to
    filled {to = to} h room e x = record { outer = h.outer; inner = h.inner; before = h.before; opens = h.opens; items = subst (λ l. ItemsAt text nodes h.inner l to) (sym e) (item_in h.filling room x) }

    keeps : (stage : Stage) (ps : List (List Item)) (gs : List ℕ) (is : List Item) (g at : ℕ) (t : Token) (from to : ℕ) (s : Paths)
        → So stage ps gs is g at → Stands text at t from to → meet_in nodes stage ps gs is g (kind t) (spelling t) from ≡ Ok s → Inv s to
    keeps Open ps gs is g at t from to s h st e = elim (which (is_sign (kind t) sign.Open) _ _ s e) [
      | inl x ↦ land to x.1 ((from, subst (λ n. Stands text n (sign_token sign.Open) from to) h.0 (as_sign st sign.Open x.0)), h.1)
      | inr x ↦ absurd (no_way x.1)
    ]
    keeps First ps gs is g at t from to s h st e = elim (which (is_sign (kind t) sign.Star) _ _ s e) [
      | inl x ↦
          (let m = onward_ok (λ js. paths Close (kept ps js) (kept gs from) js g) s (added is StarItem from) x.1 in
          let add = star_added is m.0 from m.1 in
          let js : m.0 ≡ StarItem ∷ [] = add.1 ∙ ap (λ l. l ++ StarItem ∷ []) h.1.items in
          land to m.2 (record {
            inner = at;
            place = from;
            opens = h.0;
            star = as_sign st sign.Star x.0;
            patterns = ap (λ l. kept l m.0) h.1.patterns ∙ ap (λ l. l ∷ []) js;
            places = ap (λ l. kept l from) h.1.places;
          }))
      | inr x ↦ elim (which (is_sign (kind t) sign.Less) _ _ s x.1) [
        | inl y ↦ land to y.1 (entering h.1 h.0 (as_sign st sign.Less y.0))
        | inr y ↦ absurd (no_way y.1)
      ]
    ]
      where
        entering : Empty ps gs is → SignNext text a sign.Open at → Stands text at (sign_token sign.Less) from to → Entering ps gs is from to
        entering em o l = record {
          outer = at;
          inner = to;
          before = subst (λ x. Before x gs at) (sym em.patterns) (subst (λ y. Before [] y at) (sym em.places) (first o));
          opens = l;
          filling = subst (λ z. Filling to z to) (sym em.items) fresh;
        }
    keeps InItem ps gs is g at t from to s h st e = elim (which (is_named (kind t)) _ _ s e) [
      | inl x ↦
          (let m = onward_ok (λ js. paths After ps gs js g) s (added_node nodes is (spelling t) from) x.1 in
          let w = node_added nodes is m.0 (spelling t) from m.1 in
          land to m.2 (filled h w.room w.result (node (from, as_name st x.0) w.proper w.declared)))
      | inr x ↦ elim (which (is_sign (kind t) sign.Star) _ _ s x.1) [
        | inl y ↦
            (let m = onward_ok (λ js. paths After ps gs js g) s (added is StarItem from) y.1 in
            let w = star_added is m.0 from m.1 in
            land to m.2 (filled h w.0 w.1 (star (from, as_sign st sign.Star y.0))))
        | inr y ↦ absurd (no_way y.1)
      ]
    ]
    keeps After ps gs is g at t from to s h st e = elim (which (is_sign (kind t) sign.Comma) _ _ s e) [
      | inl x ↦ land to x.1 (record { outer = h.outer; inner = h.inner; before = h.before; opens = h.opens; filling = more h.items (from, as_sign st sign.Comma x.0) })
      | inr x ↦ elim (which (is_sign (kind t) sign.Greater) _ _ s x.1) [
        | inl y ↦ land to y.1 (closed h.before (record { inner = h.inner; last = at; opens = h.opens; items = h.items; closes = (from, as_sign st sign.Greater y.0) }))
        | inr y ↦ absurd (no_way y.1)
      ]
    ]
    keeps Between ps gs is g at t from to s h st e = elim (which (is_sign (kind t) sign.Comma) _ _ s e) [
      | inl x ↦ land to x.1 (at, h, (from, as_sign st sign.Comma x.0))
      | inr x ↦ elim (which (is_sign (kind t) sign.Close) _ _ s x.1) [
        | inl y ↦ land to y.1 (some h (from, as_sign st sign.Close y.0))
        | inr y ↦ absurd (no_way y.1)
      ]
    ]
    keeps Next ps gs is g at t from to s h st e = elim (which (is_sign (kind t) sign.Less) _ _ s e) [
      | inl x ↦ elim (which (ltb (length gs) 4) _ _ s x.1) [
        | inl y ↦ land to y.1 (record { outer = at; inner = to; before = next h.1 h.2 (ltb-true _ _ y.0); opens = as_sign st sign.Less x.0; filling = fresh })
        | inr y ↦ absurd (no_way y.1)
      ]
      | inr x ↦ absurd (no_way x.1)
    ]
    keeps Close ps gs is g at t from to s h st e = elim (which (is_sign (kind t) sign.Close) _ _ s e) [
      | inl x ↦ land to x.1 (subst (λ y. PathsAt text nodes a y gs to) (sym h.patterns) (subst (λ z. PathsAt text nodes a ((StarItem ∷ []) ∷ []) z to) (sym h.places) (any h.opens h.star (from, as_sign st sign.Close x.0))))
      | inr x ↦ absurd (no_way x.1)
    ]
    keeps Done ps gs is g at t from to s h st e = absurd (no_way e)

    over : (s : Paths) (end : ℕ) → paths_done s.stage ≡ true → Inv s end → PathsAt text nodes a s.patterns s.places end
    over s end d h = go s.stage d h
      where
        go : (stage : Stage) → paths_done stage ≡ true → So stage s.patterns s.places s.items s.start end → PathsAt text nodes a s.patterns s.places end
        go Open d h = absurd (false≢true d)
        go First d h = absurd (false≢true d)
        go InItem d h = absurd (false≢true d)
        go After d h = absurd (false≢true d)
        go Between d h = absurd (false≢true d)
        go Next d h = absurd (false≢true d)
        go Close d h = absurd (false≢true d)
        go Done d h = h

    -- what is read is written
    pub paths_written : (s : Paths) (end : ℕ) → read_section (path_section nodes) text no_paths a ≡ Ok (s, end) → PathsAt text nodes a s.patterns s.places end
    paths_written s end e =
        let r = kept_through (path_section nodes) text Inv (λ s at t from to s' h st v g. keeps s.stage s.patterns s.places s.items s.start at t from to s' h st g) (length text) no_paths s a end (refl, record { patterns = refl; places = refl; items = refl }) e in
        over s end r.1 r.0

abbrev pub mk : Stage → List (List Item) → List ℕ → List Item → ℕ → Paths
mk s ps gs is g = record { stage = s; patterns = ps; places = gs; items = is; start = g }

module _ (text : List ℕ) (nodes : List (List ℕ)) (a : ℕ) (goal : Result (Paths × ℕ) Refusal) where
  abbrev At : Stage → List (List Item) → List ℕ → List Item → ℕ → ℕ → Type 0
  At s ps gs is g at = Sofar (path_section nodes) text (mk s ps gs is g) at goal

  item_run : (ps : List (List Item)) (gs : List ℕ) (is : List Item) {i : Item} (g : ℕ) {at to : ℕ} → At InItem ps gs is g at → length is < 12 → ItemAt text nodes at i to → At After ps gs (is ++ i ∷ []) g to
  item_run ps gs is g h lt (star x) = by (mk After ps gs (is ++ StarItem ∷ []) g) h refl refl x.1 (ap (onward (λ js. paths After ps gs js g)) (adds is StarItem x.0 lt))
  item_run ps gs is g h lt (node {n = n} {k = k} x proper declared) =
      by (mk After ps gs (is ++ Node k ∷ []) g) h refl refl x.1 (ap (onward (λ js. paths After ps gs js g)) (node_adds nodes is n k x.0 proper declared lt))

  items_run : (ps : List (List Item)) (gs : List ℕ) (g : ℕ) {at : ℕ} {is : List Item} {to : ℕ} → At InItem ps gs [] g at → ItemsAt text nodes at is to → At After ps gs is g to
  items_run ps gs g h (one x) = item_run ps gs [] g h (omega arith) x
  items_run ps gs g h (also {is = is} xs c lt x) = item_run ps gs is g (by (mk InItem ps gs is g) (items_run ps gs g h xs) refl refl c.1 refl) lt x

  pattern_run : (ps : List (List Item)) (gs : List ℕ) (is : List Item) (g : ℕ) {at to : ℕ} → (pat : PatternAt text nodes at is g to) → At InItem ps gs [] g pat.inner → At Between (kept ps is) (kept gs g) is g to
  pattern_run ps gs is g pat h = by (mk Between (kept ps is) (kept gs g) is g) (items_run ps gs g h pat.items) refl refl pat.closes.1 refl

  record Reached (s : Stage) (ps : List (List Item)) (gs : List ℕ) (to : ℕ) : Type 0 where
    pub items : List Item
    pub start : ℕ
    pub sofar : At s ps gs items start to

  patterns_run : {ps : List (List Item)} {gs : List ℕ} {to : ℕ} → At Open [] [] [] 0 a → PatternsAt text nodes a ps gs to → Reached Between ps gs to
  patterns_run h (one {is = is} {place = g} o pat) =
      let inside = by (mk First [] [] [] 0) h refl refl o.1 refl in
      record { items = is; start = g; sofar = pattern_run [] [] is g pat (by (mk InItem [] [] [] g) inside refl refl pat.opens refl) }
  patterns_run {to = to} h (also {ps = ps} {gs = gs} {is = is} {place = g} pp c lt pat) =
      let r = patterns_run h pp in
      let after = by (mk Next ps gs r.items r.start) r.sofar refl refl c.1 refl in
      let inside = by (mk InItem ps gs [] g) after refl refl pat.opens (cond-true _ _ _ (lt-ltb _ _ lt)) in
      let e = kept_room ps is (omega (arith, same_count text nodes pp)) in
      let f = kept_room gs g lt in
      record { items = is; start = g; sofar = subst (λ x. At Between x (gs ++ g ∷ []) is g to) e (subst (λ y. At Between (kept ps is) y is g to) f (pattern_run ps gs is g pat inside)) }

  paths_run : {ps : List (List Item)} {gs : List ℕ} {to : ℕ} → At Open [] [] [] 0 a → PathsAt text nodes a ps gs to → Reached Done ps gs to
  paths_run h (any {place = g} o x c) =
      let inside = by (mk First [] [] [] 0) h refl refl o.1 refl in
      let starred = by (mk Close ((StarItem ∷ []) ∷ []) (g ∷ []) (StarItem ∷ []) 0) inside refl refl x refl in
      record { items = StarItem ∷ []; start = 0; sofar = by (mk Done ((StarItem ∷ []) ∷ []) (g ∷ []) (StarItem ∷ []) 0) starred refl refl c.1 refl }
  paths_run h (some {ps = ps} {gs = gs} pp c) =
      let r = patterns_run h pp in
      record { items = r.items; start = r.start; sofar = by (mk Done ps gs r.items r.start) r.sofar refl refl c.1 refl }

-- the section as it was read
pub record PathsRead (text : List ℕ) (nodes : List (List ℕ)) (a : ℕ) (ps : List (List Item)) (gs : List ℕ) (to : ℕ) : Type 0 where
  pub items : List Item
  pub start : ℕ
  pub read : read_section (path_section nodes) text no_paths a ≡ Ok (mk Done ps gs items start, to)

-- what is written is read
pub paths_read : (text : List ℕ) (nodes : List (List ℕ)) (a : ℕ) {ps : List (List Item)} {gs : List ℕ} {to : ℕ} → PathsAt text nodes a ps gs to → PathsRead text nodes a ps gs to
paths_read text nodes a w =
    let h : Sofar (path_section nodes) text no_paths a (read_section (path_section nodes) text no_paths a) = record { fuel = length text; enough = omega arith; same = refl } in
    let r = paths_run text nodes a (read_section (path_section nodes) text no_paths a) h w in
    record { items = r.items; start = r.start; read = sym (ended r.sofar refl) }
