-- The section of conditions is read exactly where it is written.
use Rattle.std.proofs.Common.{◌≡◌, ℕ, ◌+◌, ◌<◌, ◌≤◌, true, ◌&&◌, ltb, List, [], length, Ok, Result, sym, refl, ap, ◌∙◌, subst, inl, inr, arith}
use mathlib.Core.Bool.{false≢true}
use Rattle.std.proofs.lemmas.Bool.{ltb-true, ltb-false, lt-ltb, le-ltb, and_parts, and_from, cond-true, cond-false}
use Rattle.fixed.specs.Spelling.{is_name}
use Rattle.kind.specs.declared.comparison.Sign.{Sign as Relation}
use Rattle.kind.specs.declared.comparison.Sign.TheVariants.{Equal, NotEqual, AtLeast, AtMost}
use Rattle.kind.specs.Sense.{Sense}
use Rattle.kind.specs.Taking.{Taking, became, not_mine, bad_value, doubled}
use Rattle.site.specs.declared.refusals.Refusal.{Refusal}
use Rattle.sections.specs.declared.conditions.Stage.{Stage}
use Rattle.sections.specs.declared.conditions.Stage.TheVariants.{Open, First, Sign as AtSign, Value as AtValue, After, Next as AtNext, Close, Done}
use Rattle.words.specs.declared.signs.Sign.{Sign}
use Rattle.words.specs.declared.signs.Sign.TheVariants as sign
use Rattle.sections.specs.Conditions.{Conditions, state, begun, offered, offered_to, meet_in, no_conditions, condition_section, conditions_done}
use Rattle.rules.specs.Grammar.{SignNext, Comparing, same, differs, at_least, at_most, ComparisonAt, ComparisonsAt, one, also, ConditionsAt, any, some}
use Rattle.sections.specs.Meeting.{read_section, onward}
use Rattle.words.specs.Tests.{is_sign, is_named, is_value}
use Rattle.words.specs.Writing.{Token, name, spelling, Stands, Next, kind}
use Rattle.words.specs.Writing.{sign as sign_token}
use Rattle.rules.proofs.Courses.{onward_ok, which, ok_same, by, kept_through}
use Rattle.sections.proofs.Folds.{Sofar, ended}
use Rattle.words.proofs.Telling.{as_sign, as_name, as_value}
use Rattle.words.proofs.Standing.{no_way}

begun_ok : (n m : ℕ) (w : List ℕ) (p : ℕ) → begun n w p ≡ Ok m → (is_name w ≡ true) × (n < 8) × (m ≡ n + 1)
begun_ok n m w p e = elim (which (is_name w && ltb n 8) _ _ m e) [
  | inl x ↦ (let b = and_parts _ _ x.0 in (b.0, ltb-true _ _ b.1, sym (ok_same x.1)))
  | inr x ↦ absurd (no_way x.1)
]

begins : (n : ℕ) (w : List ℕ) (p : ℕ) → is_name w ≡ true → n < 8 → begun n w p ≡ Ok (n + 1)
begins n w p a h = cond-true _ _ _ (and_from _ _ a (lt-ltb _ _ h))

module _ {C : Type 0} where
  offered_to_lem : (t : Taking C) (d : C) (q p : ℕ) → offered_to t q p ≡ Ok d → t ≡ became d
  offered_to_lem (became c) d q p e = ap became (ok_same e)
  offered_to_lem not_mine d q p e = absurd (no_way e)
  offered_to_lem bad_value d q p e = absurd (no_way e)
  offered_to_lem doubled d q p e = absurd (no_way e)

  offered_ok : (taken : C → List ℕ → Relation → List ℕ → Taking C) (c d : C) (v : List ℕ) (r : Relation) (w : List ℕ) (q p : ℕ) → offered taken c v r w q p ≡ Ok d → (length w ≤ 16) × (taken c v r w ≡ became d)
  offered_ok taken c d v r w q p e = elim (which (ltb 16 (length w)) _ _ d e) [
    | inl x ↦ absurd (no_way x.1)
    | inr x ↦ (ltb-false _ _ x.0, offered_to_lem (taken c v r w) d q p x.1)
  ]

  offers : (taken : C → List ℕ → Relation → List ℕ → Taking C) (c d : C) (v : List ℕ) (r : Relation) (w : List ℕ) (q p : ℕ) → length w ≤ 16 → taken c v r w ≡ became d → offered taken c v r w q p ≡ Ok d
  offers taken c d v r w q p h e = cond-false _ _ _ (le-ltb _ _ h) ∙ ap (λ t. offered_to t q p) e

module _ {C P : Type 0} (k : Sense C P) (text : List ℕ) (a : ℕ) where
  -- what stands before a comparison
  data Before : ℕ → C → ℕ → Type 0 where
    first : {at : ℕ} → SignNext text a sign.Open at → Before 0 k.everywhere at
    next : {n p at : ℕ} {c : C} → ComparisonsAt k text a n c p → SignNext text p sign.Comma at → n < 8 → Before n c at

  -- a comparison up to its word
  record Worded (n : ℕ) (v : List ℕ) (c : C) (at : ℕ) : Type 0 where
    pub earlier : ℕ
    pub outer : ℕ
    pub before : Before earlier c outer
    pub count : n ≡ earlier + 1
    pub word : Next text outer (name v) at
    pub proper : is_name v ≡ true

  -- a comparison up to its sign
  record Compared (n : ℕ) (v : List ℕ) (r : Relation) (c : C) (at : ℕ) : Type 0 where
    pub middle : ℕ
    pub by_sign : Sign
    pub worded : Worded n v c middle
    pub compares : SignNext text middle by_sign at
    pub related : Comparing by_sign r

  -- what stands from the section's start to a place, by the stage that is reached there
  abbrev So : Stage → ℕ → List ℕ → Relation → C → ℕ → Type 0
  So Open n v r c at = (at ≡ a) × (n ≡ 0) × (c ≡ k.everywhere)
  So First n v r c at = SignNext text a sign.Open at × (n ≡ 0) × (c ≡ k.everywhere)
  So AtSign n v r c at = Worded n v c at
  So AtValue n v r c at = Compared n v r c at
  So After n v r c at = ComparisonsAt k text a n c at
  So AtNext n v r c at = (p : ℕ) × ComparisonsAt k text a n c p × SignNext text p sign.Comma at
  So Close n v r c at = ((p : ℕ) × SignNext text a sign.Open p × SignNext text p sign.Star at) × (c ≡ k.everywhere)
  So Done n v r c at = ConditionsAt k text a c at

  abbrev Inv : Conditions C → ℕ → Type 0
  Inv s at = So s.stage s.count s.word s.sign s.condition at

  land : {x s : Conditions C} (to : ℕ) → ◌≡◌ {A = Result (Conditions C) Refusal} (Ok x) (Ok s) → Inv x to → Inv s to
  land to e h = subst (λ s. Inv s to) (ok_same e) h

  compared : {n p to : ℕ} {c d : C} → Before n c p → ComparisonAt k text p c d to → ComparisonsAt k text a (n + 1) d to
  compared (first o) x = one o x
  compared (next xs o lt) x = also xs o lt x

  keeps : (stage : Stage) (n : ℕ) (v : List ℕ) (q : ℕ) (r : Relation) (c : C) (at : ℕ) (t : Token) (from to : ℕ) (s : Conditions C)
      → So stage n v r c at → Stands text at t from to → meet_in k.taken stage n v q r c (kind t) (spelling t) from ≡ Ok s → Inv s to
  keeps Open n v q r c at t from to s h st e = elim (which (is_sign (kind t) sign.Open) _ _ s e) [
    | inl x ↦ land to x.1 ((from, subst (λ m. Stands text m (sign_token sign.Open) from to) h.0 (as_sign st sign.Open x.0)), h.1, h.2)
    | inr x ↦ absurd (no_way x.1)
  ]
  keeps First n v q r c at t from to s h st e = elim (which (is_sign (kind t) sign.Star) _ _ s e) [
    | inl x ↦ land to x.1 ((at, h.0, (from, as_sign st sign.Star x.0)), h.2)
    | inr x ↦ elim (which (is_named (kind t)) _ _ s x.1) [
      | inl y ↦
          (let m = onward_ok (λ m. state AtSign m (spelling t) from r c) s (begun n (spelling t) from) y.1 in
          let w = begun_ok n m.0 (spelling t) from m.1 in
          land to m.2 (record {
            earlier = 0;
            outer = at;
            before = subst (λ z. Before 0 z at) (sym h.2) (first h.0);
            count = w.2 ∙ ap (λ z. z + 1) h.1;
            word = (from, as_name st y.0);
            proper = w.0;
          }))
      | inr y ↦ absurd (no_way y.1)
    ]
  ]
  keeps AtSign n v q r c at t from to s h st e = elim (which (is_sign (kind t) sign.Same) _ _ s e) [
    | inl x ↦ land to x.1 (signs sign.Same Equal same (as_sign st sign.Same x.0))
    | inr x ↦ elim (which (is_sign (kind t) sign.Differs) _ _ s x.1) [
      | inl y ↦ land to y.1 (signs sign.Differs NotEqual differs (as_sign st sign.Differs y.0))
      | inr y ↦ elim (which (is_sign (kind t) sign.AtLeast) _ _ s y.1) [
        | inl z ↦ land to z.1 (signs sign.AtLeast AtLeast at_least (as_sign st sign.AtLeast z.0))
        | inr z ↦ elim (which (is_sign (kind t) sign.AtMost) _ _ s z.1) [
          | inl u ↦ land to u.1 (signs sign.AtMost AtMost at_most (as_sign st sign.AtMost u.0))
          | inr u ↦ absurd (no_way u.1)
        ]
      ]
    ]
  ]
    where
      signs : (g : Sign) (d : Relation) → Comparing g d → Stands text at (sign_token g) from to → Compared n v d c to
      signs g d cm x = record { middle = at; by_sign = g; worded = h; compares = (from, x); related = cm }
  keeps AtValue n v q r c at t from to s h st e = elim (which (is_value (kind t)) _ _ s e) [
    | inl x ↦
        (let m = onward_ok (λ d. state After n v q r d) s (offered k.taken c v r (spelling t) q from) x.1 in
        let o = offered_ok k.taken c m.0 v r (spelling t) q from m.1 in
        let w = h.worded in
        land to m.2 (subst (λ z. ComparisonsAt k text a z m.0 to) (sym w.count) (compared w.before (record {
          called = v;
          by = h.by_sign;
          relation = r;
          worth = spelling t;
          after_word = h.middle;
          after_sign = at;
          word = w.word;
          proper = w.proper;
          compares = h.compares;
          related = h.related;
          valued = (from, as_value st x.0);
          short = o.0;
          taken = o.1;
        }))))
    | inr x ↦ absurd (no_way x.1)
  ]
  keeps After n v q r c at t from to s h st e = elim (which (is_sign (kind t) sign.Comma) _ _ s e) [
    | inl x ↦ land to x.1 (at, h, (from, as_sign st sign.Comma x.0))
    | inr x ↦ elim (which (is_sign (kind t) sign.Close) _ _ s x.1) [
      | inl y ↦ land to y.1 (some h (from, as_sign st sign.Close y.0))
      | inr y ↦ absurd (no_way y.1)
    ]
  ]
  keeps AtNext n v q r c at t from to s h st e = elim (which (is_named (kind t)) _ _ s e) [
    | inl x ↦
        (let m = onward_ok (λ m. state AtSign m (spelling t) from r c) s (begun n (spelling t) from) x.1 in
        let w = begun_ok n m.0 (spelling t) from m.1 in
        land to m.2 (record { earlier = n; outer = at; before = next h.1 h.2 w.1; count = w.2; word = (from, as_name st x.0); proper = w.0 }))
    | inr x ↦ absurd (no_way x.1)
  ]
  keeps Close n v q r c at t from to s h st e = elim (which (is_sign (kind t) sign.Close) _ _ s e) [
    | inl x ↦ land to x.1 (subst (λ z. ConditionsAt k text a z to) (sym h.1) (any h.0.1 h.0.2 (from, as_sign st sign.Close x.0)))
    | inr x ↦ absurd (no_way x.1)
  ]
  keeps Done n v q r c at t from to s h st e = absurd (no_way e)

  over : (s : Conditions C) (end : ℕ) → conditions_done s.stage ≡ true → Inv s end → ConditionsAt k text a s.condition end
  over s end d h = go s.stage d h
    where
      go : (stage : Stage) → conditions_done stage ≡ true → So stage s.count s.word s.sign s.condition end → ConditionsAt k text a s.condition end
      go Open d h = absurd (false≢true d)
      go First d h = absurd (false≢true d)
      go AtSign d h = absurd (false≢true d)
      go AtValue d h = absurd (false≢true d)
      go After d h = absurd (false≢true d)
      go AtNext d h = absurd (false≢true d)
      go Close d h = absurd (false≢true d)
      go Done d h = h

  -- what is read is written
  pub conditions_written : (s : Conditions C) (end : ℕ) → read_section (condition_section k.taken) text (no_conditions k.everywhere) a ≡ Ok (s, end) → ConditionsAt k text a s.condition end
  conditions_written s end e =
      let r = kept_through (condition_section k.taken) text Inv (λ s at t from to s' h st v g. keeps s.stage s.count s.word s.place s.sign s.condition at t from to s' h st g) (length text) (no_conditions k.everywhere) s a end (refl, refl, refl) e in
      over s end r.1 r.0

abbrev pub mk : {C : Type 0} → Stage → ℕ → List ℕ → ℕ → Relation → C → Conditions C
mk s n v q r c = record { stage = s; count = n; word = v; place = q; sign = r; condition = c }

module _ {C P : Type 0} (k : Sense C P) (text : List ℕ) (a : ℕ) (goal : Result (Conditions C × ℕ) Refusal) where
  abbrev At : Stage → ℕ → List ℕ → ℕ → Relation → C → ℕ → Type 0
  At s n v q r c at = Sofar (condition_section k.taken) text (mk s n v q r c) at goal

  record Reached (s : Stage) (n : ℕ) (c : C) (to : ℕ) : Type 0 where
    pub word : List ℕ
    pub place : ℕ
    pub sign : Relation
    pub sofar : At s n word place sign c to

  sign_run : (g : Sign) (d : Relation) (n : ℕ) (v : List ℕ) (q : ℕ) (r : Relation) (c : C) {at to : ℕ} → Comparing g d → At AtSign n v q r c at → SignNext text at g to → At AtValue n v q d c to
  sign_run g d n v q r c same h x = by (mk AtValue n v q Equal c) h refl refl x.1 refl
  sign_run g d n v q r c differs h x = by (mk AtValue n v q NotEqual c) h refl refl x.1 refl
  sign_run g d n v q r c at_least h x = by (mk AtValue n v q AtLeast c) h refl refl x.1 refl
  sign_run g d n v q r c at_most h x = by (mk AtValue n v q AtMost c) h refl refl x.1 refl

  tail_run : (n q : ℕ) (r : Relation) {c d : C} {at to : ℕ} → (x : ComparisonAt k text at c d to) → At AtSign n x.called q r c x.after_word → Reached After n d to
  tail_run n q r {c = c} {d = d} x h =
      let compared = sign_run x.by x.relation n x.called q r c x.related h x.compares in
      record {
        word = x.called;
        place = q;
        sign = x.relation;
        sofar = by (mk After n x.called q x.relation d) compared refl refl x.valued.1 (ap (onward (λ z. state After n x.called q x.relation z)) (offers k.taken c d x.called x.relation x.worth q x.valued.0 x.short x.taken));
      }

  comparisons_run : {n : ℕ} {c : C} {to : ℕ} → At Open 0 [] 0 Equal k.everywhere a → ComparisonsAt k text a n c to → Reached After n c to
  comparisons_run h (one o x) =
      let inside = by (mk First 0 [] 0 Equal k.everywhere) h refl refl o.1 refl in
      let worded = by (mk AtSign 1 x.called x.word.0 Equal k.everywhere) inside refl refl x.word.1 (ap (onward (λ m. state AtSign m x.called x.word.0 Equal k.everywhere)) (begins 0 x.called x.word.0 x.proper (omega arith))) in
      tail_run 1 x.word.0 Equal x worded
  comparisons_run h (also {n = n} {c = c} xs o lt x) =
      let r = comparisons_run h xs in
      let after = by (mk AtNext n r.word r.place r.sign c) r.sofar refl refl o.1 refl in
      let worded = by (mk AtSign (n + 1) x.called x.word.0 r.sign c) after refl refl x.word.1 (ap (onward (λ m. state AtSign m x.called x.word.0 r.sign c)) (begins n x.called x.word.0 x.proper lt)) in
      tail_run (n + 1) x.word.0 r.sign x worded

  record Last (c : C) (to : ℕ) : Type 0 where
    pub count : ℕ
    pub reached : Reached Done count c to

  conditions_run : {c : C} {to : ℕ} → At Open 0 [] 0 Equal k.everywhere a → ConditionsAt k text a c to → Last c to
  conditions_run h (any o x z) =
      let inside = by (mk First 0 [] 0 Equal k.everywhere) h refl refl o.1 refl in
      let starred = by (mk Close 0 [] 0 Equal k.everywhere) inside refl refl x.1 refl in
      record { count = 0; reached = record { word = []; place = 0; sign = Equal; sofar = by (mk Done 0 [] 0 Equal k.everywhere) starred refl refl z.1 refl } }
  conditions_run h (some {n = n} {c = c} xs z) =
      let r = comparisons_run h xs in
      record { count = n; reached = record { word = r.word; place = r.place; sign = r.sign; sofar = by (mk Done n r.word r.place r.sign c) r.sofar refl refl z.1 refl } }

module _ {C P : Type 0} (k : Sense C P) (text : List ℕ) where
  -- what is written is read
  pub record ConditionsRead (a : ℕ) (c : C) (to : ℕ) : Type 0 where
    pub last : Conditions C
    pub condition : last.condition ≡ c
    pub read : read_section (condition_section k.taken) text (no_conditions k.everywhere) a ≡ Ok (last, to)

  pub conditions_read : (a : ℕ) {c : C} {to : ℕ} → ConditionsAt k text a c to → ConditionsRead a c to
  conditions_read a {c = c} w =
      let goal = read_section (condition_section k.taken) text (no_conditions k.everywhere) a in
      let h : Sofar (condition_section k.taken) text (no_conditions k.everywhere) a goal = record { fuel = length text; enough = omega arith; same = refl } in
      let r = conditions_run k text a goal h w in
      let x = r.reached in
      record { last = mk Done r.count x.word x.place x.sign c; condition = refl; read = sym (ended x.sofar refl) }
