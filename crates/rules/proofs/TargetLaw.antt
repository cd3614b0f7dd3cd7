-- The section of the target is read exactly where it is written.
use Rattle.std.proofs.Common.{◌≡◌, ℕ, ◌<◌, true, ◌&&◌, ◌||◌, ltb, List, [], ◌∷◌, ◌++◌, length, Some, None, Ok, codes, Option, Result, sym, refl, ap, ◌∙◌, subst, inl, inr, arith}
use mathlib.Core.Bool.{false≢true}
use Rattle.std.specs.Str.{bytes_eq}
use Rattle.std.proofs.lemmas.Slice.Eq.{bytes_eq-Decides}
use Rattle.std.proofs.lemmas.Bool.{ltb-true, lt-ltb, and_parts, and_from, or_cases, cond-true}
use Rattle.fixed.specs.Rosters.{number_of}
use Rattle.fixed.specs.Spelling.{is_name}
use Rattle.site.specs.declared.refusals.Refusal.{Refusal}
use Rattle.sections.specs.declared.targets.Scope.{Scope}
use Rattle.sections.specs.declared.targets.Scope.TheVariants.{All, Only, AllBut}
use Rattle.sections.specs.declared.targets.Stage.{Stage}
use Rattle.sections.specs.declared.targets.Stage.TheVariants.{Open, First, Sign as AtSign, List as AtList, Class, After, Close, Done}
use Rattle.words.specs.declared.signs.Sign.{Sign}
use Rattle.words.specs.declared.signs.Sign.TheVariants as sign
use Rattle.rules.specs.Grammar.{SignNext, Scoping, same, equals, differs, ClassAt, ClassesAt, one, also, TargetAt, any, some}
use Rattle.sections.specs.Meeting.{read_section, onward}
use Rattle.words.specs.Tests.{is_sign, is_named}
use Rattle.sections.specs.Targets.{Targets, target, added_class, numbered, meet_in, no_target, target_section, target_done}
use Rattle.words.specs.Writing.{Token, name, spelling, Stands, Next, kind}
use Rattle.words.specs.Writing.{sign as sign_token}
use Rattle.rules.proofs.Courses.{onward_ok, which, ok_same, by, kept_through}
use Rattle.sections.proofs.Folds.{Sofar, ended}
use Rattle.words.proofs.Telling.{as_sign, as_name}
use Rattle.words.proofs.Standing.{no_way}

record ClassAdded (known : List (List ℕ)) (ns ms n : List ℕ) : Type 0 where
  pub number : ℕ
  pub proper : is_name n ≡ true
  pub declared : number_of n known ≡ Some number
  pub room : length ns < 16
  pub result : ms ≡ ns ++ number ∷ []

class_added : (known : List (List ℕ)) (ns ms n : List ℕ) (p : ℕ) → added_class known ns n p ≡ Ok ms → ClassAdded known ns ms n
class_added known ns ms n p e = elim (which (is_name n && ltb (length ns) 16) _ _ ms e) [
  | inl x ↦ (let b = and_parts _ _ x.0 in go (number_of n known) refl b.0 (ltb-true _ _ b.1) x.1)
  | inr x ↦ absurd (no_way x.1)
]
  where
    go : (o : Option ℕ) → number_of n known ≡ o → is_name n ≡ true → length ns < 16 → numbered ns p o ≡ Ok ms → ClassAdded known ns ms n
    go None f a b g = absurd (no_way g)
    go (Some k) f a b g = record { number = k; proper = a; declared = f; room = b; result = sym (ok_same g) }

class_adds : (known : List (List ℕ)) (ns n : List ℕ) (k p : ℕ) → is_name n ≡ true → number_of n known ≡ Some k → length ns < 16 → added_class known ns n p ≡ Ok (ns ++ k ∷ [])
class_adds known ns n k p a f h = cond-true _ _ _ (and_from _ _ a (lt-ltb _ _ h)) ∙ ap (numbered ns p) f

module _ (text : List ℕ) (known : List (List ℕ)) (a : ℕ) where
  -- what stands up to the list of classes
  record Listing (c : Scope) (at : ℕ) : Type 0 where
    pub by_sign : Sign
    pub inner : ℕ
    pub after_word : ℕ
    pub opens : SignNext text a sign.Open inner
    pub word : Next text inner (name (codes "traffic_class")) after_word
    pub scoped : SignNext text after_word by_sign at
    pub scoping : Scoping by_sign c

  -- what stands before a class
  data Before (c : Scope) : List ℕ → ℕ → Type 0 where
    first : {p at : ℕ} → Listing c p → SignNext text p sign.Open at → Before c [] at
    next : {ns : List ℕ} {p at : ℕ} → ClassesAt text known a c ns p → SignNext text p sign.Comma at → Before c ns at

  data Ending : Scope → List ℕ → ℕ → Type 0 where
    starred : {p at : ℕ} → SignNext text a sign.Open p → SignNext text p sign.Star at → Ending All [] at
    listed : {c : Scope} {ns : List ℕ} {p at : ℕ} → ClassesAt text known a c ns p → SignNext text p sign.Close at → Ending c ns at

  -- what stands from the section's start to a place, by the stage that is reached there
  abbrev So : Stage → Scope → List ℕ → ℕ → Type 0
  So Open c ns at = (at ≡ a) × (ns ≡ [])
  So First c ns at = SignNext text a sign.Open at × (ns ≡ [])
  So AtSign c ns at = ((p : ℕ) × SignNext text a sign.Open p × Next text p (name (codes "traffic_class")) at) × (ns ≡ [])
  So AtList c ns at = Listing c at × (ns ≡ [])
  So Class c ns at = Before c ns at
  So After c ns at = ClassesAt text known a c ns at
  So Close c ns at = Ending c ns at
  So Done c ns at = TargetAt text known a c ns at

  abbrev Inv : Targets → ℕ → Type 0
  Inv s at = So s.stage s.scope s.classes at

  land : {x s : Targets} (to : ℕ) → ◌≡◌ {A = Result Targets Refusal} (Ok x) (Ok s) → Inv x to → Inv s to
  land to e h = subst (λ s. Inv s to) (ok_same e) h

  class_in : {c : Scope} {ns ms : List ℕ} {k at to : ℕ} → Before c ns at → length ns < 16 → ms ≡ ns ++ k ∷ [] → ClassAt text known at k to → ClassesAt text known a c ms to
  class_in {c = c} {k = k} {to = to} (first l o) h e x = subst (λ z. ClassesAt text known a c z to) (sym e) (one l.opens l.word l.scoped l.scoping o x)
  class_in {c = c} {k = k} {to = to} (next xs o) h e x = subst (λ z. ClassesAt text known a c z to) (sym e) (also xs o h x)

  keeps : (stage : Stage) (c : Scope) (ns : List ℕ) (at : ℕ) (t : Token) (from to : ℕ) (s : Targets)
      → So stage c ns at → Stands text at t from to → meet_in known stage c ns (kind t) (spelling t) from ≡ Ok s → Inv s to
  keeps Open c ns at t from to s h st e = elim (which (is_sign (kind t) sign.Open) _ _ s e) [
    | inl x ↦ land to x.1 ((from, subst (λ n. Stands text n (sign_token sign.Open) from to) h.0 (as_sign st sign.Open x.0)), h.1)
    | inr x ↦ absurd (no_way x.1)
  ]
  keeps First c ns at t from to s h st e = elim (which (is_sign (kind t) sign.Star) _ _ s e) [
    | inl x ↦ land to x.1 (subst (λ z. Ending All z to) (sym h.1) (starred h.0 (from, as_sign st sign.Star x.0)))
    | inr x ↦ elim (which (is_named (kind t)) _ _ s x.1) [
      | inl y ↦ elim (which (bytes_eq (spelling t) (codes "traffic_class")) _ _ s y.1) [
        | inl z ↦ land to z.1 ((at, h.0, (from, subst (λ n. Stands text at (name n) from to) ((bytes_eq-Decides (spelling t) (codes "traffic_class")).0 z.0) (as_name st y.0))), h.1)
        | inr z ↦ absurd (no_way z.1)
      ]
      | inr y ↦ absurd (no_way y.1)
    ]
  ]
  keeps AtSign c ns at t from to s h st e = elim (which (is_sign (kind t) sign.Same || is_sign (kind t) sign.Equals) _ _ s e) [
    | inl x ↦ elim (or_cases (is_sign (kind t) sign.Same) (is_sign (kind t) sign.Equals) x.0) [
      | inl y ↦ land to x.1 (scope sign.Same Only same (as_sign st sign.Same y), h.1)
      | inr y ↦ land to x.1 (scope sign.Equals Only equals (as_sign st sign.Equals y), h.1)
    ]
    | inr x ↦ elim (which (is_sign (kind t) sign.Differs) _ _ s x.1) [
      | inl y ↦ land to y.1 (scope sign.Differs AllBut differs (as_sign st sign.Differs y.0), h.1)
      | inr y ↦ absurd (no_way y.1)
    ]
  ]
    where
      scope : (g : Sign) (d : Scope) → Scoping g d → Stands text at (sign_token g) from to → Listing d to
      scope g d sc x = record { by_sign = g; inner = h.0.0; after_word = at; opens = h.0.1; word = h.0.2; scoped = (from, x); scoping = sc }
  keeps AtList c ns at t from to s h st e = elim (which (is_sign (kind t) sign.Open) _ _ s e) [
    | inl x ↦ land to x.1 (subst (λ z. Before c z to) (sym h.1) (first h.0 (from, as_sign st sign.Open x.0)))
    | inr x ↦ absurd (no_way x.1)
  ]
  keeps Class c ns at t from to s h st e = elim (which (is_named (kind t)) _ _ s e) [
    | inl x ↦
        (let m = onward_ok (λ ms. target After c ms) s (added_class known ns (spelling t) from) x.1 in
        let w = class_added known ns m.0 (spelling t) from m.1 in
        land to m.2 (class_in h w.room w.result (record { called = spelling t; stands = (from, as_name st x.0); proper = w.proper; declared = w.declared })))
    | inr x ↦ absurd (no_way x.1)
  ]
  keeps After c ns at t from to s h st e = elim (which (is_sign (kind t) sign.Comma) _ _ s e) [
    | inl x ↦ land to x.1 (next h (from, as_sign st sign.Comma x.0))
    | inr x ↦ elim (which (is_sign (kind t) sign.Close) _ _ s x.1) [
      | inl y ↦ land to y.1 (listed h (from, as_sign st sign.Close y.0))
      | inr y ↦ absurd (no_way y.1)
    ]
  ]
  keeps Close c ns at t from to s h st e = elim (which (is_sign (kind t) sign.Close) _ _ s e) [
    | inl x ↦ land to x.1 (finish h (from, as_sign st sign.Close x.0))
    | inr x ↦ absurd (no_way x.1)
  ]
    where
      finish : {c : Scope} {ns : List ℕ} → Ending c ns at → SignNext text at sign.Close to → TargetAt text known a c ns to
      finish (starred o x) z = any o x z
      finish (listed xs y) z = some xs y z
  keeps Done c ns at t from to s h st e = absurd (no_way e)

  over : (s : Targets) (end : ℕ) → target_done s.stage ≡ true → Inv s end → TargetAt text known a s.scope s.classes end
  over s end d h = go s.stage d h
    where
      go : (stage : Stage) → target_done stage ≡ true → So stage s.scope s.classes end → TargetAt text known a s.scope s.classes end
      go Open d h = absurd (false≢true d)
      go First d h = absurd (false≢true d)
      go AtSign d h = absurd (false≢true d)
      go AtList d h = absurd (false≢true d)
      go Class d h = absurd (false≢true d)
      go After d h = absurd (false≢true d)
      go Close d h = absurd (false≢true d)
      go Done d h = h

  -- what is read is written
  pub target_written : (s : Targets) (end : ℕ) → read_section (target_section known) text no_target a ≡ Ok (s, end) → TargetAt text known a s.scope s.classes end
  target_written s end e =
      let r = kept_through (target_section known) text Inv (λ s at t from to s' h st v g. keeps s.stage s.scope s.classes at t from to s' h st g) (length text) no_target s a end (refl, refl) e in
      over s end r.1 r.0

abbrev pub mk : Stage → Scope → List ℕ → Targets
mk s c ns = record { stage = s; scope = c; classes = ns }

module _ (text : List ℕ) (known : List (List ℕ)) (a : ℕ) (goal : Result (Targets × ℕ) Refusal) where
  abbrev At : Stage → Scope → List ℕ → ℕ → Type 0
  At s c ns at = Sofar (target_section known) text (mk s c ns) at goal

  class_run : (c : Scope) (ns : List ℕ) {k at to : ℕ} → At Class c ns at → length ns < 16 → ClassAt text known at k to → At After c (ns ++ k ∷ []) to
  class_run c ns {k = k} h lt x =
      by (mk After c (ns ++ k ∷ [])) h refl refl x.stands.1 (ap (onward (λ ms. target After c ms)) (class_adds known ns x.called k x.stands.0 x.proper x.declared lt))

  scope_run : (s : Sign) (c d : Scope) {at to : ℕ} → Scoping s d → At AtSign c [] at → SignNext text at s to → At AtList d [] to
  scope_run s c d same h x = by (mk AtList Only []) h refl refl x.1 refl
  scope_run s c d equals h x = by (mk AtList Only []) h refl refl x.1 refl
  scope_run s c d differs h x = by (mk AtList AllBut []) h refl refl x.1 refl

  classes_run : {c : Scope} {ns : List ℕ} {to : ℕ} → At Open All [] a → ClassesAt text known a c ns to → At After c ns to
  classes_run h (one {c = c} {s = s} o w x sc l k) =
      let inside = by (mk First All []) h refl refl o.1 refl in
      let word = by (mk AtSign All []) inside refl refl w.1 refl in
      let listing = scope_run s All c sc word x in
      class_run c [] (by (mk Class c []) listing refl refl l.1 refl) (omega arith) k
  classes_run h (also {c = c} {ks = ks} xs o lt k) = class_run c ks (by (mk Class c ks) (classes_run h xs) refl refl o.1 refl) lt k

  target_run : {c : Scope} {ns : List ℕ} {to : ℕ} → At Open All [] a → TargetAt text known a c ns to → At Done c ns to
  target_run h (any o x z) =
      let inside = by (mk First All []) h refl refl o.1 refl in
      by (mk Done All []) (by (mk Close All []) inside refl refl x.1 refl) refl refl z.1 refl
  target_run h (some {c = c} {ks = ks} xs y z) = by (mk Done c ks) (by (mk Close c ks) (classes_run h xs) refl refl y.1 refl) refl refl z.1 refl

-- what is written is read
pub target_read : (text : List ℕ) (known : List (List ℕ)) (a : ℕ) {c : Scope} {ns : List ℕ} {to : ℕ} → TargetAt text known a c ns to → read_section (target_section known) text no_target a ≡ Ok (mk Done c ns, to)
target_read text known a w =
    let h : Sofar (target_section known) text no_target a (read_section (target_section known) text no_target a) = record { fuel = length text; enough = omega arith; same = refl } in
    sym (ended (target_run text known a (read_section (target_section known) text no_target a) h w) refl)
