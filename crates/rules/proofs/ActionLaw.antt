-- The section of the action is read exactly where it is written.
use Rattle.std.proofs.Common.{◌≡◌, ℕ, ◌≤◌, true, ltb, List, length, Ok, codes, Result, sym, refl, ap, ◌∙◌, subst, inl, inr, arith}
use mathlib.Core.Bool.{false≢true}
use Rattle.std.specs.List.{prefix_len}
use Rattle.std.specs.Str.{bytes_eq}
use Rattle.std.proofs.lemmas.Slice.Eq.{bytes_eq-Decides}
use Rattle.std.proofs.lemmas.List.Sums.{prefix_len-le-length}
use Rattle.std.proofs.lemmas.Bool.{ltb-false, le-ltb, cond-false}
use Rattle.kind.specs.Digits.{digit, decimal}
use Rattle.site.specs.declared.refusals.Refusal.{Refusal}
use Rattle.sections.specs.declared.action.Action.{Action}
use Rattle.sections.specs.declared.action.Action.TheVariants.{Permit, Deny, Priority}
use Rattle.words.specs.declared.signs.Sign.TheVariants as sign
use Rattle.sections.specs.Actions.{Stage, Open, AtAction, Becomes, Number, Close, Semicolon, Done, Actions, act, priority_of, meet_in, no_action, action_section, action_done}
use Rattle.rules.specs.Grammar.{SignNext, ActionAt, permit, deny, priority, ClosingAt}
use Rattle.sections.specs.Meeting.{read_section, onward}
use Rattle.words.specs.Tests.{is_sign, is_named}
use Rattle.words.specs.Writing.{Token, name, spelling, Stands, Next, kind}
use Rattle.words.specs.Writing.{sign as sign_token}
use Rattle.rules.proofs.Courses.{onward_ok, which, ok_same, by, kept_through}
use Rattle.sections.proofs.Folds.{Sofar, ended}
use Rattle.words.proofs.Telling.{as_sign, as_name}
use Rattle.words.proofs.Standing.{no_way}

-- what a number must be
record Numeral (bs : List ℕ) (n : ℕ) : Type 0 where
  pub digits : prefix_len digit bs ≡ length bs
  pub few : length bs ≤ 3
  pub small : decimal bs ≤ 255
  pub result : n ≡ decimal bs

numeral : (bs : List ℕ) (p n : ℕ) → priority_of bs p ≡ Ok n → Numeral bs n
numeral bs p n e = elim (which (ltb (prefix_len digit bs) (length bs)) _ _ n e) [
  | inl x ↦ absurd (no_way x.1)
  | inr x ↦ elim (which (ltb 3 (length bs)) _ _ n x.1) [
    | inl y ↦ absurd (no_way y.1)
    | inr y ↦ elim (which (ltb 255 (decimal bs)) _ _ n y.1) [
      | inl z ↦ absurd (no_way z.1)
      | inr z ↦ record { digits = omega (arith, ltb-false _ _ x.0, prefix_len-le-length digit bs); few = ltb-false _ _ y.0; small = ltb-false _ _ z.0; result = sym (ok_same z.1) }
    ]
  ]
]

counts : (bs : List ℕ) (p : ℕ) → prefix_len digit bs ≡ length bs → length bs ≤ 3 → decimal bs ≤ 255 → priority_of bs p ≡ Ok (decimal bs)
counts bs p a b c =
    cond-false _ _ _ (le-ltb (prefix_len digit bs) (length bs) (omega arith)) ∙ cond-false _ _ _ (le-ltb 3 (length bs) b) ∙ cond-false _ _ _ (le-ltb 255 (decimal bs) c)

module _ (text : List ℕ) (a : ℕ) where
  -- what stands from the section's start to a place, by the stage that is reached there
  abbrev So : Stage → Action → ℕ → ℕ → Type 0
  So Open c q at = at ≡ a
  So AtAction c q at = SignNext text a sign.Open at
  So Becomes c q at = (i : ℕ) × SignNext text a sign.Open i × Next text i (name (codes "priority")) at
  So Number c q at = (i : ℕ) × SignNext text a sign.Open i × ((p : ℕ) × Next text i (name (codes "priority")) p × SignNext text p sign.Becomes at)
  So Close c q at = (i : ℕ) × SignNext text a sign.Open i × ActionAt text i c at
  So Semicolon c q at = (i : ℕ) × SignNext text a sign.Open i × ((l : ℕ) × ActionAt text i c l × SignNext text l sign.Close at)
  So Done c q at = ClosingAt text a c q at

  abbrev Inv : Actions → ℕ → Type 0
  Inv s at = So s.stage s.action s.semicolon at

  land : {x s : Actions} (to : ℕ) → ◌≡◌ {A = Result Actions Refusal} (Ok x) (Ok s) → Inv x to → Inv s to
  land to e h = subst (λ s. Inv s to) (ok_same e) h

  keeps : (stage : Stage) (c : Action) (q at : ℕ) (t : Token) (from to : ℕ) (s : Actions)
      → So stage c q at → Stands text at t from to → meet_in stage c q (kind t) (spelling t) from ≡ Ok s → Inv s to
  keeps Open c q at t from to s h st e = elim (which (is_sign (kind t) sign.Open) _ _ s e) [
    | inl x ↦ land to x.1 (from, subst (λ m. Stands text m (sign_token sign.Open) from to) h (as_sign st sign.Open x.0))
    | inr x ↦ absurd (no_way x.1)
  ]
  keeps AtAction c q at t from to s h st e = elim (which (is_named (kind t)) _ _ s e) [
    | inl x ↦ elim (which (bytes_eq (spelling t) (codes "permit")) _ _ s x.1) [
      | inl y ↦ land to y.1 (at, h, permit (spelt (codes "permit") y.0 (as_name st x.0)))
      | inr y ↦ elim (which (bytes_eq (spelling t) (codes "deny")) _ _ s y.1) [
        | inl z ↦ land to z.1 (at, h, deny (spelt (codes "deny") z.0 (as_name st x.0)))
        | inr z ↦ elim (which (bytes_eq (spelling t) (codes "priority")) _ _ s z.1) [
          | inl u ↦ land to u.1 (at, h, spelt (codes "priority") u.0 (as_name st x.0))
          | inr u ↦ absurd (no_way u.1)
        ]
      ]
    ]
    | inr x ↦ absurd (no_way x.1)
  ]
    where
      spelt : (w : List ℕ) → bytes_eq (spelling t) w ≡ true → Stands text at (name (spelling t)) from to → Next text at (name w) to
      spelt w g x = (from, subst (λ n. Stands text at (name n) from to) ((bytes_eq-Decides (spelling t) w).0 g) x)
  keeps Becomes c q at t from to s h st e = elim (which (is_sign (kind t) sign.Becomes) _ _ s e) [
    | inl x ↦ land to x.1 (h.0, h.1, (at, h.2, (from, as_sign st sign.Becomes x.0)))
    | inr x ↦ absurd (no_way x.1)
  ]
  keeps Number c q at t from to s h st e = elim (which (is_named (kind t)) _ _ s e) [
    | inl x ↦
        (let m = onward_ok (λ n. act Close (Priority n) q) s (priority_of (spelling t) from) x.1 in
        let w = numeral (spelling t) from m.0 m.1 in
        land to m.2 (h.0, h.1, subst (λ n. ActionAt text h.0 (Priority n) to) (sym w.result) (priority h.2.1 h.2.2 (from, as_name st x.0) w.digits w.few w.small)))
    | inr x ↦ absurd (no_way x.1)
  ]
  keeps Close c q at t from to s h st e = elim (which (is_sign (kind t) sign.Close) _ _ s e) [
    | inl x ↦ land to x.1 (h.0, h.1, (at, h.2, (from, as_sign st sign.Close x.0)))
    | inr x ↦ absurd (no_way x.1)
  ]
  keeps Semicolon c q at t from to s h st e = elim (which (is_sign (kind t) sign.Semicolon) _ _ s e) [
    | inl x ↦ land to x.1 (record { inner = h.0; last = h.2.0; outer = at; opens = h.1; action = h.2.1; closes = h.2.2; ends = as_sign st sign.Semicolon x.0 })
    | inr x ↦ absurd (no_way x.1)
  ]
  keeps Done c q at t from to s h st e = absurd (no_way e)

  over : (s : Actions) (end : ℕ) → action_done s.stage ≡ true → Inv s end → ClosingAt text a s.action s.semicolon end
  over s end d h = go s.stage d h
    where
      go : (stage : Stage) → action_done stage ≡ true → So stage s.action s.semicolon end → ClosingAt text a s.action s.semicolon end
      go Open d h = absurd (false≢true d)
      go AtAction d h = absurd (false≢true d)
      go Becomes d h = absurd (false≢true d)
      go Number d h = absurd (false≢true d)
      go Close d h = absurd (false≢true d)
      go Semicolon d h = absurd (false≢true d)
      go Done d h = h

  -- what is read is written
  pub action_written : (s : Actions) (end : ℕ) → read_section action_section text no_action a ≡ Ok (s, end) → ClosingAt text a s.action s.semicolon end
  action_written s end e =
      let r = kept_through action_section text Inv (λ s at t from to s' h st v g. keeps s.stage s.action s.semicolon at t from to s' h st g) (length text) no_action s a end refl e in
      over s end r.1 r.0

abbrev pub mk : Stage → Action → ℕ → Actions
mk s c q = record { stage = s; action = c; semicolon = q }

module _ (text : List ℕ) (goal : Result (Actions × ℕ) Refusal) where
  abbrev At : Stage → Action → ℕ → Type 0
  At s c at = Sofar action_section text (mk s c 0) at goal

  one_action_run : {at to : ℕ} {c : Action} → At AtAction Deny at → ActionAt text at c to → At Close c to
  one_action_run h (permit w) = by (mk Close Permit 0) h refl refl w.1 refl
  one_action_run h (deny w) = by (mk Close Deny 0) h refl refl w.1 refl
  one_action_run h (priority {ds = ds} w b n digits few small) =
      let named = by (mk Becomes Deny 0) h refl refl w.1 refl in
      let becomes = by (mk Number Deny 0) named refl refl b.1 refl in
      by (mk Close (Priority (decimal ds)) 0) becomes refl refl n.1 (ap (onward (λ m. act Close (Priority m) 0)) (counts ds n.0 digits few small))

  closing_run : {a to q : ℕ} {c : Action} → At Open Deny a → ClosingAt text a c q to → Sofar action_section text (mk Done c q) to goal
  closing_run {q = q} {c = c} h w =
      let inside = by (mk AtAction Deny 0) h refl refl w.opens.1 refl in
      let acted = one_action_run inside w.action in
      let closed = by (mk Semicolon c 0) acted refl refl w.closes.1 refl in
      by (mk Done c q) closed refl refl w.ends refl

-- what is written is read
pub action_read : (text : List ℕ) (a : ℕ) {c : Action} {q to : ℕ} → ClosingAt text a c q to → read_section action_section text no_action a ≡ Ok (mk Done c q, to)
action_read text a w =
    let goal = read_section action_section text no_action a in
    let h : Sofar action_section text no_action a goal = record { fuel = length text; enough = omega arith; same = refl } in
    sym (ended (closing_run text goal h w) refl)
