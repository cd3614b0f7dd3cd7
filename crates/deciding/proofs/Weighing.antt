-- A tally of the rules heard so far.
use Rattle.std.proofs.Common.{◌≡◌, ℕ, ◌<◌, ◌≤◌, Bool, true, false, ◌&&◌, ◌||◌, ltb, ◌⊎◌, List, [], ◌∷◌, ◌++◌, map, Some, None, Option, sym, refl, ap, ◌∙◌, subst, inl, inr, ⊎_elim, arith}
use mathlib.Core.List.{map-append}
use Rattle.std.proofs.lemmas.Bool.{true≢false, false≢true, cases_Bool, and_parts, and_from, cond-true, cond-false, or_cases, or_parts, ltb-true, ltb-false}
use Rattle.kind.specs.Sense.{Sense}
use Rattle.site.specs.Plans.{Plan}
use Rattle.paths.specs.declared.ports.Port.{Port}
use Rattle.rules.specs.declared.rule.Rule.{Rule}
use Rattle.rules.specs.declared.verdict.Saying.{Saying}
use Rattle.rules.specs.declared.verdict.Saying.TheVariants.{Permit, Deny, Silent}
use Rattle.rules.specs.Rules.{Ruling, rule_of}
use Rattle.deciding.specs.declared.settling.Hearing.{Hearing}
use Rattle.deciding.specs.declared.settling.Said.{Said}
use Rattle.deciding.specs.declared.settling.Said.TheVariants as said
use Rattle.deciding.specs.Deciding.{Speaks, Voice, Decides}
use Rattle.pairs.specs.Disagreement.{touches, saying}
use Rattle.pairs.specs.Lists.{Has, here}
use Rattle.deciding.specs.Tallies.{heard, both, joined, with, counted, by_said, verdict}
use Rattle.pairs.proofs.Having.{has_cases, has_left, has_right, has_none, has_one}

permit_silent : Permit ≡ Silent → ⊥
permit_silent e = cc

deny_silent : Deny ≡ Silent → ⊥
deny_silent e = cc

permit_deny : Permit ≡ Deny → ⊥
permit_deny e = cc

-- whether a permit was said, and whether a deny
abbrev permits : Said → Bool
permits said.Permit = true
permits said.Deny = false
permits said.Both = true

abbrev denies : Said → Bool
denies said.Permit = false
denies said.Deny = true
denies said.Both = true

permits_both : (a b : Said) → permits a || permits b ≡ permits (both a b)
permits_both said.Permit said.Permit = refl
permits_both said.Permit said.Deny = refl
permits_both said.Permit said.Both = refl
permits_both said.Deny said.Permit = refl
permits_both said.Deny said.Deny = refl
permits_both said.Deny said.Both = refl
permits_both said.Both said.Permit = refl
permits_both said.Both said.Deny = refl
permits_both said.Both said.Both = refl

denies_both : (a b : Said) → denies a || denies b ≡ denies (both a b)
denies_both said.Permit said.Permit = refl
denies_both said.Permit said.Deny = refl
denies_both said.Permit said.Both = refl
denies_both said.Deny said.Permit = refl
denies_both said.Deny said.Deny = refl
denies_both said.Deny said.Both = refl
denies_both said.Both said.Permit = refl
denies_both said.Both said.Deny = refl
denies_both said.Both said.Both = refl

module _ {C P : Type 0} (site : Plan) (k : Sense C P) (port : Port) (class : ℕ) (point : P) where
  heard_is : (r : Ruling C) → Speaks site k port class point r → heard site k port class point r ≡ saying site r class
  heard_is r s = cond-true _ _ _ (and_from _ _ s.touch s.hold)

  hushed : (r : Ruling C) → heard site k port class point r ≡ Silent → Speaks site k port class point r → ⊥
  hushed r e s = s.word (sym (heard_is r s) ∙ e)

  loud : (r : Ruling C) (d : Saying) → heard site k port class point r ≡ d → (d ≡ Silent → ⊥) → Speaks site k port class point r × (saying site r class ≡ d)
  loud r d e ne = elim (cases_Bool (touches site r port && k.holds r.condition point)) [
    | inl t ↦ (let q : saying site r class ≡ d = sym (cond-true (touches site r port && k.holds r.condition point) (saying site r class) Silent t) ∙ e in
        (record { touch = (and_parts _ _ t).0; hold = (and_parts _ _ t).1; word = λ z. ne (sym q ∙ z) }, q))
    | inr f ↦ absurd (ne (sym e ∙ cond-false (touches site r port && k.holds r.condition point) (saying site r class) Silent f))
  ]

  -- b tells whether some rule of this rank says d
  pub record Flag (seen : List (Ruling C)) (rank : ℕ) (d : Saying) (b : Bool) : Type 0 where
    pub some_one : b ≡ true → (r : Ruling C) × Has seen r × Speaks site k port class point r × (saying site r class ≡ d) × (r.rank ≡ rank)
    pub no_one : b ≡ false → (r : Ruling C) → Has seen r → Speaks site k port class point r → saying site r class ≡ d → r.rank ≡ rank → ⊥

  -- the smallest rank number of the rules that speak, and what is said at it
  pub record Weighed (seen : List (Ruling C)) (t : Hearing) : Type 0 where
    pub low : (r : Ruling C) → Has seen r → Speaks site k port class point r → t.rank ≤ r.rank
    pub found : (r : Ruling C) × Has seen r × Speaks site k port class point r × (r.rank ≡ t.rank)
    pub permitted : Flag seen t.rank Permit (permits t.said)
    pub denied : Flag seen t.rank Deny (denies t.said)

  -- so it is, or no rule speaks
  abbrev pub Tallied : List (Ruling C) → Option Hearing → Type 0
  Tallied seen None = (r : Ruling C) → Has seen r → Speaks site k port class point r → ⊥
  Tallied seen (Some t) = Weighed seen t

  pub tallied_none : Tallied [] None
  tallied_none = λ r h _. has_none h

  -- what is added does not speak, or at a larger rank number
  flag_kept : (xs new : List (Ruling C)) (t : Hearing) (d : Saying) (b : Bool) → ((x : Ruling C) → Has new x → Speaks site k port class point x → Has xs x ⊎ (t.rank < x.rank)) → ((x : Ruling C) → Has xs x → Has new x) → Flag xs t.rank d b → Flag new t.rank d b
  flag_kept xs new t d b back on f = record {
    some_one = λ e. (let q = f.some_one e in (q.0, on q.0 q.1, q.2, q.3, q.4));
    no_one = λ e r h s w same. elim (back r h s) [ inl q ↦ f.no_one e r q s w same | inr q ↦ omega arith ];
  }

  kept : (xs new : List (Ruling C)) (t : Hearing) → ((x : Ruling C) → Has new x → Speaks site k port class point x → Has xs x ⊎ (t.rank < x.rank)) → ((x : Ruling C) → Has xs x → Has new x) → Weighed xs t → Weighed new t
  kept xs new t back on f = record {
    low = λ r h s. elim (back r h s) [ inl q ↦ f.low r q s | inr q ↦ omega arith ];
    found = (let q = f.found in (q.0, on q.0 q.1, q.2, q.3));
    permitted = flag_kept xs new t Permit (permits t.said) back on f.permitted;
    denied = flag_kept xs new t Deny (denies t.said) back on f.denied;
  }

  flag_both : (xs ys : List (Ruling C)) (m n : ℕ) (d : Saying) (b c : Bool) → m ≡ n → Flag xs m d b → Flag ys n d c → Flag (xs ++ ys) m d (b || c)
  flag_both xs ys m n d b c e f g = record {
    some_one = λ t. elim (or_cases b c t) [
      | inl z ↦ (let q = f.some_one z in (q.0, has_left xs ys q.0 q.1, q.2, q.3, q.4))
      | inr z ↦ (let q = g.some_one z in (q.0, has_right xs ys q.0 q.1, q.2, q.3, q.4 ∙ sym e))
    ];
    no_one = λ t r h s w same. elim (has_cases xs ys r h) [
      | inl q ↦ f.no_one (or_parts b c t).0 r q s w same
      | inr q ↦ g.no_one (or_parts b c t).1 r q s w (same ∙ e)
    ];
  }

  join : (xs ys : List (Ruling C)) (t u : Hearing) → Weighed xs t → Weighed ys u → Weighed (xs ++ ys) (joined t u)
  join xs ys t u f g =
      elim (cases_Bool (ltb t.rank u.rank)) [
        | inl lt ↦ subst (λ z. Weighed (xs ++ ys) z) (sym (cond-true (ltb t.rank u.rank) t _ lt))
            (kept xs (xs ++ ys) t (λ x h s. ⊎_elim (λ q. inl q) (λ q. inr (omega (arith, ltb-true _ _ lt, g.low x q s))) (has_cases xs ys x h)) (λ x q. has_left xs ys x q) f)
        | inr ge ↦ subst (λ z. Weighed (xs ++ ys) z) (sym (cond-false (ltb t.rank u.rank) t _ ge)) (elim (cases_Bool (ltb u.rank t.rank)) [
          | inl gt ↦ subst (λ z. Weighed (xs ++ ys) z) (sym (cond-true (ltb u.rank t.rank) u _ gt))
              (kept ys (xs ++ ys) u (λ x h s. ⊎_elim (λ q. inr (omega (arith, ltb-true _ _ gt, f.low x q s))) (λ q. inl q) (has_cases xs ys x h)) (λ x q. has_right xs ys x q) g)
          | inr le ↦ subst (λ z. Weighed (xs ++ ys) z) (sym (cond-false (ltb u.rank t.rank) u _ le))
              (level (omega (arith, ltb-false _ _ ge, ltb-false _ _ le)))
        ])
      ]
    where
      level : t.rank ≡ u.rank → Weighed (xs ++ ys) (record { rank = t.rank; said = both t.said u.said })
      level e = record {
        low = λ r h s. ⊎_elim (λ q. f.low r q s) (λ q. subst (λ z. z ≤ r.rank) (sym e) (g.low r q s)) (has_cases xs ys r h);
        found = (let q = f.found in (q.0, has_left xs ys q.0 q.1, q.2, q.3));
        permitted = subst (λ b. Flag (xs ++ ys) t.rank Permit b) (permits_both t.said u.said) (flag_both xs ys t.rank u.rank Permit _ _ e f.permitted g.permitted);
        denied = subst (λ b. Flag (xs ++ ys) t.rank Deny b) (denies_both t.said u.said) (flag_both xs ys t.rank u.rank Deny _ _ e f.denied g.denied);
      }

  -- what was heard, if anything, and one rule that speaks
  joins : (xs : List (Ruling C)) (r : Ruling C) (t : Option Hearing) (u : Hearing) → Tallied xs t → Weighed (r ∷ []) u → Weighed (xs ++ r ∷ []) (with t u)
  joins xs r None u f g = kept (r ∷ []) (xs ++ r ∷ []) u (λ x h s. ⊎_elim (λ q. absurd (f x q s)) (λ q. inl q) (has_cases xs (r ∷ []) x h)) (λ x q. has_right xs (r ∷ []) x q) g
  joins xs r (Some t) u f g = join xs (r ∷ []) t u f g

  one_yes : (r : Ruling C) (d : Saying) → Speaks site k port class point r → saying site r class ≡ d → Flag (r ∷ []) r.rank d true
  one_yes r d s w = record { some_one = λ _. (r, here, s, w, refl); no_one = λ z. absurd (true≢false z) }

  one_not : (r : Ruling C) (d : Saying) → (saying site r class ≡ d → ⊥) → Flag (r ∷ []) r.rank d false
  one_not r d n = record { some_one = λ z. absurd (false≢true z); no_one = λ _ x h _ w _. n (ap (λ (y : Ruling C). saying site y class) (has_one h) ∙ w) }

  one_low : (r : Ruling C) (x : Ruling C) → Has (r ∷ []) x → r.rank ≤ x.rank
  one_low r x h = let e = ap (λ (y : Ruling C). y.rank) (has_one h) in omega (arith, e)

  pub counts : (xs : List (Ruling C)) (r : Ruling C) (t : Option Hearing) (d : Saying) → heard site k port class point r ≡ d → Tallied xs t → Tallied (xs ++ r ∷ []) (counted t r.rank d)
  counts xs r None Silent e f = λ x h s. ⊎_elim (λ q. f x q s) (λ q. hushed r e (subst (λ z. Speaks site k port class point z) (sym (has_one q)) s)) (has_cases xs (r ∷ []) x h)
  counts xs r (Some t) Silent e f = kept xs (xs ++ r ∷ []) t (λ x h s. ⊎_elim (λ q. inl q) (λ q. absurd (hushed r e (subst (λ z. Speaks site k port class point z) (sym (has_one q)) s))) (has_cases xs (r ∷ []) x h)) (λ x q. has_left xs (r ∷ []) x q) f
  counts xs r t Permit e f =
      let l = loud r Permit e permit_silent in
      joins xs r t _ f (record {
        low = λ x h _. one_low r x h;
        found = (r, here, l.0, refl);
        permitted = one_yes r Permit l.0 l.1;
        denied = one_not r Deny (λ z. permit_deny (sym l.1 ∙ z));
      })
  counts xs r t Deny e f =
      let l = loud r Deny e deny_silent in
      joins xs r t _ f (record {
        low = λ x h _. one_low r x h;
        found = (r, here, l.0, refl);
        permitted = one_not r Permit (λ z. permit_deny (sym z ∙ l.1));
        denied = one_yes r Deny l.0 l.1;
      })

  -- one rule more
  pub counts_more : (rs : List (Rule C)) (r : Rule C) (t : Option Hearing) → Tallied (map rule_of rs) t → Tallied (map rule_of (rs ++ r ∷ [])) (counted t r.rank (heard site k port class point (rule_of r)))
  counts_more rs r t f = subst (λ z. Tallied z (counted t r.rank (heard site k port class point (rule_of r)))) (sym (map-append rule_of rs (r ∷ []))) (counts (map rule_of rs) (rule_of r) t _ refl f)

  voice_yes : (rs : List (Ruling C)) (t : Hearing) (d : Saying) → Weighed rs t → Flag rs t.rank d true → Voice site k rs port class point d
  voice_yes rs t d f g = let q = g.some_one refl in record { r = q.0; stands = q.1; speaks = q.2; says = q.3; first = λ s h sp. omega (arith, q.4, f.low s h sp) }

  voice_not : (rs : List (Ruling C)) (t : Hearing) (d : Saying) → Weighed rs t → Flag rs t.rank d false → Voice site k rs port class point d → ⊥
  voice_not rs t d f g v = let q = f.found in g.no_one refl v.r v.stands v.speaks v.says (omega (arith, q.3, f.low v.r v.stands v.speaks, v.first q.0 q.1 q.2))

  voiced : (rs : List (Ruling C)) (t : Hearing) (d : Said) → Weighed rs t → Flag rs t.rank Permit (permits d) → Flag rs t.rank Deny (denies d) → Decides site k rs port class point (by_said d)
  voiced rs t said.Permit f a b = (voice_yes rs t Permit f a, voice_not rs t Deny f b)
  voiced rs t said.Deny f a b = (voice_not rs t Permit f a, voice_yes rs t Deny f b)
  voiced rs t said.Both f a b = (voice_yes rs t Permit f a, voice_yes rs t Deny f b)

  pub weighed : (rs : List (Ruling C)) (t : Option Hearing) → Tallied rs t → Decides site k rs port class point (verdict t)
  weighed rs None f = ((λ v. f v.r v.stands v.speaks), λ v. f v.r v.stands v.speaks)
  weighed rs (Some t) f = voiced rs t t.said f f.permitted f.denied
