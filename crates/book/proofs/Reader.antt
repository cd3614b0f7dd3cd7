-- What is known of a rule that was read on a sealed site: its ports are those that its own paths touch.
use Rattle.std.proofs.Common.{◌≡◌, ℕ, ◌+◌, ◌≤◌, true, ◌⊎◌, List, [], ◌∷◌, length, Ok, Err, Decides, Result, sym, refl, ap, ◌∙◌, subst, inl, inr, ⊎_elim, arith}
use lib.Bits.{bit_or}
use Rattle.std.proofs.lemmas.List.{length-map}
use Rattle.std.proofs.lemmas.Bool.{false≢true, and_parts, and_from, or_cases, or_left, or_right}
use Rattle.fixed.specs.Items.{items}
use Rattle.fixed.specs.Names.{spelling}
use Rattle.fixed.proofs.Held.{items_within}
use Rattle.kind.specs.Sense.{Sense}
use Rattle.site.specs.declared.refusals.Refusal.{Refusal}
use Rattle.site.specs.declared.sealed.Site.{Site}
use Rattle.site.specs.Plans.{Plan}
use Rattle.site.specs.Promises.{TwoEnded, Unrepeated, AllLinked}
use Rattle.site.specs.Sites.{plan}
use Rattle.paths.specs.declared.finding.Fault.{Fault}
use Rattle.paths.specs.declared.pattern.Item.{Item}
use Rattle.paths.specs.declared.ports.Port.{Port}
use Rattle.paths.specs.declared.ports.PortSet.{PortSet}
use Rattle.paths.specs.Found.{searched}
use Rattle.paths.specs.Paths.{Own, Touches, Judged}
use Rattle.paths.specs.Digits.{has}
use Rattle.paths.specs.PortSets.{is_port, number_of, holds}
use Rattle.paths.specs.Unions.{next}
use Rattle.paths.proofs.Bits.{has_or, has_none}
use Rattle.paths.proofs.Touching.{judged}
use Rattle.sections.specs.Actions.{no_action, action_section}
use Rattle.sections.specs.Conditions.{no_conditions, condition_section, condition_read}
use Rattle.sections.specs.Heads.{head_from}
use Rattle.sections.specs.Meeting.{onward, read_section}
use Rattle.sections.specs.Routes.{no_paths, path_section}
use Rattle.rules.specs.Rules.{Ruling, touched_by, placed_at, ports_for, ruled, after_action, after_condition, after_target_of, after_paths_of, after_head_of, start_of, read_rule}
use Rattle.sections.specs.Targets.{no_target, target_section}
use Rattle.book.specs.Drawing.{Touching}
use Rattle.pairs.specs.Lists.{Has, here, there}

-- what holds of the map of every sealed site
pub record Sealed (s : Plan) : Type 0 where
  pub small : length s.nodes ≤ 48
  pub two_ended : TwoEnded (length s.nodes) s.links
  pub unrepeated : Unrepeated s.links
  pub all_linked : AllLinked (length s.nodes) s.links

pub sealed : (site : Site) → Sealed (plan site)
sealed site = record {
  small = omega (arith, length-map (items site.draft.nodes.list) spelling, items_within site.draft.nodes.list);
  two_ended = site.two_ended;
  unrepeated = site.«unrepeated»;
  all_linked = site.all_linked;
}

ok_same : {A E : Type 0} {x y : A} → ◌≡◌ {A = Result A E} (Ok x) (Ok y) → x ≡ y
ok_same e = cc

no_way : {A E : Type 0} {x : A} {w : E} → ◌≡◌ {A = Result A E} (Err w) (Ok x) → ⊥
no_way e = cc

went_on : {A B : Type 0} (go : A → Result B Refusal) (m : Result A Refusal) (y : B) → onward go m ≡ Ok y → (x : A) × (m ≡ Ok x) × (go x ≡ Ok y)
went_on go (Ok x) y e = (x, refl, e)
went_on go (Err w) y e = absurd (no_way e)

placed_ok : (places : List ℕ) (m : Result PortSet (ℕ × Fault)) (t : PortSet) → placed_at places m ≡ Ok t → m ≡ Ok t
placed_ok places (Ok s) t e = ap (λ z. Ok z) (ok_same e)
placed_ok places (Err w) t e = absurd (no_way e)

-- the ports of a rule that was read are those that the search found
read_ports : {C P : Type 0} (s : Plan) (k : Sense C P) (text : List ℕ) (place end : ℕ) (r : Ruling C) → read_rule k s text place ≡ Ok (r, end) → touched_by s.links (length s.nodes) 0 (record { bits = 0 }) r.patterns ≡ Ok r.ports
read_ports {C} s k text place end r e =
    let h = went_on (after_head_of k s text) (head_from s text (start_of text place)) (r, end) e in
    let p = went_on (after_paths_of k s text h.0) (read_section (path_section s.nodes) text no_paths h.0.end) (r, end) h.2 in
    let t = went_on (after_target_of k s text h.0 p.0.0) (read_section (target_section s.classes) text no_target p.0.1) (r, end) p.2 in
    let c = went_on (after_condition s text h.0 p.0.0 t.0.0) (condition_read (read_section (condition_section k.taken) text (no_conditions k.everywhere) t.0.1)) (r, end) t.2 in
    let a = went_on (after_action s h.0 p.0.0 t.0.0 c.0.0) (read_section action_section text no_action c.0.1) (r, end) c.2 in
    let o = went_on (ruled h.0 p.0.0 t.0.0 c.0.0 a.0) (ports_for s p.0.0.patterns p.0.0.places) (r, end) a.2 in
    subst (λ (z : Ruling C × ℕ). touched_by s.links (length s.nodes) 0 (record { bits = 0 }) z.0.patterns ≡ Ok z.0.ports) (ok_same o.2) (placed_ok p.0.0.places _ o.0 o.1)

module _ (s : Plan) (fit : Sealed s) where
  -- a path for which one of the patterns stands touches the port
  record Met (ps : List (List Item)) (q : Port) : Type 0 where
    path : List ℕ
    pattern : List Item
    listed : Has ps pattern
    own : Own s.links (length s.nodes) pattern path
    touch : Touches s.links path q

  holds_or : (a b : PortSet) (q : Port) → holds s.links (record { bits = bit_or a.bits b.bits }) q ≡ true → (holds s.links a q ≡ true) ⊎ (holds s.links b q ≡ true)
  holds_or a b q h =
      let x = and_parts (is_port s.links q) (has (bit_or a.bits b.bits) (number_of s.links q)) h in
      ⊎_elim (λ y. inl (and_from _ _ x.0 y)) (λ y. inr (and_from _ _ x.0 y)) (or_cases _ _ (sym (has_or a.bits b.bits (number_of s.links q)) ∙ x.1))

  or_holds : (a b : PortSet) (q : Port) → (holds s.links a q ≡ true) ⊎ (holds s.links b q ≡ true) → holds s.links (record { bits = bit_or a.bits b.bits }) q ≡ true
  or_holds a b q (inl h) =
      let x = and_parts (is_port s.links q) (has a.bits (number_of s.links q)) h in
      and_from _ _ x.0 (has_or a.bits b.bits (number_of s.links q) ∙ or_left _ _ x.1)
  or_holds a b q (inr h) =
      let x = and_parts (is_port s.links q) (has b.bits (number_of s.links q)) h in
      and_from _ _ x.0 (has_or a.bits b.bits (number_of s.links q) ∙ or_right _ _ x.1)

  met_cases : (p : List Item) (ps : List (List Item)) (q : Port) → Met (p ∷ ps) q → ((path : List ℕ) × Own s.links (length s.nodes) p path × Touches s.links path q) ⊎ Met ps q
  met_cases p ps q m = by m.pattern m.listed m.own
    where
      by : (i : List Item) → Has (p ∷ ps) i → Own s.links (length s.nodes) i m.path → ((path : List ℕ) × Own s.links (length s.nodes) p path × Touches s.links path q) ⊎ Met ps q
      by i here o = inl (m.path, o, m.touch)
      by i (there h) o = inr (record { path = m.path; pattern = i; listed = h; own = o; touch = m.touch })

  abbrev HoldsJust : PortSet → List (List Item) → PortSet → Type 0
  HoldsJust from ps to = (q : Port) → Decides (holds s.links to q) ((holds s.links from q ≡ true) ⊎ Met ps q)

  holds_just : (ps : List (List Item)) (i : ℕ) (from to : PortSet) → touched_by s.links (length s.nodes) i from ps ≡ Ok to → HoldsJust from ps to
  holds_just [] i from to e q =
      let is : from ≡ to = ok_same e in (
        (λ h. inl (ap (λ z. holds s.links z q) is ∙ h)),
        (λ h. ⊎_elim (λ x. ap (λ z. holds s.links z q) (sym is) ∙ x) (λ m. absurd (elim m.listed [ ])) h),
      )
  holds_just (p ∷ ps) i from to e q = go (searched s.links (length s.nodes) p) (judged (length s.nodes) s.links fit.small fit.two_ended fit.unrepeated p fit.all_linked) (λ t. holds_just ps (i + 1) (record { bits = bit_or from.bits t.bits }) to) e q
    where
      go : (r : Result PortSet Fault) → Judged s.links (length s.nodes) p r
          → ((t : PortSet) → touched_by s.links (length s.nodes) (i + 1) (record { bits = bit_or from.bits t.bits }) ps ≡ Ok to → HoldsJust (record { bits = bit_or from.bits t.bits }) ps to)
          → next r i (λ t. touched_by s.links (length s.nodes) (i + 1) (record { bits = bit_or from.bits t.bits }) ps) ≡ Ok to → HoldsJust from (p ∷ ps) to
      go (Err f) j later e q = absurd (no_way e)
      go (Ok t) j later e q =
          let rest = later t e q in (
            (λ h. ⊎_elim
                (λ x. ⊎_elim (λ y. inl y) (λ y. (let m = (j.each q).0 y in inr (record { path = m.path; pattern = p; listed = here; own = m.own; touch = m.touches }))) (holds_or from t q x))
                (λ m. inr (record { path = m.path; pattern = m.pattern; listed = there m.listed; own = m.own; touch = m.touch }))
                (rest.0 h)),
            (λ h. rest.1 (⊎_elim
                (λ x. inl (or_holds from t q (inl x)))
                (λ m. ⊎_elim (λ y. inl (or_holds from t q (inr ((j.each q).1 (record { path = y.0; own = y.1; touches = y.2 }))))) (λ y. inr y) (met_cases p ps q m))
                h)),
          )

  pub read_touching : {C P : Type 0} (k : Sense C P) (text : List ℕ) (place end : ℕ) (r : Ruling C) → read_rule k s text place ≡ Ok (r, end) → Touching s r
  read_touching k text place end r e q =
      let just = holds_just r.patterns 0 (record { bits = 0 }) r.ports (read_ports s k text place end r e) q in (
        (λ h. ⊎_elim
            (λ x. absurd (false≢true (sym (has_none (number_of s.links q)) ∙ (and_parts (is_port s.links q) (has 0 (number_of s.links q)) x).1)))
            (λ m. (m.path, record { pattern = m.pattern; listed = m.listed; own = m.own; touch = m.touch }))
            (just.0 h)),
        (λ m. just.1 (inr (record { path = m.0; pattern = m.1.pattern; listed = m.1.listed; own = m.1.own; touch = m.1.touch }))),
      )
