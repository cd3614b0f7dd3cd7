-- A field is refused for the smallest cause that applies to it.
use Rattle.std.proofs.Common.{◌≡◌, ℕ, ◌<◌, ◌≤◌, true, false, eqb, ltb, ◌⊎◌, List, length, get_or, drop, is_some, Some, None, Ok, Err, Option, Result, refl, ap, ◌∙◌, inl, inr, ⊎_elim, arith}
use Rattle.std.proofs.lemmas.Bool.{ltb-true, ltb-false, eqb-true, eqb-false, cases_eq, both_ways, cond_both}
use Rattle.fixed.specs.declared.roster.NameFault.{NameFault}
use Rattle.fixed.specs.Rosters.{known, enrol}
use Rattle.fixed.specs.Spelling.{is_name}
use Rattle.site.specs.declared.parts.Reading.{Reading}
use Rattle.site.specs.declared.refusals.Cause.{Cause}
use Rattle.site.specs.declared.refusals.Cause.TheVariants.{UnknownTag}
use Rattle.site.specs.declared.refusals.Refusal.{Refusal}
use Rattle.site.specs.Plans.{Plan}
use Rattle.site.specs.Fields.{Field, adding, seating, setting, ranking, fitting, reading_of, declare, declare_link, declare_reading, with_nodes, with_classes}
use Rattle.site.specs.Maps.{span, front, placed, one_field}
use Rattle.site.specs.Faults.{DeclaresName, a_node, a_class, a_user, Applies, ends_in_head, ends_in_body, no_such_tag, misspelled, named_before, no_room_for_name, no_room_for_link, unfit_link, rank_zero, second_reading, no_reading, Told}
use Rattle.site.specs.Refusals.{number, raised}

-- what an answer to the field at the front says, once the field is whole
abbrev SaysWhy : Plan → List ℕ → Result Plan Cause → Type 0
SaysWhy s bs (Ok t) = Unit {0}
SaysWhy s bs (Err c) = Told s bs c

-- a field declares a name in one table at most
same_name : (s : Plan) (f : Field) (room room' : ℕ) (xs xs' : List (List ℕ)) (n n' : List ℕ) → DeclaresName s f room xs n → DeclaresName s f room' xs' n' → (room ≡ room') × (xs ≡ xs') × (n ≡ n')
same_name s f _ _ _ _ _ _ (a_node p) (a_node q) = (refl, refl, refl)
same_name s f _ _ _ _ _ _ (a_node p) (a_class q) = absurd (omega arith)
same_name s f _ _ _ _ _ _ (a_node p) (a_user q) = absurd (omega arith)
same_name s f _ _ _ _ _ _ (a_class p) (a_node q) = absurd (omega arith)
same_name s f _ _ _ _ _ _ (a_class p) (a_class q) = (refl, refl, refl)
same_name s f _ _ _ _ _ _ (a_class p) (a_user q) = absurd (omega arith)
same_name s f _ _ _ _ _ _ (a_user p) (a_node q) = absurd (omega arith)
same_name s f _ _ _ _ _ _ (a_user p) (a_class q) = absurd (omega arith)
same_name s f _ _ _ _ _ _ (a_user p) (a_user q) = (refl, refl, refl)

-- the tag of such a field
name_tag : (s : Plan) (f : Field) (room : ℕ) (xs : List (List ℕ)) (n : List ℕ) → DeclaresName s f room xs n → (1 ≤ f.tag) × (f.tag ≤ 4) × (f.tag ≡ 2 → ⊥)
name_tag s f _ _ _ (a_node p) = (omega arith, omega arith, λ q. omega arith)
name_tag s f _ _ _ (a_class p) = (omega arith, omega arith, λ q. omega arith)
name_tag s f _ _ _ (a_user p) = (omega arith, omega arith, λ q. omega arith)

module _ (s : Plan) (bs : List ℕ) (three : 3 ≤ length bs) (all : span bs ≤ length bs) (k : ℕ) where
  -- at a field of a name, no cause has a number below k
  module _ (room : ℕ) (xs : List (List ℕ)) (n : List ℕ) (at : DeclaresName s (front bs) room xs n) (spelt : is_name n ≡ false → k ≤ 3) (new : known n xs ≡ true → k ≤ 4) (fits : room ≤ length xs → k ≤ 5) (most : k ≤ 8) where
    name_bound : {d : Cause} → Applies s bs d → k ≤ number d
    name_bound (ends_in_head l) = absurd (omega arith)
    name_bound (ends_in_body l) = absurd (omega arith)
    name_bound (no_such_tag t) = let g = name_tag s (front bs) room xs n at in absurd (⊎_elim (λ z. omega (arith, g.0)) (λ z. omega (arith, g.1)) t)
    name_bound (misspelled room' xs' n' q e) = spelt (let h = same_name s (front bs) room room' xs xs' n n' at q in ap is_name h.2 ∙ e)
    name_bound (named_before room' xs' n' q e) = new (let h = same_name s (front bs) room room' xs xs' n n' at q in ap (λ x. known x xs) h.2 ∙ ap (known n') h.1 ∙ e)
    name_bound (no_room_for_name room' xs' n' q e) = fits (let h = same_name s (front bs) room room' xs xs' n n' at q in let l = ap length h.1 in omega (arith, h.0))
    name_bound (no_room_for_link t e) = absurd ((name_tag s (front bs) room xs n at).2 t)
    name_bound (unfit_link t e) = absurd ((name_tag s (front bs) room xs n at).2 t)
    name_bound (rank_zero t e) = most
    name_bound (second_reading t e) = most
    name_bound (no_reading t e) = most

  -- at a field of a link
  module _ (at : (front bs).tag ≡ 2) (fits : 64 ≤ length s.links → k ≤ 5) (fit : fitting s (front bs).body ≡ false → k ≤ 6) where
    link_bound : {d : Cause} → Applies s bs d → k ≤ number d
    link_bound (ends_in_head l) = absurd (omega arith)
    link_bound (ends_in_body l) = absurd (omega arith)
    link_bound (no_such_tag t) = absurd (⊎_elim (λ z. omega arith) (λ z. omega arith) t)
    link_bound (misspelled room xs n q e) = absurd ((name_tag s (front bs) room xs n q).2 at)
    link_bound (named_before room xs n q e) = absurd ((name_tag s (front bs) room xs n q).2 at)
    link_bound (no_room_for_name room xs n q e) = absurd ((name_tag s (front bs) room xs n q).2 at)
    link_bound (no_room_for_link t e) = fits e
    link_bound (unfit_link t e) = fit e
    link_bound (rank_zero t e) = absurd (omega arith)
    link_bound (second_reading t e) = absurd (omega arith)
    link_bound (no_reading t e) = absurd (omega arith)

  -- at a field of a reading, and at one of no kind
  module _ (past : 4 < (front bs).tag ⊎ ((front bs).tag ≡ 0)) where
    not_name : {room : ℕ} {xs : List (List ℕ)} {n : List ℕ} → DeclaresName s (front bs) room xs n → ⊥
    not_name {room} {xs} {n} q = let g = name_tag s (front bs) room xs n q in ⊎_elim (λ z. omega (arith, g.1)) (λ z. omega (arith, g.0)) past

    not_link : (front bs).tag ≡ 2 → ⊥
    not_link t = ⊎_elim (λ z. omega arith) (λ z. omega arith) past

    other_bound : (((front bs).tag ≡ 0) ⊎ (5 < (front bs).tag) → k ≤ 2) → k ≤ 8 → {d : Cause} → Applies s bs d → k ≤ number d
    other_bound tag most (ends_in_head l) = absurd (omega arith)
    other_bound tag most (ends_in_body l) = absurd (omega arith)
    other_bound tag most (no_such_tag t) = tag t
    other_bound tag most (misspelled room xs n q e) = absurd (not_name q)
    other_bound tag most (named_before room xs n q e) = absurd (not_name q)
    other_bound tag most (no_room_for_name room xs n q e) = absurd (not_name q)
    other_bound tag most (no_room_for_link t e) = absurd (not_link t)
    other_bound tag most (unfit_link t e) = absurd (not_link t)
    other_bound tag most (rank_zero t e) = most
    other_bound tag most (second_reading t e) = most
    other_bound tag most (no_reading t e) = most

module _ (s : Plan) (bs : List ℕ) (three : 3 ≤ length bs) (all : span bs ≤ length bs) where
  -- a name that is refused, by what its table says
  module _ (room : ℕ) (xs : List (List ℕ)) (n : List ℕ) (at : DeclaresName s (front bs) room xs n) where
    abbrev Why : Result (List (List ℕ)) NameFault → Type 0
    Why (Ok ys) = (is_name n ≡ true) × (known n xs ≡ false) × (length xs < room)
    Why (Err e) = Told s bs (raised e)

    why_name : Why (enrol room xs n)
    why_name =
        cond_both (is_name n) _ _ Why
        (λ good. cond_both (known n xs) _ _ Why
        (λ old. record { applies = named_before room xs n at old; smallest = λ d a. name_bound s bs three all 4 room xs n at (λ e. absurd (both_ways _ e good)) (λ _. omega arith) (λ _. omega arith) (omega arith) a })
        (λ new. cond_both (ltb (length xs) room) _ _ Why
        (λ lt. (good, new, ltb-true _ _ lt))
        (λ ge. record { applies = no_room_for_name room xs n at (ltb-false _ _ ge); smallest = λ d a. name_bound s bs three all 5 room xs n at (λ e. absurd (both_ways _ e good)) (λ e. absurd (both_ways _ new e)) (λ _. omega arith) (omega arith) a })))
        (λ bad. record { applies = misspelled room xs n at bad; smallest = λ d a. name_bound s bs three all 3 room xs n at (λ _. omega arith) (λ _. omega arith) (λ _. omega arith) (omega arith) a })

    why_added : (into : List (List ℕ) → Plan) (r : Result (List (List ℕ)) NameFault) → Why r → SaysWhy s bs (adding into r)
    why_added into (Ok ys) w = tt
    why_added into (Err e) w = w

    why_ranked : (front bs).tag ≡ 4 → (rs : List ℕ) (r : Result (List (List ℕ)) NameFault) → Why r → SaysWhy s bs (seating s (ranking rs (get_or (front bs).body 0 0) r))
    why_ranked t rs (Ok ys) w =
        cond_both (eqb (get_or (front bs).body 0 0) 0) _ _ (λ x. SaysWhy s bs (seating s x))
        (λ z. record { applies = rank_zero t (eqb-true _ _ z); smallest = λ d a. name_bound s bs three all 8 room xs n at (λ e. absurd (both_ways _ e w.0)) (λ e. absurd (both_ways _ w.1 e)) (λ g. let l = w.2 in absurd (omega arith)) (omega arith) a })
        (λ _. tt)
    why_ranked t rs (Err e) w = w

  why_link : (front bs).tag ≡ 2 → SaysWhy s bs (declare_link s (front bs).body)
  why_link t =
      cond_both (ltb (length s.links) 64) _ _ (SaysWhy s bs)
      (λ lt. cond_both (fitting s (front bs).body) _ _ (SaysWhy s bs) (λ _. tt)
      (λ bad. record { applies = unfit_link t bad; smallest = λ d a. link_bound s bs three all 6 t (λ g. let l = ltb-true _ _ lt in absurd (omega arith)) (λ _. omega arith) a }))
      (λ ge. record { applies = no_room_for_link t (ltb-false _ _ ge); smallest = λ d a. link_bound s bs three all 5 t (λ _. omega arith) (λ _. omega arith) a })

  why_setting : (front bs).tag ≡ 5 → (o : Option Reading) → reading_of (front bs).body ≡ o → SaysWhy s bs (setting s o)
  why_setting t (Some r) e = tt
  why_setting t None e = record { applies = no_reading t e; smallest = λ d a. other_bound s bs three all 8 (inl (omega arith)) (λ u. absurd (⊎_elim (λ z. omega arith) (λ z. omega arith) u)) (omega arith) a }

  why_reading : (front bs).tag ≡ 5 → SaysWhy s bs (declare_reading s (front bs).body)
  why_reading t =
      cond_both (is_some s.reading) _ _ (SaysWhy s bs)
      (λ set. record { applies = second_reading t set; smallest = λ d a. other_bound s bs three all 8 (inl (omega arith)) (λ u. absurd (⊎_elim (λ z. omega arith) (λ z. omega arith) u)) (omega arith) a })
      (λ _. why_setting t (reading_of (front bs).body) refl)

  no_tag : (t : ℕ) → (t ≡ 1 → ⊥) → (t ≡ 2 → ⊥) → (t ≡ 3 → ⊥) → (t ≡ 4 → ⊥) → (t ≡ 5 → ⊥) → (t ≡ 0) ⊎ (5 < t)
  no_tag t a b c d e = ⊎_elim inl (λ z. inr (omega (arith, a, b, c, d, e, z))) (cases_eq t 0)

  why_unknown : ((front bs).tag ≡ 0) ⊎ (5 < (front bs).tag) → Told s bs UnknownTag
  why_unknown t = record { applies = no_such_tag t; smallest = λ d a. other_bound s bs three all 2 (⊎_elim (λ z. inr z) (λ g. inl (omega arith)) t) (λ _. omega arith) (omega arith) a }

  pub why : SaysWhy s bs (declare s (front bs))
  why =
      cond_both (eqb (front bs).tag 1) _ _ (SaysWhy s bs)
      (λ e. let at = a_node (eqb-true _ _ e) in why_added 48 s.nodes (front bs).body at (with_nodes s) (enrol 48 s.nodes (front bs).body) (why_name 48 s.nodes (front bs).body at))
      (λ n₁. cond_both (eqb (front bs).tag 2) _ _ (SaysWhy s bs) (λ e. why_link (eqb-true _ _ e))
      (λ n₂. cond_both (eqb (front bs).tag 3) _ _ (SaysWhy s bs)
      (λ e. let at = a_class (eqb-true _ _ e) in why_added 32 s.classes (front bs).body at (with_classes s) (enrol 32 s.classes (front bs).body) (why_name 32 s.classes (front bs).body at))
      (λ n₃. cond_both (eqb (front bs).tag 4) _ _ (SaysWhy s bs)
      (λ e. let at = a_user (eqb-true _ _ e) in why_ranked 16 s.users (drop 1 (front bs).body) at (eqb-true _ _ e) s.ranks (enrol 16 s.users (drop 1 (front bs).body)) (why_name 16 s.users (drop 1 (front bs).body) at))
      (λ n₄. cond_both (eqb (front bs).tag 5) _ _ (SaysWhy s bs) (λ e. why_reading (eqb-true _ _ e))
      (λ n₅. why_unknown (no_tag (front bs).tag (eqb-false _ _ n₁) (eqb-false _ _ n₂) (eqb-false _ _ n₃) (eqb-false _ _ n₄) (eqb-false _ _ n₅)))))))

-- a field that ends too early is refused for that
first_number : (s : Plan) (bs : List ℕ) {d : Cause} → Applies s bs d → 1 ≤ number d
first_number s bs (ends_in_head l) = omega arith
first_number s bs (ends_in_body l) = omega arith
first_number s bs (no_such_tag t) = omega arith
first_number s bs (misspelled room xs n q e) = omega arith
first_number s bs (named_before room xs n q e) = omega arith
first_number s bs (no_room_for_name room xs n q e) = omega arith
first_number s bs (no_room_for_link t e) = omega arith
first_number s bs (unfit_link t e) = omega arith
first_number s bs (rank_zero t e) = omega arith
first_number s bs (second_reading t e) = omega arith
first_number s bs (no_reading t e) = omega arith

-- what the answer to the field at p says
abbrev pub FieldWhy : ℕ → Plan → List ℕ → Result Plan Refusal → Type 0
FieldWhy p s bs (Ok t) = Unit {0}
FieldWhy p s bs (Err e) = (e.place ≡ p) × Told s bs e.cause

placed_why : (p : ℕ) (s : Plan) (bs : List ℕ) (r : Result Plan Cause) → SaysWhy s bs r → FieldWhy p s bs (placed p r)
placed_why p s bs (Ok t) w = tt
placed_why p s bs (Err c) w = (refl, w)

pub field_why : (p : ℕ) (s : Plan) (bs : List ℕ) → FieldWhy p s bs (one_field p s bs)
field_why p s bs =
    cond_both (ltb (length bs) 3) _ _ (FieldWhy p s bs)
    (λ lt. (refl, record { applies = ends_in_head (ltb-true _ _ lt); smallest = λ d a. first_number s bs a }))
    (λ three. cond_both (ltb (length bs) (span bs)) _ _ (FieldWhy p s bs)
    (λ lt. (refl, record { applies = ends_in_body (ltb-true _ _ lt); smallest = λ d a. first_number s bs a }))
    (λ all. placed_why p s bs (declare s (front bs)) (why s bs (ltb-false _ _ three) (ltb-false _ _ all))))
