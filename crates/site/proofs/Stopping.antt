-- A refused map: its fields up to the place of the refusal, and the cause there.
use Rattle.std.proofs.Common.{◌≡◌, ℕ, zero, suc, ◌+◌, ◌<◌, ◌≤◌, false, eqb, List, [], ◌∷◌, ◌++◌, length, drop, Ok, Err, Result, sym, refl, ap, ◌∙◌, subst, ⊎_elim, arith, length-append, length-drop}
use Rattle.std.proofs.lemmas.List.{append_assoc, append-nil}
use Rattle.std.proofs.lemmas.Bool.{cases_Bool, eqb-false, cond_both}
use Rattle.std.specs.List.{flat_map as concat}
use Rattle.site.specs.declared.refusals.Cause.TheVariants.{Unsealable}
use Rattle.site.specs.declared.refusals.Refusal.{Refusal}
use Rattle.site.specs.Plans.{Plan}
use Rattle.site.specs.Fields.{Field}
use Rattle.site.specs.Maps.{blank, span, front, one_field, sealable, seal, onward, fields, read_map, encoded, Declares, none, next}
use Rattle.site.specs.Faults.{Told, a_field, the_seal, Refuses}
use Rattle.site.proofs.Encoding.{adds_short, respelled}
use Rattle.site.proofs.Faulting.{FieldWhy, field_why}
use Rattle.site.proofs.Saying.{Fronted, ToldField, field_told, Spelled, fields_told, ToldFields}

-- from s at p: fields that could be declared, and a field that is refused for e
record Stopped (s : Plan) (p : ℕ) (bs : List ℕ) (e : Refusal) : Type 0 where
  said : List Field
  rest : List ℕ
  t : Plan
  whole : bs ≡ concat encoded said ++ rest
  declares : Declares s said t
  at : e.place ≡ p + length (concat encoded said)
  some : 0 < length rest
  told : Told t rest e.cause

abbrev Stops : Plan → ℕ → List ℕ → Result Plan Refusal → Type 0
Stops s p bs (Ok t) = Unit {0}
Stops s p bs (Err e) = Stopped s p bs e

here : (s : Plan) (p : ℕ) (bs : List ℕ) (r : Result Plan Refusal) → 0 < length bs → FieldWhy p s bs r → Stops s p bs r
here s p bs (Ok t) some w = tt
here s p bs (Err e) some w = record { said = []; rest = bs; t = s; whole = refl; declares = none s; at = w.0 ∙ (omega arith); some = some; told = w.1 }

later : (s u : Plan) (p : ℕ) (bs : List ℕ) (r : Result Plan Refusal) → Fronted s bs u → Stops u (p + span bs) (drop (span bs) bs) r → Stops s p bs r
later s u p bs (Ok t) f h = tt
later s u p bs (Err e) f h =
    let spelt = respelled bs f.three f.all (adds_short f.adds) in
    let whole = sym spelt ∙ ap (λ l. encoded (front bs) ++ l) h.whole ∙ sym (append_assoc (encoded (front bs)) (concat encoded h.said) h.rest) in
    let long = ap length spelt in
    let parts = length-append (encoded (front bs)) (drop (span bs) bs) in
    let left = length-drop (span bs) bs in
    let both = length-append (encoded (front bs)) (concat encoded h.said) in
    let all = f.all in
    let place = h.at in
    record {
      said = front bs ∷ h.said;
      rest = h.rest;
      t = h.t;
      whole = whole;
      declares = next s u h.t (front bs) h.said f.adds h.declares;
      at = omega arith;
      some = h.some;
      told = h.told;
    }

onward_stops : (s : Plan) (p : ℕ) (bs : List ℕ) (go : Plan → Result Plan Refusal) (r : Result Plan Refusal) → 0 < length bs → ToldField p s bs r → FieldWhy p s bs r → ((u : Plan) → Fronted s bs u → Stops u (p + span bs) (drop (span bs) bs) (go u)) → Stops s p bs (onward go r)
onward_stops s p bs go (Ok u) some f w rest = later s u p bs (go u) f (rest u f)
onward_stops s p bs go (Err e) some f w rest = here s p bs (Err e) some w

fields_stop : (k p : ℕ) (s : Plan) (bs : List ℕ) → length bs ≤ k → Stops s p bs (fields k p s bs)
fields_stop zero p s bs le = tt
fields_stop (suc k) p s bs le =
    cond_both (eqb (length bs) 0) _ _ (Stops s p bs) (λ _. tt)
    (λ z. let ne = eqb-false (length bs) 0 z in
    onward_stops s p bs (λ t. fields k (p + span bs) t (drop (span bs) bs)) (one_field p s bs) (omega (arith, ne)) (field_told p s bs) (field_why p s bs)
    (λ u f. fields_stop k (p + span bs) u (drop (span bs) bs) (let left = length-drop (span bs) bs in let long = f.all in omega arith)))

seal_stops : (bs : List ℕ) (s : Plan) (e : Refusal) → Spelled blank bs s → seal (length bs) s ≡ Err e → Refuses bs e.cause e.place
seal_stops bs s e h q = ⊎_elim (λ y. absurd (never (rw y at q))) (λ n. sealed (rw n at q) n) (cases_Bool (sealable s))
  where
    never : ◌≡◌ {A = Result Plan Refusal} (Ok s) (Err e) → ⊥
    never x = let z : ◌≡◌ {A = ℕ} 0 1 = cc in omega arith

    sealed : ◌≡◌ {A = Result Plan Refusal} (Err (record { cause = Unsealable; place = length bs })) (Err e) → sealable s ≡ false → Refuses bs e.cause e.place
    sealed x n =
        let same : record { cause = Unsealable; place = length bs } ≡ e = cc in
        subst (λ (f : Refusal). Refuses bs f.cause f.place) same
        (record { said = h.said; rest = []; s = s; whole = h.spelled ∙ sym (append-nil (concat encoded h.said)); declares = h.declares; place = ap length h.spelled; why = the_seal refl n })

whole_stops : (bs : List ℕ) (e : Refusal) (r : Result Plan Refusal) → ToldFields blank bs r → Stops blank 0 bs r → onward (seal (length bs)) r ≡ Err e → Refuses bs e.cause e.place
whole_stops bs e (Ok s) h w q = seal_stops bs s e h q
whole_stops bs e (Err f) h w q =
    let same : f ≡ e = cc in
    let place = w.at in
    subst (λ (x : Refusal). Refuses bs x.cause x.place) same
    (record { said = w.said; rest = w.rest; s = w.t; whole = w.whole; declares = w.declares; place = omega arith; why = a_field f.cause w.some w.told })

pub read_refuses : (bs : List ℕ) (e : Refusal) → read_map bs ≡ Err e → Refuses bs e.cause e.place
read_refuses bs e = whole_stops bs e (fields (length bs) 0 blank bs) (fields_told (length bs) 0 blank bs (omega arith)) (fields_stop (length bs) 0 blank bs (omega arith))
