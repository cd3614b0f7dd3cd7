-- Bytes are read as a plan exactly when they say it.
use Rattle.std.proofs.Common.{◌≡◌, ℕ, zero, suc, ◌+◌, ◌≤◌, true, false, eqb, ltb, List, [], ◌∷◌, ◌++◌, length, drop, Ok, Err, Result, sym, refl, ap, ◌∙◌, subst, ⊎_elim, arith, length-drop}
use Rattle.std.proofs.lemmas.List.{nil_from_length}
use Rattle.std.proofs.lemmas.Bool.{cases_Bool, eqb-true, ne_eqb, ltb-false, cond_both}
use Rattle.std.specs.List.{flat_map as concat}
use Rattle.site.specs.declared.refusals.Cause.{Cause}
use Rattle.site.specs.declared.refusals.Refusal.{Refusal}
use Rattle.site.specs.Plans.{Plan}
use Rattle.site.specs.Fields.{Field, declare, Adds}
use Rattle.site.specs.Maps.{blank, span, front, placed, one_field, sealable, seal, onward, fields, read_map, encoded, Declares, none, next, Says}
use Rattle.site.proofs.Adding.{adds_declare, declare_adds}
use Rattle.site.proofs.Encoding.{adds_short, encoded_length, encoded_front, encoded_rest, encoded_long, respelled}
use Rattle.site.proofs.Folds.{judged}

-- the bytes are fields that can be declared from s to t
pub record Spelled (s : Plan) (bs : List ℕ) (t : Plan) : Type 0 where
  pub said : List Field
  pub spelled : bs ≡ concat encoded said
  pub declares : Declares s said t

-- what a whole field at the front came to
pub record Fronted (s : Plan) (bs : List ℕ) (t : Plan) : Type 0 where
  pub three : 3 ≤ length bs
  pub all : span bs ≤ length bs
  pub adds : Adds s (front bs) t

abbrev pub ToldField : ℕ → Plan → List ℕ → Result Plan Refusal → Type 0
ToldField p s bs (Ok t) = Fronted s bs t
ToldField p s bs (Err e) = Unit {0}

placed_told : (p : ℕ) (s : Plan) (bs : List ℕ) (r : Result Plan Cause) → declare s (front bs) ≡ r → 3 ≤ length bs → span bs ≤ length bs → ToldField p s bs (placed p r)
placed_told p s bs (Ok t) e three all = record { three = three; all = all; adds = declare_adds s (front bs) t e }
placed_told p s bs (Err c) e three all = tt

pub field_told : (p : ℕ) (s : Plan) (bs : List ℕ) → ToldField p s bs (one_field p s bs)
field_told p s bs =
    cond_both (ltb (length bs) 3) _ _ (ToldField p s bs) (λ _. tt)
    (λ long. cond_both (ltb (length bs) (span bs)) _ _ (ToldField p s bs) (λ _. tt)
    (λ all. placed_told p s bs (declare s (front bs)) refl (ltb-false _ _ long) (ltb-false _ _ all)))

abbrev pub ToldFields : Plan → List ℕ → Result Plan Refusal → Type 0
ToldFields s bs (Ok t) = Spelled s bs t
ToldFields s bs (Err e) = Unit {0}

no_bytes : (s : Plan) (bs : List ℕ) → length bs ≡ 0 → Spelled s bs s
no_bytes s bs z = record { said = []; spelled = nil_from_length bs z; declares = none s }

one_more : (s t u : Plan) (bs : List ℕ) → Fronted s bs t → Spelled t (drop (span bs) bs) u → Spelled s bs u
one_more s t u bs h r = record {
  said = front bs ∷ r.said;
  spelled = sym (respelled bs h.three h.all (adds_short h.adds)) ∙ ap (λ l. encoded (front bs) ++ l) r.spelled;
  declares = next s t u (front bs) r.said h.adds r.declares;
}

onward_told : (s : Plan) (bs : List ℕ) (p : ℕ) (go : Plan → Result Plan Refusal) (r : Result Plan Refusal) → ToldField p s bs r → ((t : Plan) → Fronted s bs t → ToldFields t (drop (span bs) bs) (go t)) → ToldFields s bs (onward go r)
onward_told s bs p go (Ok t) h rest = step (go t) (rest t h)
  where
    step : (r : Result Plan Refusal) → ToldFields t (drop (span bs) bs) r → ToldFields s bs r
    step (Ok u) q = one_more s t u bs h q
    step (Err e) q = tt
onward_told s bs p go (Err e) h rest = tt

pub fields_told : (k p : ℕ) (s : Plan) (bs : List ℕ) → length bs ≤ k → ToldFields s bs (fields k p s bs)
fields_told zero p s bs le = no_bytes s bs (omega arith)
fields_told (suc k) p s bs le =
    cond_both (eqb (length bs) 0) _ _ (ToldFields s bs) (λ z. no_bytes s bs (eqb-true _ _ z))
    (λ _. onward_told s bs p (λ t. fields k (p + span bs) t (drop (span bs) bs)) (one_field p s bs) (field_told p s bs)
    (λ t h. fields_told k (p + span bs) t (drop (span bs) bs) (let left = length-drop (span bs) bs in let long = h.all in omega arith)))

-- fields that can be declared are read
fields_none : (k p : ℕ) (s : Plan) → fields k p s [] ≡ Ok s
fields_none zero p s = refl
fields_none (suc k) p s = refl

field_read : (p : ℕ) (s t : Plan) (f : Field) (rest : List ℕ) → Adds s f t → one_field p s (encoded f ++ rest) ≡ Ok t
field_read p s t f rest a =
    judged p s (encoded f ++ rest) (omega (arith, encoded_long f rest)) (omega (arith, encoded_long f rest, encoded_length f rest))
    ∙ ap (λ g. placed p (declare s g)) (encoded_front f rest)
    ∙ ap (placed p) (adds_declare a)

reads : (k p : ℕ) {s t : Plan} {fs : List Field} → Declares s fs t → length (concat encoded fs) ≤ k → fields k p s (concat encoded fs) ≡ Ok t
reads k p (none s) le = fields_none k p s
reads zero p (next s t u f fs a d) le = absurd (omega (arith, encoded_long f (concat encoded fs)))
reads (suc k) p (next s t u f fs a d) le =
    let bs = encoded f ++ concat encoded fs in
    let long = encoded_long f (concat encoded fs) in
    let some : eqb (length (encoded f ++ concat encoded fs)) 0 ≡ false = ne_eqb _ _ (λ z. omega arith) in
    rw some
    (ap (onward (λ v. fields k (p + span (encoded f ++ concat encoded fs)) v (drop (span (encoded f ++ concat encoded fs)) (encoded f ++ concat encoded fs)))) (field_read p s t f (concat encoded fs) a)
    ∙ ap (fields k (p + span (encoded f ++ concat encoded fs)) t) (encoded_rest f (concat encoded fs))
    ∙ reads k (p + span (encoded f ++ concat encoded fs)) d (omega arith))

seal_told : (p : ℕ) (s t : Plan) → seal p s ≡ Ok t → (s ≡ t) × (sealable s ≡ true)
seal_told p s t e = ⊎_elim (λ y. (just (rw y at e), y)) (λ n. absurd (never (rw n at e))) (cases_Bool (sealable s))
  where
    just : ◌≡◌ {A = Result Plan Refusal} (Ok s) (Ok t) → s ≡ t
    just q = cc

    never : {c : Refusal} → ◌≡◌ {A = Result Plan Refusal} (Err c) (Ok t) → ⊥
    never q = let z : ◌≡◌ {A = ℕ} 0 1 = cc in omega arith

whole_told : (bs : List ℕ) (t : Plan) (r : Result Plan Refusal) → ToldFields blank bs r → onward (seal (length bs)) r ≡ Ok t → Says bs t
whole_told bs t (Ok s) h e =
    let p = seal_told (length bs) s t e in
    record { said = h.said; spelled = h.spelled; declares = subst (Declares blank h.said) p.0 h.declares; sealed = subst (λ (x : Plan). sealable x ≡ true) p.0 p.1 }
whole_told bs t (Err c) h e = let z : ◌≡◌ {A = ℕ} 0 1 = cc in absurd (omega arith)

pub read_says : (bs : List ℕ) (t : Plan) → read_map bs ≡ Ok t → Says bs t
read_says bs t = whole_told bs t (fields (length bs) 0 blank bs) (fields_told (length bs) 0 blank bs (omega arith))

pub says_read : (bs : List ℕ) (t : Plan) → Says bs t → read_map bs ≡ Ok t
says_read bs t h =
    let sealed = h.sealed in
    ap read_map h.spelled
    ∙ ap (onward (seal (length (concat encoded h.said)))) (reads (length (concat encoded h.said)) 0 h.declares (omega arith))
    ∙ (rw sealed)
