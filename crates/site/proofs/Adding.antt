-- A field is declared exactly when it can be.
use Rattle.std.proofs.Common.{◌≡◌, ℕ, ◌<◌, true, false, eqb, ltb, List, [], ◌∷◌, ◌++◌, length, get_or, drop, is_some, Some, None, Ok, Err, Option, Result, sym, refl, ap, ◌∙◌, subst, arith}
use Rattle.std.proofs.lemmas.Bool.{lt-ltb, ltb-true, eqb-true, ne_eqb, eqb-false, and_from, and_parts, not-true, not_from_false, cond_both}
use Rattle.fixed.specs.declared.roster.NameFault.{NameFault}
use Rattle.fixed.specs.Rosters.{enrol}
use Rattle.fixed.proofs.Enrolling.{enrolled, enrols, known_absent, absent_known}
use Rattle.site.specs.declared.parts.Reading.{Reading}
use Rattle.site.specs.declared.parts.Reading.TheVariants.{Implied, Spoken}
use Rattle.site.specs.declared.refusals.Cause.{Cause}
use Rattle.site.specs.Links.{joined}
use Rattle.site.specs.Plans.{Plan}
use Rattle.site.specs.Fields.{Field, field, with_nodes, with_classes, with_users, with_link, with_reading, adding, seating, setting, ranking, enrol_user, fitting, reading_of, declare, declare_node, declare_link, declare_class, declare_user, declare_reading, code, New, Adds, node, link, class, user, reading}

enrols_new : (room : ℕ) (xs : List (List ℕ)) (n : List ℕ) → New n xs → length xs < room → enrol room xs n ≡ Ok (xs ++ n ∷ [])
enrols_new room xs n new lt = enrols room xs n new.0 (absent_known n xs new.1) lt

fits : (s : Plan) (m n : ℕ) → m < length s.nodes → n < length s.nodes → (m ≡ n → ⊥) → joined s.links m n ≡ false → fitting s (m ∷ n ∷ []) ≡ true
fits s m n lm ln ne un =
    and_from _ _ (lt-ltb _ _ lm) (and_from _ _ (lt-ltb _ _ ln) (and_from _ _ (not_from_false _ (ne_eqb m n ne)) (not_from_false _ un)))

sets : (s : Plan) (r : Reading) → setting s (reading_of (code r ∷ [])) ≡ Ok (with_reading s r)
sets s Implied = refl
sets s Spoken = refl

user_added : (us : List (List ℕ)) (rs b : List ℕ) (xs : List (List ℕ)) → enrol 16 us (drop 1 b) ≡ Ok xs → (get_or b 0 0 ≡ 0 → ⊥) → enrol_user us rs b ≡ Ok (xs, rs ++ get_or b 0 0 ∷ [])
user_added us rs b xs e z = let t = ne_eqb (get_or b 0 0) 0 z in ap (ranking rs (get_or b 0 0)) e ∙ (rw t)

pub adds_declare : {s : Plan} {f : Field} {t : Plan} → Adds s f t → declare s f ≡ Ok t
adds_declare (node s n new lt) = ap (adding (with_nodes s)) (enrols_new 48 s.nodes n new lt)
adds_declare (link s m n lt lm ln ne un) =
    let room : ltb (length s.links) 64 ≡ true = lt-ltb _ _ lt in
    let fit = fits s m n lm ln ne un in
    rw (room, fit)
adds_declare (class s n new lt) = ap (adding (with_classes s)) (enrols_new 32 s.classes n new lt)
adds_declare (user s r n new lt pos) =
    ap (seating s) (user_added s.users s.ranks (r ∷ n) (s.users ++ n ∷ []) (enrols_new 16 s.users n new lt) (λ z. omega arith))
adds_declare (reading s r e) = let unset = ap is_some e in rw unset (sets s r)

-- what an answer to a field says
abbrev Told : Plan → Field → Result Plan Cause → Type 0
Told s f (Ok t) = Adds s f t
Told s f (Err c) = Unit {0}

on_added : (s : Plan) (f : Field) (into : List (List ℕ) → Plan) (r : Result (List (List ℕ)) NameFault) → ((xs : List (List ℕ)) → r ≡ Ok xs → Adds s f (into xs)) → Told s f (adding into r)
on_added s f into (Ok xs) h = h xs refl
on_added s f into (Err e) h = tt

node_told : (s : Plan) (b : List ℕ) → Told s (field 1 b) (declare_node s b)
node_told s b =
    on_added s (field 1 b) (with_nodes s) (enrol 48 s.nodes b)
    (λ xs e. let d = enrolled 48 s.nodes b xs e in
    rw d.longer (node s b (d.good, known_absent b s.nodes d.new) d.room_left))

class_told : (s : Plan) (b : List ℕ) → Told s (field 3 b) (declare_class s b)
class_told s b =
    on_added s (field 3 b) (with_classes s) (enrol 32 s.classes b)
    (λ xs e. let d = enrolled 32 s.classes b xs e in
    rw d.longer (class s b (d.good, known_absent b s.classes d.new) d.room_left))

two : (b : List ℕ) → length b ≡ 2 → b ≡ get_or b 0 0 ∷ get_or b 1 0 ∷ []
two [] e = absurd (omega arith)
two (m ∷ []) e = absurd (omega arith)
two (m ∷ n ∷ []) e = refl
two (m ∷ n ∷ k ∷ ks) e = absurd (omega arith)

link_told : (s : Plan) (b : List ℕ) → Told s (field 2 b) (declare_link s b)
link_told s b =
    cond_both (ltb (length s.links) 64) _ _ (Told s (field 2 b))
    (λ lt. cond_both (fitting s b) _ _ (Told s (field 2 b))
    (λ fit. let p = and_parts _ _ fit in let q = and_parts _ _ p.1 in let r = and_parts _ _ q.1 in let t = and_parts _ _ r.1 in
    let made = link s (get_or b 0 0) (get_or b 1 0) (ltb-true _ _ lt) (ltb-true _ _ q.0) (ltb-true _ _ r.0) (eqb-false _ _ (not-true _ t.0)) (not-true _ t.1) in
    subst (λ (x : List ℕ). Adds s (field 2 x) (with_link s (record { a = get_or b 0 0; b = get_or b 1 0 }))) (sym (two b (eqb-true _ _ p.0))) made)
    (λ _. tt))
    (λ _. tt)

on_ranked : (s : Plan) (f : Field) (rs : List ℕ) (rank : ℕ) (r : Result (List (List ℕ)) NameFault) → ((xs : List (List ℕ)) → r ≡ Ok xs → 0 < rank → Adds s f (with_users s xs (rs ++ rank ∷ []))) → Told s f (seating s (ranking rs rank r))
on_ranked s f rs rank (Ok xs) h =
    cond_both (eqb rank 0) _ _ (λ x. Told s f (seating s x)) (λ _. tt) (λ z. h xs refl (let ne = eqb-false rank 0 z in omega (arith, ne)))
on_ranked s f rs rank (Err e) h = tt

user_told : (s : Plan) (b : List ℕ) → Told s (field 4 b) (declare_user s b)
user_told s [] = tt
user_told s (r ∷ n) =
    on_ranked s (field 4 (r ∷ n)) s.ranks r (enrol 16 s.users n)
    (λ xs e pos. let d = enrolled 16 s.users n xs e in
    rw d.longer (user s r n (d.good, known_absent n s.users d.new) d.room_left pos))

one : (b : List ℕ) → length b ≡ 1 → b ≡ get_or b 0 0 ∷ []
one [] e = absurd (omega arith)
one (m ∷ []) e = refl
one (m ∷ n ∷ ks) e = absurd (omega arith)

unset : (o : Option Reading) → is_some o ≡ false → o ≡ None
unset None e = refl
unset (Some r) e = let z : ◌≡◌ {A = ℕ} 0 1 = cc in absurd (omega arith)

reading_told : (s : Plan) (b : List ℕ) → Told s (field 5 b) (declare_reading s b)
reading_told s b =
    cond_both (is_some s.reading) _ _ (Told s (field 5 b)) (λ _. tt)
    (λ free. cond_both (eqb (length b) 1) _ _ (λ x. Told s (field 5 b) (setting s x))
    (λ lone. let is = one b (eqb-true _ _ lone) in
    cond_both (eqb (get_or b 0 0) 1) _ _ (λ x. Told s (field 5 b) (setting s x))
    (λ e. spelled Implied (is ∙ ap (λ k. k ∷ []) (eqb-true _ _ e)) free)
    (λ _. cond_both (eqb (get_or b 0 0) 2) _ _ (λ x. Told s (field 5 b) (setting s x))
    (λ e. spelled Spoken (is ∙ ap (λ k. k ∷ []) (eqb-true _ _ e)) free) (λ _. tt)))
    (λ _. tt))
  where
    spelled : (r : Reading) → b ≡ code r ∷ [] → is_some s.reading ≡ false → Adds s (field 5 b) (with_reading s r)
    spelled r e free = subst (λ (x : List ℕ). Adds s (field 5 x) (with_reading s r)) (sym e) (reading s r (unset s.reading free))

at_tag : (s : Plan) (t k : ℕ) (b : List ℕ) (r : Result Plan Cause) → eqb t k ≡ true → Told s (field k b) r → Told s (field t b) r
at_tag s t k b r e h = subst (λ (x : ℕ). Told s (field x b) r) (sym (eqb-true t k e)) h

told : (s : Plan) (t : ℕ) (b : List ℕ) → Told s (field t b) (declare s (field t b))
told s t b =
    cond_both (eqb t 1) _ _ (Told s (field t b)) (λ e. at_tag s t 1 b _ e (node_told s b))
    (λ _. cond_both (eqb t 2) _ _ (Told s (field t b)) (λ e. at_tag s t 2 b _ e (link_told s b))
    (λ _. cond_both (eqb t 3) _ _ (Told s (field t b)) (λ e. at_tag s t 3 b _ e (class_told s b))
    (λ _. cond_both (eqb t 4) _ _ (Told s (field t b)) (λ e. at_tag s t 4 b _ e (user_told s b))
    (λ _. cond_both (eqb t 5) _ _ (Told s (field t b)) (λ e. at_tag s t 5 b _ e (reading_told s b)) (λ _. tt)))))

pub declare_adds : (s : Plan) (f : Field) (t : Plan) → declare s f ≡ Ok t → Adds s f t
declare_adds s f t e = let h = told s f.tag f.body in rw e at h
