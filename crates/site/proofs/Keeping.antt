-- What every field keeps, and what then holds of a sealed map.
use Rattle.std.proofs.Common.{◌≡◌, ℕ, zero, suc, ◌+◌, ◌<◌, ◌≤◌, Bool, true, false, List, [], ◌∷◌, ◌++◌, length, get_or, sym, refl, ap, ◌∙◌, subst, ⊎_elim, arith}
use Rattle.std.proofs.lemmas.List.{length_push, get_or_push, get_or_append_left}
use Rattle.std.proofs.lemmas.Bool.{and_parts, ltb-true, or_parts, cases_eq, both_ways}
use Rattle.fixed.specs.Spelling.{is_name}
use Rattle.site.specs.declared.parts.Link.{Link}
use Rattle.std.specs.List.{list_any}
use Rattle.site.specs.Links.{nowhere, joins}
use Rattle.site.specs.Plans.{Plan}
use Rattle.site.specs.Fields.{Field, New, Adds, node, link, class, user, reading}
use Rattle.site.specs.Maps.{blank, Declares, none, next, Says}
use Rattle.site.specs.Promises.{TwoEnded, Table, Kept, Sound}
use Rattle.site.proofs.Sealing.{all_linked}

-- what holds of each element of a list and of one more at its end
module _ {X : Type 0} (P : X → Type 0) (d : X) where
  pub each_push : (xs : List X) (x : X) → ((k : ℕ) → k < length xs → P (get_or xs k d)) → P x → (k : ℕ) → k < length (xs ++ x ∷ []) → P (get_or (xs ++ x ∷ []) k d)
  each_push xs x each here k lt =
      let long = length_push xs x in
      ⊎_elim
      (λ e. subst P (sym (get_or_push xs x d k (sym e))) here)
      (λ ne. let l : k < length xs = omega (arith, ne) in subst P (sym (get_or_append_left xs (x ∷ []) d k l)) (each k l))
      (cases_eq k (length xs))

-- what holds of no two elements of a list, nor of one of them and one more at its end
module _ {X : Type 0} (Clash : X → X → Type 0) (d : X) where
  pub pairs_push : (xs : List X) (x : X) → ((i j : ℕ) → i < j → j < length xs → Clash (get_or xs i d) (get_or xs j d) → ⊥) → ((i : ℕ) → i < length xs → Clash (get_or xs i d) x → ⊥) → (i j : ℕ) → i < j → j < length (xs ++ x ∷ []) → Clash (get_or (xs ++ x ∷ []) i d) (get_or (xs ++ x ∷ []) j d) → ⊥
  pairs_push xs x pairs here i j lt lj c =
      let long = length_push xs x in
      let li : i < length xs = omega arith in
      let first : Clash (get_or xs i d) (get_or (xs ++ x ∷ []) j d) = subst (λ (y : X). Clash y (get_or (xs ++ x ∷ []) j d)) (get_or_append_left xs (x ∷ []) d i li) c in
      ⊎_elim
      (λ e. here i li (subst (Clash (get_or xs i d)) (get_or_push xs x d j (sym e)) first))
      (λ ne. let l : j < length xs = omega (arith, ne) in pairs i j lt l (subst (Clash (get_or xs i d)) (get_or_append_left xs (x ∷ []) d j l) first))
      (cases_eq j (length xs))

table_push : (room : ℕ) (xs : List (List ℕ)) (n : List ℕ) → Table room xs → New n xs → length xs < room → Table room (xs ++ n ∷ [])
table_push room xs n t new lt = record {
  few = let long = length_push xs n in omega arith;
  proper = each_push (λ x. is_name x ≡ true) [] xs n t.proper new.0;
  distinct = pairs_push (λ x y. x ≡ y) [] xs n t.distinct new.1;
}

-- more nodes take nothing from the links
wider : (n m : ℕ) (ls : List Link) → n ≤ m → TwoEnded n ls → TwoEnded m ls
wider n m ls le t k lt = let e = t k lt in (omega (arith, e.0), omega (arith, e.1), e.2)

any_false : (test : Link → Bool) (ls : List Link) (i : ℕ) → list_any test ls ≡ false → i < length ls → test (get_or ls i nowhere) ≡ false
any_false test [] i e lt = absurd (omega arith)
any_false test (l ∷ ls) zero e lt = (or_parts (test l) _ e).0
any_false test (l ∷ ls) (suc i) e lt = any_false test ls i (or_parts (test l) _ e).1 (omega arith)

abbrev EndsIn : ℕ → Link → Type 0
EndsIn n l = (l.a < n) × (l.b < n) × (l.a ≡ l.b → ⊥)

pub adds_keeps : {s : Plan} {f : Field} {t : Plan} → Adds s f t → Kept s → Kept t
adds_keeps (node s n new lt) h = record {
  nodes = table_push 48 s.nodes n h.nodes new lt;
  classes = h.classes;
  users = h.users;
  few_links = h.few_links;
  two_ended = wider (length s.nodes) _ s.links (omega (arith, length_push s.nodes n)) h.two_ended;
  unrepeated = h.unrepeated;
  ranked = h.ranked;
}
adds_keeps (link s m n lt lm ln ne un) h = record {
  nodes = h.nodes;
  classes = h.classes;
  users = h.users;
  few_links = let long = length_push {X = Link} s.links (record { a = m; b = n }) in omega arith;
  two_ended = each_push (EndsIn (length s.nodes)) nowhere s.links (record { a = m; b = n }) h.two_ended (lm, ln, ne);
  unrepeated = pairs_push (λ x y. joins x y.a y.b ≡ true) nowhere s.links (record { a = m; b = n }) h.unrepeated (λ i li e. both_ways _ (any_false (λ l. joins l m n) s.links i un li) e);
  ranked = h.ranked;
}
adds_keeps (class s n new lt) h = record {
  nodes = h.nodes;
  classes = table_push 32 s.classes n h.classes new lt;
  users = h.users;
  few_links = h.few_links;
  two_ended = h.two_ended;
  unrepeated = h.unrepeated;
  ranked = h.ranked;
}
adds_keeps (user s r n new lt pos) h = record {
  nodes = h.nodes;
  classes = h.classes;
  users = table_push 16 s.users n h.users new lt;
  few_links = h.few_links;
  two_ended = h.two_ended;
  unrepeated = h.unrepeated;
  ranked = (length_push s.ranks r ∙ ap (λ k. k + 1) h.ranked.0 ∙ sym (length_push s.users n), each_push (λ k. 0 < k) 0 s.ranks r h.ranked.1 pos);
}
adds_keeps (reading s r e) h = record {
  nodes = h.nodes;
  classes = h.classes;
  users = h.users;
  few_links = h.few_links;
  two_ended = h.two_ended;
  unrepeated = h.unrepeated;
  ranked = h.ranked;
}

no_names : (room : ℕ) → Table room []
no_names room = record { few = omega arith; proper = λ k lt. absurd (omega arith); distinct = λ i j lt lj. absurd (omega arith) }

blank_kept : Kept blank
blank_kept = record {
  nodes = no_names 48;
  classes = no_names 32;
  users = no_names 16;
  few_links = omega arith;
  two_ended = λ k lt. absurd (omega arith);
  unrepeated = λ i j lt lj. absurd (omega arith);
  ranked = (refl, λ k lt. absurd (omega arith));
}

pub declares_keeps : {s : Plan} {fs : List Field} {t : Plan} → Declares s fs t → Kept s → Kept t
declares_keeps (none s) h = h
declares_keeps (next s t u f fs a d) h = declares_keeps d (adds_keeps a h)

pub says_sound : (bs : List ℕ) (s : Plan) → Says bs s → Sound s
says_sound bs s h =
    let p = and_parts _ _ h.sealed in let q = and_parts _ _ p.1 in let r = and_parts _ _ q.1 in
    record {
      kept = declares_keeps h.declares blank_kept;
      some_node = ltb-true _ _ p.0;
      some_class = ltb-true _ _ q.0;
      some_user = ltb-true _ _ r.0;
      all_linked = all_linked s.links (length s.nodes) r.1;
    }
