-- A sound plan, written out as fields, reads back as itself.
use Rattle.std.proofs.Common.{◌≡◌, ℕ, suc, ◌<◌, ◌≤◌, Bool, true, false, List, [], ◌∷◌, ◌++◌, map, length, get_or, Some, None, Ok, Option, sym, refl, ap, ◌∙◌, subst, arith, length-append}
use Rattle.std.proofs.lemmas.List.{append-nil, append_assoc, get_or_at, get_or_append_left}
use Rattle.std.proofs.lemmas.Bool.{and_from, or_from, lt-ltb}
use Rattle.fixed.specs.Spelling.{is_name}
use Rattle.site.specs.declared.parts.Link.{Link}
use Rattle.site.specs.declared.parts.Reading.{Reading}
use Rattle.std.specs.List.{list_any}
use Rattle.site.specs.Links.{nowhere, joins, joined}
use Rattle.site.specs.Plans.{Plan}
use Rattle.site.specs.Fields.{Field, field, with_nodes, with_classes, with_users, New, Adds, node, link, class, user, reading}
use Rattle.site.specs.Maps.{blank, sealable, read_map, Declares, none, next, link_field, user_fields, reading_fields, fields_of, written}
use Rattle.site.specs.Promises.{TwoEnded, Unrepeated, Table, Kept, Sound}
use Rattle.site.proofs.Saying.{says_read}
use Rattle.site.proofs.Sealing.{linked_all}

-- one run of fields after another
pub then : {s t u : Plan} {fs gs : List Field} → Declares s fs t → Declares t gs u → Declares s (fs ++ gs) u
then (none s) e = e
then {u = v} {gs = gs} (next s t u f fs a d) e = next s t v f (fs ++ gs) a (then d e)

-- the first of the names that are left is new among those before it
new_next : (room : ℕ) (xs : List (List ℕ)) (n : List ℕ) (more : List (List ℕ)) → Table room (xs ++ n ∷ more) → New n xs
new_next room xs n more t =
    let at = get_or_at xs n more [] (length xs) refl in
    let long = length-append xs (n ∷ more) in (
      subst (λ (x : List ℕ). is_name x ≡ true) at (t.proper (length xs) (omega arith)),
      λ k lt e. t.distinct k (length xs) lt (omega arith) (get_or_append_left xs (n ∷ more) [] k lt ∙ e ∙ sym at),
    )

room_next : (room : ℕ) (xs : List (List ℕ)) (n : List ℕ) (more : List (List ℕ)) → Table room (xs ++ n ∷ more) → length xs < room
room_next room xs n more t = let long = length-append xs (n ∷ more) in let few = t.few in omega arith

-- a table of names, declared name by name; `put` is the plan with that table
names_in : (put : List (List ℕ) → Plan) (tag room : ℕ) → ((xs : List (List ℕ)) (n : List ℕ) → New n xs → length xs < room → Adds (put xs) (field tag n) (put (xs ++ n ∷ []))) → (xs more : List (List ℕ)) → Table room (xs ++ more) → Declares (put xs) (map (field tag) more) (put (xs ++ more))
names_in put tag room adds xs [] t = subst (λ (l : List (List ℕ)). Declares (put xs) [] (put l)) (sym (append-nil xs)) (none (put xs))
names_in put tag room adds xs (n ∷ more) t =
    let whole = append_assoc xs (n ∷ []) more in
    next (put xs) (put (xs ++ n ∷ [])) (put (xs ++ n ∷ more)) (field tag n) (map (field tag) more)
    (adds xs n (new_next room xs n more t) (room_next room xs n more t))
    (subst (λ (l : List (List ℕ)). Declares (put (xs ++ n ∷ [])) (map (field tag) more) (put l)) whole
    (names_in put tag room adds (xs ++ n ∷ []) more (subst (Table room) (sym whole) t)))

-- the links, declared link by link
abbrev with_links : Plan → List Link → Plan
with_links s ls = record { nodes = s.nodes; links = ls; classes = s.classes; users = s.users; ranks = s.ranks; reading = s.reading }

false_since : (b : Bool) → (b ≡ true → ⊥) → b ≡ false
false_since true h = absurd (h refl)
false_since false h = refl

any_none : (test : Link → Bool) (ls : List Link) → ((i : ℕ) → i < length ls → test (get_or ls i nowhere) ≡ true → ⊥) → list_any test ls ≡ false
any_none test [] h = refl
any_none test (l ∷ ls) h = or_from (test l) (list_any test ls) (false_since (test l) (h 0 (omega arith))) (any_none test ls (λ i lt. h (suc i) (omega arith)))

links_in : (s : Plan) (xs more : List Link) → TwoEnded (length s.nodes) (xs ++ more) → Unrepeated (xs ++ more) → length (xs ++ more) ≤ 64 → Declares (with_links s xs) (map link_field more) (with_links s (xs ++ more))
links_in s xs [] two un few = subst (λ (l : List Link). Declares (with_links s xs) [] (with_links s l)) (sym (append-nil xs)) (none (with_links s xs))
links_in s xs (l ∷ more) two un few =
    let whole = append_assoc xs (l ∷ []) more in
    let at = get_or_at xs l more nowhere (length xs) refl in
    let long = length-append xs (l ∷ more) in
    let ends = subst (λ (x : Link). (x.a < length s.nodes) × (x.b < length s.nodes) × (x.a ≡ x.b → ⊥)) at (two (length xs) (omega arith)) in
    let fresh : joined xs l.a l.b ≡ false = any_none (λ x. joins x l.a l.b) xs
    (λ i lt e. un i (length xs) lt (omega arith)
    (ap (λ x. joins x (get_or (xs ++ l ∷ more) (length xs) nowhere).a (get_or (xs ++ l ∷ more) (length xs) nowhere).b) (get_or_append_left xs (l ∷ more) nowhere i lt)
    ∙ ap (λ y. joins (get_or xs i nowhere) y.a y.b) at ∙ e)) in
    next (with_links s xs) (with_links s (xs ++ l ∷ [])) (with_links s (xs ++ l ∷ more)) (link_field l) (map link_field more)
    (link (with_links s xs) l.a l.b (omega arith) ends.0 ends.1 ends.2 fresh)
    (subst (λ (ls : List Link). Declares (with_links s (xs ++ l ∷ [])) (map link_field more) (with_links s ls)) whole
    (links_in s (xs ++ l ∷ []) more
    (subst (TwoEnded (length s.nodes)) (sym whole) two)
    (subst Unrepeated (sym whole) un)
    (subst (λ (ls : List Link). length ls ≤ 64) (sym whole) few)))

-- the users, declared user by user
users_in : (s : Plan) (xs more : List (List ℕ)) (rs ms : List ℕ) → Table 16 (xs ++ more) → length ms ≡ length more → ((k : ℕ) → k < length ms → 0 < get_or ms k 0) → Declares (with_users s xs rs) (user_fields more ms) (with_users s (xs ++ more) (rs ++ ms))
users_in s xs [] rs [] t e pos =
    subst (λ (l : List (List ℕ)). Declares (with_users s xs rs) [] (with_users s l (rs ++ []))) (sym (append-nil xs))
    (subst (λ (l : List ℕ). Declares (with_users s xs rs) [] (with_users s xs l)) (sym (append-nil rs)) (none (with_users s xs rs)))
users_in s xs [] rs (r ∷ ms) t e pos = absurd (omega arith)
users_in s xs (u ∷ more) rs [] t e pos = absurd (omega arith)
users_in s xs (u ∷ more) rs (r ∷ ms) t e pos =
    let names = append_assoc xs (u ∷ []) more in
    let ranks = append_assoc rs (r ∷ []) ms in
    next (with_users s xs rs) (with_users s (xs ++ u ∷ []) (rs ++ r ∷ [])) (with_users s (xs ++ u ∷ more) (rs ++ r ∷ ms)) (field 4 (r ∷ u)) (user_fields more ms)
    (user (with_users s xs rs) r u (new_next 16 xs u more t) (room_next 16 xs u more t) (pos 0 (omega arith)))
    (subst (λ (l : List (List ℕ)). Declares (with_users s (xs ++ u ∷ []) (rs ++ r ∷ [])) (user_fields more ms) (with_users s l (rs ++ r ∷ ms))) names
    (subst (λ (l : List ℕ). Declares (with_users s (xs ++ u ∷ []) (rs ++ r ∷ [])) (user_fields more ms) (with_users s ((xs ++ u ∷ []) ++ more) l)) ranks
    (users_in s (xs ++ u ∷ []) more (rs ++ r ∷ []) ms (subst (Table 16) (sym names) t) (omega arith) (λ k lt. pos (suc k) (omega arith)))))

abbrev set_reading : Plan → Option Reading → Plan
set_reading s o = record { nodes = s.nodes; links = s.links; classes = s.classes; users = s.users; ranks = s.ranks; reading = o }

reading_in : (s : Plan) (o : Option Reading) → Declares (set_reading s None) (reading_fields o) (set_reading s o)
reading_in s None = none (set_reading s None)
reading_in s (Some r) = next (set_reading s None) (set_reading s (Some r)) (set_reading s (Some r)) (field 5 _) [] (reading (set_reading s None) r refl) (none (set_reading s (Some r)))

pub declares_all : (s : Plan) → Kept s → Declares blank (fields_of s) s
declares_all s h =
    let nodes : Plan = with_nodes blank s.nodes in
    let links : Plan = with_links nodes s.links in
    let classes : Plan = with_classes links s.classes in
    let users : Plan = with_users classes s.users s.ranks in
    then (names_in (with_nodes blank) 1 48 (λ xs n new lt. node (with_nodes blank xs) n new lt) [] s.nodes h.nodes)
    (then (links_in nodes [] s.links h.two_ended h.unrepeated h.few_links)
    (then (names_in (with_classes links) 3 32 (λ xs n new lt. class (with_classes links xs) n new lt) [] s.classes h.classes)
    (then (users_in classes [] s.users [] s.ranks h.users h.ranked.0 h.ranked.1)
    (reading_in users s.reading))))

pub sound_sealable : (s : Plan) → Sound s → sealable s ≡ true
sound_sealable s h =
    and_from _ _ (lt-ltb _ _ h.some_node) (and_from _ _ (lt-ltb _ _ h.some_class) (and_from _ _ (lt-ltb _ _ h.some_user) (linked_all s.links (length s.nodes) h.all_linked)))

pub reads_back : (s : Plan) → Sound s → read_map (written s) ≡ Ok s
reads_back s h = says_read (written s) s (record { said = fields_of s; spelled = refl; declares = declares_all s h.kept; sealed = sound_sealable s h })
