-- Each call has one right answer.
use Rattle.std.proofs.Common.{◌≡◌, ℕ, ◌+◌, ◌<◌, ◌≤◌, true, false, ◌⊎◌, List, [], ◌∷◌, length, take, Ok, Err, Result, sym, refl, ap, ◌∙◌, subst, inl, inr, ⊎_elim, arith}
use Rattle.std.proofs.lemmas.List.{length-take-le}
use Rattle.std.proofs.lemmas.Bool.{both_ways}
use Rattle.std.specs.List.{slice_get}
use Rattle.kind.specs.Sense.{Sense, Laws, OneGiven}
use Rattle.site.specs.declared.refusals.Cause.TheVariants.{IdStands, BookFull}
use Rattle.site.specs.declared.refusals.Refusal.{Refusal}
use Rattle.site.specs.Plans.{Plan}
use Rattle.site.specs.Refusals.{refuse}
use Rattle.paths.specs.declared.ports.Port.{Port}
use Rattle.paths.specs.PortSets.{is_port}
use Rattle.rules.specs.Rules.{Ruling}
use Rattle.pairs.specs.declared.answers.Entry.{Entry}
use Rattle.pairs.specs.declared.answers.Mark.{Mark}
use Rattle.pairs.specs.declared.answers.Mark.TheVariants.{Open, First, Second}
use Rattle.pairs.specs.declared.answers.Totals.{Totals}
use Rattle.deciding.specs.declared.settling.Decision.{Decision}
use Rattle.deciding.specs.declared.settling.Decision.TheVariants.{Permit, Deny, Split, Silent}
use Rattle.deciding.specs.Deciding.{Decides}
use Rattle.pairs.specs.Disagreement.{mark_of}
use Rattle.book.specs.Drawing.{DrawnAt, NoneDrawn}
use Rattle.pairs.specs.Lists.{Has, here, there}
use Rattle.pairs.specs.Pairs.{InOrder, Alike, one_open, opens, Names, NamesAll, Reports}
use Rattle.book.specs.Runs.{admit, withdraw, report, decide, route, Known, refusal, Right, admits, unread, id_stands, full, withdraws, no_such_id, reports, short_list, decides, no_port_or_class, off_ground, routes, short_buffer, no_port, untouched, OneAnswer}
use Rattle.pairs.proofs.Having.{nth_one}
use Rattle.pairs.proofs.Alike.{alike_same, lists_alike, lists_exact}
use Rattle.pairs.proofs.Naming.{no_longer, told, fewer}

by_mark : {P : Type 0} → Mark → Entry P → List (Entry P) → List (Entry P)
by_mark Open e es = e ∷ es
by_mark First e es = es
by_mark Second e es = es

only_open : {P : Type 0} → List (Entry P) → List (Entry P)
only_open [] = []
only_open (e ∷ es) = by_mark e.mark e (only_open es)

by_length : {P : Type 0} (m : Mark) (e : Entry P) (es : List (Entry P)) → length (by_mark m e es) ≡ length es + one_open m
unfolding by_mark
by_length Open e es = omega arith
by_length First e es = omega arith
by_length Second e es = omega arith

open_length : {P : Type 0} (es : List (Entry P)) → length (only_open es) ≡ opens es
unfolding only_open
open_length [] = refl
open_length (e ∷ es) = by_length e.mark e (only_open es) ∙ ap (λ n. n + one_open e.mark) (open_length es)

by_has : {P : Type 0} (m : Mark) (e : Entry P) (es : List (Entry P)) (f : Entry P) → e.mark ≡ m → Has (by_mark m e es) f → ((e ≡ f) × (f.mark ≡ Open)) ⊎ Has es f
unfolding by_mark
by_has Open e es f q here = inl (refl, q)
by_has Open e es f q (there h) = inr h
by_has First e es f q h = inr h
by_has Second e es f q h = inr h

has_open : {P : Type 0} (es : List (Entry P)) (f : Entry P) → Has (only_open es) f → Has es f × (f.mark ≡ Open)
unfolding only_open
has_open [] f h = elim h [ ]
has_open {P} (e ∷ es) f h = elim (by_has e.mark e (only_open es) f refl h) [
  | inl q ↦ (subst (λ z. Has (e ∷ es) z) q.0 here, q.1)
  | inr q ↦ (there (has_open es f q).0, (has_open es f q).1)
]

by_here : {P : Type 0} (m : Mark) (e : Entry P) (es : List (Entry P)) → m ≡ Open → Has (by_mark m e es) e
unfolding by_mark
by_here Open e es q = here
by_here First e es q = absurd cc
by_here Second e es q = absurd cc

by_there : {P : Type 0} (m : Mark) (e : Entry P) (es : List (Entry P)) (f : Entry P) → Has es f → Has (by_mark m e es) f
unfolding by_mark
by_there Open e es f h = there h
by_there First e es f h = h
by_there Second e es f h = h

open_has : {P : Type 0} {es : List (Entry P)} {f : Entry P} → Has es f → f.mark ≡ Open → Has (only_open es) f
unfolding only_open
open_has (here {x = e} {xs = es}) q = by_here e.mark e (only_open es) q
open_has {f = f} (there {y = e} {xs = es} h) q = by_there e.mark e (only_open es) f (open_has h q)

by_order : {P : Type 0} (m : Mark) (e : Entry P) (es : List (Entry P)) → ((f : Entry P) → Has es f → (e.first < f.first) ⊎ ((e.first ≡ f.first) × (e.second < f.second))) → InOrder es → InOrder (by_mark m e es)
unfolding by_mark
by_order Open e es h o = (h, o)
by_order First e es h o = o
by_order Second e es h o = o

open_order : {P : Type 0} (es : List (Entry P)) → InOrder es → InOrder (only_open es)
unfolding only_open
open_order [] o = tt
open_order (e ∷ es) o = by_order e.mark e (only_open es) (λ f h. o.0 f (has_open es f h).0) (open_order es o.1)

same : (a b : ℕ) → a ≤ b → b ≤ a → a ≡ b
same a b p q = omega arith

module _ {C P : Type 0} (site : Plan) (k : Sense C P) (laws : Laws k) where
  opens_at_most : (rs : List (Ruling C)) (es fs : List (Entry P)) → NamesAll site k rs es → NamesAll site k rs fs → opens es ≤ opens fs
  opens_at_most rs es fs m n =
      let q = no_longer (only_open es) (only_open fs) (open_order es m.only.in_order) (open_order fs n.only.in_order) found in
      omega (arith, open_length es, open_length fs)
    where
      found : (f : Entry P) → Has (only_open es) f → (e : Entry P) × Has (only_open fs) e × (e.first ≡ f.first) × (e.second ≡ f.second)
      found f h =
          let d = has_open es f h in
          let t = m.only.true_of f d.0 in
          let g = n.every f.first f.second (told site k laws rs f t) in
          let u = n.only.true_of g.0 g.1 in
          let a = nth_one u.first_is (ap (λ i. slice_get rs i) g.2 ∙ t.first_is) in
          let b = nth_one u.second_is (ap (λ i. slice_get rs i) g.3 ∙ t.second_is) in
          let o : g.0.mark ≡ Open = u.tells.mark_is ∙ ap (λ (x : Ruling C). mark_of x.rank u.r.rank) a ∙ ap (λ (x : Ruling C). mark_of t.q.rank x.rank) b ∙ sym t.tells.mark_is ∙ d.1 in
          (g.0, open_has g.1 o, g.2, g.3)

  pairs_at_most : (rs : List (Ruling C)) (old new new' : List (Entry P)) (p p' u u' : ℕ) → Reports site k rs old new p u → Reports site k rs old new' p' u' → p ≤ p'
  pairs_at_most rs old new new' p p' u u' m n =
      let q = fewer site k laws rs (take p new) (take p' new') m.names.only n.names in
      omega (arith, length-take-le p new (omega (arith, m.room, m.same_length)), length-take-le p' new' (omega (arith, n.room, n.same_length)))

  same_read : {r r' : Ruling C} {end end' : ℕ} {o : Result (Ruling C × ℕ) Refusal} → o ≡ Ok (r, end) → o ≡ Ok (r', end') → (r ≡ r') × (end ≡ end')
  same_read {r} {r'} {end} {end'} p q = let e : ◌≡◌ {A = Ruling C × ℕ} (r, end) (r', end') = cc in (ap (λ (z : Ruling C × ℕ). z.0) e, ap (λ (z : Ruling C × ℕ). z.1) e)

  read_or_not : {r : Ruling C} {end : ℕ} {why : Refusal} {o : Result (Ruling C × ℕ) Refusal} → o ≡ Ok (r, end) → o ≡ Err why → ⊥
  read_or_not p q = cc

  same_why : {why why' : Refusal} {o : Result (Ruling C × ℕ) Refusal} → o ≡ Err why → o ≡ Err why' → why ≡ why'
  same_why p q = cc

  known_also : {rs : List (Ruling C)} {r r' : Ruling C} → r ≡ r' → Known r.id rs → Known r'.id rs
  known_also {rs} e n = subst (λ (z : Ruling C). Known z.id rs) e n

  of_admit' : (size : ℕ) (rs : List (Ruling C)) (text : List ℕ) (place : ℕ) (a b : Result ℕ Refusal) → Right site k size rs (admit text place a) → Right site k size rs (admit text place b) → a ≡ b
  of_admit' size rs text place a b (admits e n l) (admits e' n' l') = ap (λ z. Ok z) (same_read e e').1
  of_admit' size rs text place a b (admits e n l) (unread w) = absurd (read_or_not e w)
  of_admit' size rs text place a b (admits e n l) (id_stands e' q) = absurd (n (known_also (same_read e' e).0 q))
  of_admit' size rs text place a b (admits e n l) (full e' n' m) = absurd (omega arith)
  of_admit' size rs text place a b (unread w) (admits e n l) = absurd (read_or_not e w)
  of_admit' size rs text place a b (unread w) (unread w') = ap (λ z. Err z) (same_why w w')
  of_admit' size rs text place a b (unread w) (id_stands e q) = absurd (read_or_not e w)
  of_admit' size rs text place a b (unread w) (full e n m) = absurd (read_or_not e w)
  of_admit' size rs text place a b (id_stands e q) (admits e' n l) = absurd (n (known_also (same_read e e').0 q))
  of_admit' size rs text place a b (id_stands e q) (unread w) = absurd (read_or_not e w)
  of_admit' size rs text place a b (id_stands e q) (id_stands e' q') = ap (λ (z : Ruling C). refuse IdStands z.place) (same_read e e').0
  of_admit' size rs text place a b (id_stands e q) (full e' n m) = absurd (n (known_also (same_read e e').0 q))
  of_admit' size rs text place a b (full e n m) (admits e' n' l) = absurd (omega arith)
  of_admit' size rs text place a b (full e n m) (unread w) = absurd (read_or_not e w)
  of_admit' size rs text place a b (full e n m) (id_stands e' q) = absurd (n (known_also (same_read e' e).0 q))
  of_admit' size rs text place a b (full e n m) (full e' n' m') = ap (λ (z : Ruling C). refuse BookFull z.place) (same_read e e').0

  of_withdraw' : (size : ℕ) (rs : List (Ruling C)) (id : List ℕ) (a b : Result (Unit {0}) Refusal) → Right site k size rs (withdraw id a) → Right site k size rs (withdraw id b) → a ≡ b
  of_withdraw' size rs id a b (withdraws q) (withdraws q') = refl
  of_withdraw' size rs id a b (withdraws q) (no_such_id n) = absurd (n q)
  of_withdraw' size rs id a b (no_such_id n) (withdraws q) = absurd (n q)
  of_withdraw' size rs id a b (no_such_id n) (no_such_id n') = refl

  too_few : (rs : List (Ruling C)) (old new es : List (Entry P)) (p u : ℕ) → Reports site k rs old new p u → Names site k rs es → length old < length es → ⊥
  too_few rs old new es p u m n l = let q = fewer site k laws rs es (take p new) n m.names in omega (arith, length-take-le p new (omega (arith, m.room, m.same_length)), m.room)

  same_totals : (t u : Totals) → t.pairs ≡ u.pairs → t.unsettled ≡ u.unsettled → t ≡ u
  same_totals t u p q = ap (λ z. record { pairs = z; unsettled = t.unsettled }) p ∙ ap (λ z. record { pairs = u.pairs; unsettled = z }) q

  of_report' : (size : ℕ) (rs : List (Ruling C)) (old new new' : List (Entry P)) (a b : Result Totals Refusal) → Right site k size rs (report old a new) → Right site k size rs (report old b new') → a ≡ b
  of_report' size rs old new new' a b (reports {totals = t} m) (reports {totals = u} n) = ap (λ z. Ok z) (same_totals t u
      (same t.pairs u.pairs (pairs_at_most rs old new new' t.pairs u.pairs t.unsettled u.unsettled m n) (pairs_at_most rs old new' new u.pairs t.pairs u.unsettled t.unsettled n m))
      (same t.unsettled u.unsettled
      (omega (arith, m.open_ones, n.open_ones, opens_at_most rs (take t.pairs new) (take u.pairs new') m.names n.names))
      (omega (arith, m.open_ones, n.open_ones, opens_at_most rs (take u.pairs new') (take t.pairs new) n.names m.names))))
  of_report' size rs old new new' a b (reports {totals = t} m) (short_list {es = es} n l) = absurd (too_few rs old new es t.pairs t.unsettled m n l)
  of_report' size rs old new new' a b (short_list {es = es} n l) (reports {totals = t} m) = absurd (too_few rs old new' es t.pairs t.unsettled m n l)
  of_report' size rs old new new' a b (short_list n l) (short_list n' l') = refl

  one_count : (rs : List (Ruling C)) (old new new' : List (Entry P)) (t u : Totals) → Reports site k rs old new t.pairs t.unsettled → Reports site k rs old new' u.pairs u.unsettled → u.pairs ≡ t.pairs
  one_count rs old new new' t u m n = same u.pairs t.pairs (pairs_at_most rs old new' new u.pairs t.pairs u.unsettled t.unsettled n m) (pairs_at_most rs old new new' t.pairs u.pairs t.unsettled u.unsettled m n)

  of_list' : (size : ℕ) (rs : List (Ruling C)) (old new new' : List (Entry P)) (a b : Result Totals Refusal) → Right site k size rs (report old a new) → Right site k size rs (report old b new') → Alike new new'
  of_list' size rs old new new' a b (reports {totals = t} m) (reports {totals = u} n) = lists_alike site k laws rs old new new' t.pairs t.unsettled u.unsettled m (subst (λ z. Reports site k rs old new' z u.unsettled) (one_count rs old new new' t u m n) n)
  of_list' size rs old new new' a b (reports {totals = t} m) (short_list {es = es} n l) = absurd (too_few rs old new es t.pairs t.unsettled m n l)
  of_list' size rs old new new' a b (short_list {es = es} n l) (reports {totals = t} m) = absurd (too_few rs old new' es t.pairs t.unsettled m n l)
  of_list' size rs old new new' a b (short_list n l) (short_list n' l') = alike_same old

  of_points' : OneGiven k → (size : ℕ) (rs : List (Ruling C)) (old new new' : List (Entry P)) (a b : Result Totals Refusal) → Right site k size rs (report old a new) → Right site k size rs (report old b new') → new ≡ new'
  of_points' one size rs old new new' a b (reports {totals = t} m) (reports {totals = u} n) = lists_exact site k one laws rs old new new' t.pairs t.unsettled u.unsettled m (subst (λ z. Reports site k rs old new' z u.unsettled) (one_count rs old new new' t u m n) n)
  of_points' one size rs old new new' a b (reports {totals = t} m) (short_list {es = es} n l) = absurd (too_few rs old new es t.pairs t.unsettled m n l)
  of_points' one size rs old new new' a b (short_list {es = es} n l) (reports {totals = t} m) = absurd (too_few rs old new' es t.pairs t.unsettled m n l)
  of_points' one size rs old new new' a b (short_list n l) (short_list n' l') = refl

  one_decision : (rs : List (Ruling C)) (port : Port) (class : ℕ) (point : P) (c d : Decision) → Decides site k rs port class point c → Decides site k rs port class point d → c ≡ d
  one_decision rs port class point Permit Permit x y = refl
  one_decision rs port class point Permit Deny x y = absurd (y.0 x.0)
  one_decision rs port class point Permit Split x y = absurd (x.1 y.1)
  one_decision rs port class point Permit Silent x y = absurd (y.0 x.0)
  one_decision rs port class point Deny Permit x y = absurd (x.0 y.0)
  one_decision rs port class point Deny Deny x y = refl
  one_decision rs port class point Deny Split x y = absurd (x.0 y.0)
  one_decision rs port class point Deny Silent x y = absurd (y.1 x.1)
  one_decision rs port class point Split Permit x y = absurd (y.1 x.1)
  one_decision rs port class point Split Deny x y = absurd (y.0 x.0)
  one_decision rs port class point Split Split x y = refl
  one_decision rs port class point Split Silent x y = absurd (y.0 x.0)
  one_decision rs port class point Silent Permit x y = absurd (x.0 y.0)
  one_decision rs port class point Silent Deny x y = absurd (x.1 y.1)
  one_decision rs port class point Silent Split x y = absurd (x.0 y.0)
  one_decision rs port class point Silent Silent x y = refl

  off : (port : Port) (class : ℕ) → is_port site.links port ≡ true → class < length site.classes → (is_port site.links port ≡ false) ⊎ (length site.classes ≤ class) → ⊥
  off port class p c q = ⊎_elim (λ z. both_ways _ z p) (λ z. omega arith) q

  of_decide' : (size : ℕ) (rs : List (Ruling C)) (port : Port) (class : ℕ) (point : P) (a b : Result Decision Refusal) → Right site k size rs (decide port class point a) → Right site k size rs (decide port class point b) → a ≡ b
  of_decide' size rs port class point a b (decides {d = c} p q g x) (decides {d = d} p' q' g' y) = ap (λ z. Ok z) (one_decision rs port class point c d x y)
  of_decide' size rs port class point a b (decides p q g x) (no_port_or_class o) = absurd (off port class p q o)
  of_decide' size rs port class point a b (decides p q g x) (off_ground p' q' g') = absurd (both_ways _ g' g)
  of_decide' size rs port class point a b (no_port_or_class o) (decides p q g x) = absurd (off port class p q o)
  of_decide' size rs port class point a b (no_port_or_class o) (no_port_or_class o') = refl
  of_decide' size rs port class point a b (no_port_or_class o) (off_ground p q g) = absurd (off port class p q o)
  of_decide' size rs port class point a b (off_ground p q g) (decides p' q' g' x) = absurd (both_ways _ g g')
  of_decide' size rs port class point a b (off_ground p q g) (no_port_or_class o) = absurd (off port class p q o)
  of_decide' size rs port class point a b (off_ground p q g) (off_ground p' q' g') = refl

  -- a drawn path is one that the rule at the position has
  reached : (rs : List (Ruling C)) (position n : ℕ) (port : Port) (old new : List ℕ) → DrawnAt site rs position port old n new → NoneDrawn site rs position port → ⊥
  reached rs position n port old new (r, is, d) none = none r is (d.path, d.reaches)

  of_route' : (size : ℕ) (rs : List (Ruling C)) (position : ℕ) (port : Port) (old new new' : List ℕ) (a b : Result ℕ Refusal) → Right site k size rs (route position port old a new) → Right site k size rs (route position port old b new') → refusal a ≡ refusal b
  of_route' size rs position port old new new' a b (routes {n = n} l d) (routes {n = n'} l' d') = refl
  of_route' size rs position port old new new' a b (routes {n = n} l d) (short_buffer m) = absurd (omega arith)
  of_route' size rs position port old new new' a b (routes {n = n} l d) (no_port l' no') = absurd (both_ways _ no' d.2.reaches.touch.port)
  of_route' size rs position port old new new' a b (routes {n = n} l d) (untouched l' p none) = absurd (reached rs position n port old new d none)
  of_route' size rs position port old new new' a b (short_buffer m) (routes {n = n} l d) = absurd (omega arith)
  of_route' size rs position port old new new' a b (short_buffer m) (short_buffer m') = refl
  of_route' size rs position port old new new' a b (short_buffer m) (no_port l no') = absurd (omega arith)
  of_route' size rs position port old new new' a b (short_buffer m) (untouched l p none) = absurd (omega arith)
  of_route' size rs position port old new new' a b (no_port l no') (routes {n = n} l' d) = absurd (both_ways _ no' d.2.reaches.touch.port)
  of_route' size rs position port old new new' a b (no_port l no') (short_buffer m) = absurd (omega arith)
  of_route' size rs position port old new new' a b (no_port l no') (no_port l' no'') = refl
  of_route' size rs position port old new new' a b (no_port l no') (untouched l' p none) = absurd (both_ways _ no' p)
  of_route' size rs position port old new new' a b (untouched l p none) (routes {n = n} l' d) = absurd (reached rs position n port old new' d none)
  of_route' size rs position port old new new' a b (untouched l p none) (short_buffer m) = absurd (omega arith)
  of_route' size rs position port old new new' a b (untouched l p none) (no_port l' no') = absurd (both_ways _ no' p)
  of_route' size rs position port old new new' a b (untouched l p none) (untouched l' p' none') = refl

  pub one_answer : OneAnswer site k
  one_answer = record { of_admit = of_admit'; of_withdraw = of_withdraw'; of_report = of_report'; of_list = of_list'; of_points = of_points'; of_decide = of_decide'; of_route = of_route' }
