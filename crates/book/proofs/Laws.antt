-- What a history says stands; a report with no open pair, and how long it lasts; what a report names, and how long that stands.
use Rattle.std.proofs.Common.{◌≡◌, ℕ, ◌<◌, ◌≤◌, true, false, cond, eqb, ltb, ◌⊎◌, List, [], ◌∷◌, ◌++◌, length, take, Some, Ok, Err, Result, sym, refl, ap, ◌∙◌, subst, inl, inr, ⊎_elim, arith}
use Rattle.std.specs.List.{slice_get}
use Rattle.std.specs.Str.{bytes_eq}
use Rattle.std.proofs.lemmas.Bool.{false≢true, cases_order, eq-eqb, both_ways}
use Rattle.kind.specs.Sense.{Sense}
use Rattle.site.specs.declared.refusals.Refusal.{Refusal}
use Rattle.site.specs.Plans.{Plan}
use Rattle.paths.specs.declared.ports.Port.{Port}
use Rattle.rules.specs.declared.verdict.Saying.{Saying}
use Rattle.rules.specs.declared.verdict.Saying.TheVariants.{Permit, Deny, Silent}
use Rattle.rules.specs.Rules.{Ruling, read_rule}
use Rattle.pairs.specs.declared.answers.Entry.{Entry}
use Rattle.pairs.specs.declared.answers.Mark.TheVariants.{Open, First, Second}
use Rattle.pairs.specs.declared.answers.Totals.{Totals}
use Rattle.deciding.specs.declared.settling.Decision.{Decision}
use Rattle.deciding.specs.declared.settling.Decision.TheVariants.{Split}
use Rattle.deciding.specs.Deciding.{Held, Decides, DecidesBy}
use Rattle.pairs.specs.Disagreement.{saying, opposed, Contradict}
use Rattle.book.specs.Drawing.{Touching, Reached, DrawnAt}
use Rattle.pairs.specs.Lists.{Has, here, there}
use Rattle.pairs.specs.Pairs.{opens, one_open, NamesAll}
use Rattle.book.specs.Runs.{Step, admit, withdraw, report, decide, route, without, read, RemovesNone, AddsNone, Mentions, after, standing, Right, admits, reports, routes, short_buffer, no_port, untouched, LedTo, at_first, next, Decided, DecidedByPaths, Routed}
use Rattle.pairs.proofs.Having.{has_cases, has_none, has_one, has_nth, nth_has, nth_longer, nth_one}
use Rattle.book.proofs.Reader.{Sealed, read_touching}
use Rattle.deciding.proofs.Voices.{decides_also}

flipped : (a b : Saying) → opposed a b ≡ true → opposed b a ≡ true
flipped Permit Deny e = refl
flipped Deny Permit e = refl
flipped Permit Permit e = e
flipped Permit Silent e = e
flipped Deny Deny e = e
flipped Deny Silent e = e
flipped Silent Permit e = e
flipped Silent Deny e = e
flipped Silent Silent e = e

unopposed : (a : Saying) → opposed a a ≡ true → ⊥
unopposed Permit e = false≢true e
unopposed Deny e = false≢true e
unopposed Silent e = false≢true e

open_one : {P : Type 0} {es : List (Entry P)} {e : Entry P} → Has es e → e.mark ≡ Open → opens es ≡ 0 → ⊥
open_one here m z = omega (arith, ap one_open m)
open_one (there h) m z = open_one h m (omega arith)

has_kept : {X : Type 0} (rs ss : List X) (s r : X) → (Has ss r → Has rs r) → Has (s ∷ ss) r → Has (s ∷ rs) r
has_kept rs ss s r f here = here
has_kept rs ss s r f (there q) = there (f q)

pub has_without : {C : Type 0} (id : List ℕ) (rs : List (Ruling C)) (r : Ruling C) → Has (without id rs) r → Has rs r
has_without id [] r h = h
has_without id (s ∷ rs) r h = elim (bytes_eq s.id id) as (λ b. Has (cond b rs (s ∷ without id rs)) r → Has (s ∷ rs) r) [
  | true ↦ (λ q. there q)
  | false ↦ (λ q. has_kept rs (without id rs) s r (has_without id rs r) q)
] h

module _ {C P : Type 0} (s : Plan) (k : Sense C P) where
  turned : {q r : Ruling C} → Contradict s k q r → Contradict s k r q
  turned {q} {r} c = record {
    port = c.port;
    class = c.class;
    point = c.point;
    there = record {
      share = record { one = c.there.share.other; other = c.there.share.one };
      differ = (c.there.differ.0, flipped (saying s q c.class) (saying s r c.class) c.there.differ.1);
      first_holds = c.there.second_holds;
      second_holds = c.there.first_holds;
    };
  }

  -- no two of the rules contradict each other at the same rank
  abbrev pub Peace : List (Ruling C) → Type 0
  Peace rs = (q r : Ruling C) → Has rs q → Has rs r → Contradict s k q r → q.rank ≡ r.rank → ⊥

  named_open : (rs : List (Ruling C)) (es : List (Entry P)) → NamesAll s k rs es → opens es ≡ 0 → (i j : ℕ) (q r : Ruling C) → i < j → slice_get rs i ≡ Some q → slice_get rs j ≡ Some r → Contradict s k q r → q.rank ≡ r.rank → ⊥
  named_open rs es n z i j q r lt p o c same =
      let f = n.every i j (record { q = q; r = r; first_is = p; second_is = o; in_turn = lt; contradict = c }) in
      let t = n.only.true_of f.0 f.1 in
      let a : t.q ≡ q = nth_one t.first_is (ap (λ m. slice_get rs m) f.2 ∙ p) in
      let b : t.r ≡ r = nth_one t.second_is (ap (λ m. slice_get rs m) f.3 ∙ o) in
      let e : eqb t.q.rank t.r.rank ≡ true = eq-eqb _ _ (ap (λ (x : Ruling C). x.rank) a ∙ same ∙ sym (ap (λ (x : Ruling C). x.rank) b)) in
      open_one f.1 (t.tells.mark_is ∙ ap (λ v. cond v Open (cond (ltb t.q.rank t.r.rank) Second First)) e) z

  pub peace_now : (rs : List (Ruling C)) (es : List (Entry P)) → NamesAll s k rs es → opens es ≡ 0 → Peace rs
  peace_now rs es n z q r hq hr c same =
      let p = has_nth hq in
      let o = has_nth hr in
      elim (cases_order p.0 o.0) [
        | inl e ↦ unopposed (saying s r c.class) (subst (λ (x : Ruling C). opposed (saying s x c.class) (saying s r c.class) ≡ true) (nth_one p.1 (ap (λ m. slice_get rs m) e ∙ o.1)) c.there.differ.1)
        | inr (inl lt) ↦ named_open rs es n z p.0 o.0 q r lt p.1 o.1 c same
        | inr (inr gt) ↦ named_open rs es n z o.0 p.0 r q gt o.1 p.1 (turned c) (sym same)
      ]

  level : (a b : ℕ) → a ≤ b → b ≤ a → a ≡ b
  level a b p q = omega arith

  -- where there is peace, no decision is split
  pub no_split : (rs : List (Ruling C)) (port : Port) (class : ℕ) (point : P) → class < length s.classes → Peace rs → Decides s k rs port class point Split → ⊥
  no_split rs port class point lc peace (v, w) =
      peace v.r w.r v.stands w.stands
      (record {
        port = port;
        class = class;
        point = point;
        there = record {
          share = record { one = v.speaks.touch; other = w.speaks.touch };
          differ = (lc, ap (λ a. opposed a (saying s w.r class)) v.says ∙ ap (λ a. opposed Permit a) w.says);
          first_holds = v.speaks.hold;
          second_holds = w.speaks.hold;
        };
      })
      (level v.r.rank w.r.rank (v.first w.r w.stands w.speaks) (w.first v.r v.stands v.speaks))

  -- what a history says is what it led to
  as_said : {room : ℕ} {h : List (Step P)} {rs : List (Ruling C)} → LedTo s k room h rs → standing s k h ≡ rs
  as_said at_first = refl
  as_said (next c l _) = ap (λ z. after s k c z) (as_said l)

  pub stands_so : {room : ℕ} {rs : List (Ruling C)} (h : List (Step P)) → LedTo s k room h rs → rs ≡ standing s k h
  stands_so h l = sym (as_said l)

  -- a rule that stands was read
  read_one : Sealed s → (text : List ℕ) (place end : ℕ) (q r : Ruling C) → read_rule k s text place ≡ Ok (q, end) → Has (read (read_rule k s text place)) r → Touching s r
  read_one fit text place end q r e h = subst (λ z. Touching s z) (has_one (subst (λ z. Has (read z) r) e h)) (read_touching s fit k text place end q e)

  pub touching_so : Sealed s → {room : ℕ} (h : List (Step P)) {rs : List (Ruling C)} → LedTo s k room h rs → (r : Ruling C) → Has rs r → Touching s r
  touching_so fit [] at_first r x = absurd (has_none x)
  touching_so fit (admit text place (Ok end) ∷ h) (next {rs = rs} c l (admits {r = q} e n m)) r x = ⊎_elim (λ y. touching_so fit h l r y) (λ y. read_one fit text place end q r e y) (has_cases rs (read (read_rule k s text place)) r x)
  touching_so fit (admit text place (Err why) ∷ h) (next c l _) r x = touching_so fit h l r x
  touching_so fit (withdraw id (Ok u) ∷ h) (next {rs = rs} c l _) r x = touching_so fit h l r (has_without id rs r x)
  touching_so fit (withdraw id (Err why) ∷ h) (next c l _) r x = touching_so fit h l r x
  touching_so fit (report old a new ∷ h) (next c l _) r x = touching_so fit h l r x
  touching_so fit (decide port class point a ∷ h) (next c l _) r x = touching_so fit h l r x
  touching_so fit (route position port old a new ∷ h) (next c l _) r x = touching_so fit h l r x

  -- peace lasts while no rule is added
  pub lasting : {room : ℕ} (later earlier : List (Step P)) (old new : List (Entry P)) (totals : Totals) → totals.unsettled ≡ 0 → {rs : List (Ruling C)} → LedTo s k room (later ++ report old (Ok totals) new ∷ earlier) rs → AddsNone later → Peace rs
  lasting [] earlier old new totals z (next {rs = rs} c l (reports m)) u = peace_now rs (take totals.pairs new) m.names (sym m.open_ones ∙ z)
  lasting (admit text place (Ok end) ∷ later) earlier old new totals z l u = absurd (u text place end here)
  lasting (admit text place (Err why) ∷ later) earlier old new totals z (next c l x) u = lasting later earlier old new totals z l (λ a b d h. u a b d (there h))
  lasting (withdraw id (Ok t) ∷ later) earlier old new totals z (next {rs = rs} c l x) u = λ q r hq hr d same. lasting later earlier old new totals z l (λ a b e h. u a b e (there h)) q r (has_without id rs q hq) (has_without id rs r hr) d same
  lasting (withdraw id (Err why) ∷ later) earlier old new totals z (next c l x) u = lasting later earlier old new totals z l (λ a b d h. u a b d (there h))
  lasting (report o a n ∷ later) earlier old new totals z (next c l x) u = lasting later earlier old new totals z l (λ a b d h. u a b d (there h))
  lasting (decide p a b d ∷ later) earlier old new totals z (next c l x) u = lasting later earlier old new totals z l (λ a b d h. u a b d (there h))
  lasting (route p q o a n ∷ later) earlier old new totals z (next c l x) u = lasting later earlier old new totals z l (λ a b d h. u a b d (there h))

  -- the rule at a position has the port
  abbrev pub HasPort : List (Ruling C) → ℕ → Port → Type 0
  HasPort rs position port = (r : Ruling C) × (slice_get rs position ≡ Some r) × Reached s r port

  -- what a report names keeps its place while no rule is taken away
  pub still : Sealed s → {room : ℕ} (later earlier : List (Step P)) (old new : List (Entry P)) (totals : Totals) (position : ℕ) (port : Port) (e : Entry P) → Has (take totals.pairs new) e → (position ≡ e.first) ⊎ (position ≡ e.second) → port ≡ e.port → {rs : List (Ruling C)} → LedTo s k room (later ++ report old (Ok totals) new ∷ earlier) rs → RemovesNone later → HasPort rs position port
  still fit [] earlier old new totals position port e d at p (next {rs = rs} c l (reports m)) u =
      let t = m.names.only.true_of e d in
      let o = t.tells.port_is.shared in
      elim at [
        | inl a ↦ (t.q, ap (λ n. slice_get rs n) a ∙ t.first_is, subst (λ n. Reached s t.q n) (sym p) ((touching_so fit earlier l t.q (nth_has rs e.first t.q t.first_is) e.port).0 o.one))
        | inr b ↦ (t.r, ap (λ n. slice_get rs n) b ∙ t.second_is, subst (λ n. Reached s t.r n) (sym p) ((touching_so fit earlier l t.r (nth_has rs e.second t.r t.second_is) e.port).0 o.other))
      ]
  still fit (admit text place (Ok end) ∷ later) earlier old new totals position port e d at p (next {rs = rs} c l x) u =
      let q = still fit later earlier old new totals position port e d at p l (λ i h. u i (there h)) in (q.0, nth_longer rs (read (read_rule k s text place)) position q.0 q.1, q.2)
  still fit (admit text place (Err why) ∷ later) earlier old new totals position port e d at p (next c l x) u = still fit later earlier old new totals position port e d at p l (λ i h. u i (there h))
  still fit (withdraw id (Ok t) ∷ later) earlier old new totals position port e d at p l u = absurd (u id here)
  still fit (withdraw id (Err why) ∷ later) earlier old new totals position port e d at p (next c l x) u = still fit later earlier old new totals position port e d at p l (λ i h. u i (there h))
  still fit (report o a n ∷ later) earlier old new totals position port e d at p (next c l x) u = still fit later earlier old new totals position port e d at p l (λ i h. u i (there h))
  still fit (decide o a b f ∷ later) earlier old new totals position port e d at p (next c l x) u = still fit later earlier old new totals position port e d at p l (λ i h. u i (there h))
  still fit (route o q a b f ∷ later) earlier old new totals position port e d at p (next c l x) u = still fit later earlier old new totals position port e d at p l (λ i h. u i (there h))

  mentioned : Sealed s → {room : ℕ} {rs : List (Ruling C)} (h : List (Step P)) (position : ℕ) (port : Port) → LedTo s k room h rs → Mentions h position port → HasPort rs position port
  mentioned fit {room} {rs} h position port l m = still fit m.later m.earlier m.old m.new m.totals position port m.e m.listed m.position_is m.port_is (subst (λ z. LedTo s k room z rs) m.is l) m.kept

  -- the law of a route, from what is right now
  pub routed : Sealed s → {room : ℕ} {rs : List (Ruling C)} (position : ℕ) (port : Port) (old new : List ℕ) (a : Result ℕ Refusal) → Right s k room rs (route position port old a new) → (h : List (Step P)) → LedTo s k room h rs → Routed s k h position port old a new
  routed fit {room} {rs} position port old new a (routes {n = n} enough drawn) h l = record { accepted = λ _ _. refl; drawn = subst (λ z. DrawnAt s z position port old n new) (sym (as_said l)) drawn }
  routed fit position port old new a (short_buffer lt) h l = record { accepted = λ le m. absurd (omega arith); drawn = tt }
  routed fit position port old new a (no_port le off) h l = record { accepted = λ _ m. absurd (let q = mentioned fit h position port l m in both_ways _ off q.2.1.touch.port); drawn = tt }
  routed fit position port old new a (untouched le on n) h l = record { accepted = λ _ m. absurd (let q = mentioned fit h position port l m in n q.0 q.1 q.2); drawn = tt }

  -- the law of a decision, from what is decided now
  pub decided : Sealed s → {room : ℕ} {rs : List (Ruling C)} (port : Port) (class : ℕ) (point : P) (d : Decision) → class < length s.classes → Decides s k rs port class point d → (h : List (Step P)) → LedTo s k room h rs → Decided s k h port class point d
  decided fit {room} {rs} port class point d lc x h l = record {
    as_defined = subst (λ z. Decides s k z port class point d) (sym (as_said l)) x;
    never_split = λ t e. no_split rs port class point lc (lasting t.later t.earlier t.old t.new t.totals t.none_open (subst (λ z. LedTo s k room z rs) t.is l) t.quiet) (subst (λ z. Decides s k rs port class point z) e x);
  }

  -- the same by own paths
  pub decided_by_paths : Sealed s → {room : ℕ} {rs : List (Ruling C)} (port : Port) (class : ℕ) (point : P) (d : Decision) → Decides s k rs port class point d → (h : List (Step P)) → LedTo s k room h rs → DecidedByPaths s k h port class point d
  decided_by_paths fit {room} {rs} port class point d x h l = subst (λ z. DecidesBy s k (Reached s) z port class point d) (sym (as_said l))
      (decides_also s k port class point rs (Held s) (Reached s) (λ r i t. (touching_so fit h l r i port).0 t) (λ r i t. (touching_so fit h l r i port).1 t) d x)

  -- a right answer lengthens every history
  pub lengthened : {room room' : ℕ} {rs rs' : List (Ruling C)} (c : Step P) → Right s k room rs c → rs' ≡ after s k c rs → room' ≡ room → (h : List (Step P)) → LedTo s k room h rs → LedTo s k room' (c ∷ h) rs'
  lengthened {room} {room'} {rs} c r e m h l = subst (λ z. LedTo s k room' (c ∷ h) z) (sym e) (subst (λ z. LedTo s k z (c ∷ h) (after s k c rs)) (sym m) (next c l r))
