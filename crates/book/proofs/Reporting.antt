-- The laws of a report, from what is reported now.
use Rattle.std.proofs.Common.{◌≡◌, ℕ, List, take, IfOk, Some, Result, sym, ap, ◌∙◌, subst, arith}
use Rattle.std.specs.List.{slice_get}
use Rattle.site.specs.declared.refusals.Refusal.{Refusal}
use Rattle.pairs.specs.declared.answers.Totals.{Totals}
use Rattle.std.proofs.lemmas.List.{length-take-le}
use Rattle.std.proofs.lemmas.Bool.{eq-eqb, cond-true}
use Rattle.kind.specs.Sense.{Sense, Laws}
use Rattle.site.specs.Plans.{Plan}
use Rattle.rules.specs.Rules.{Ruling}
use Rattle.pairs.specs.declared.answers.Entry.{Entry}
use Rattle.pairs.specs.Disagreement.{ContradictAt, Tells}
use Rattle.pairs.specs.Lists.{Has}
use Rattle.pairs.specs.Pairs.{Named, Clashing, Reports, Listed, reports as listed_all, short_list as listed_short}
use Rattle.pairs.proofs.Having.{nth_has, nth_one}
use Rattle.pairs.proofs.Naming.{told, shows, open_means}
use Rattle.book.specs.Runs.{Step, report, standing, Right, reports, short_list, LedTo, Reported, ReportedByPaths}
use Rattle.book.proofs.Laws.{stands_so, touching_so}
use Rattle.book.proofs.Odds.{AllTouching, by_paths, pair_by_paths, pair_by_ports}
use Rattle.book.proofs.Reader.{Sealed}

module _ {C P : Type 0} (site : Plan) (k : Sense C P) where
  -- what is reported of the rules that stand is reported of what every history says
  stood : {room : ℕ} {rs : List (Ruling C)} (old list : List (Entry P)) (pairs unsettled : ℕ) → Reports site k rs old list pairs unsettled → (h : List (Step P)) → LedTo site k room h rs → Reports site k (standing site k h) old list pairs unsettled
  stood old list pairs unsettled now h l = subst (λ z. Reports site k z old list pairs unsettled) (stands_so site k h l) now

  -- what an entry names contradicts each other
  clashes : Laws k → (rs : List (Ruling C)) {old list : List (Entry P)} {pairs unsettled : ℕ} → Reports site k rs old list pairs unsettled → (i j : ℕ) → Named (take pairs list) i j → Clashing site k rs i j
  clashes laws rs n i j d = subst (λ z. Clashing site k rs z j) d.2 (subst (λ z. Clashing site k rs d.0.first z) d.3 (told site k laws rs d.0 (n.names.only.true_of d.0 d.1)))

  -- an entry shows where they do
  shows_where : Laws k → (rs : List (Ruling C)) {old list : List (Entry P)} {pairs unsettled : ℕ} → Reports site k rs old list pairs unsettled → (e : Entry P) (q r : Ruling C) → Has (take pairs list) e → slice_get rs e.first ≡ Some q → slice_get rs e.second ≡ Some r → ContradictAt site k q r e.port e.class e.point
  shows_where laws rs n e q r d p o =
      let u = n.names.only.true_of e d in
      shows site k laws q r e (subst (λ z. Tells site k z r e) (nth_one u.first_is p) (subst (λ z. Tells site k u.q z e) (nth_one u.second_is o) u.tells))

  -- the law of a report, from what is reported now
  pub reported : Laws k → {room : ℕ} {rs : List (Ruling C)} (old list : List (Entry P)) (pairs unsettled : ℕ) → Reports site k rs old list pairs unsettled → (h : List (Step P)) → LedTo site k room h rs → Reported site k h list pairs unsettled
  reported laws {room} {rs} old list pairs unsettled now h l =
      let n : Reports site k (standing site k h) old list pairs unsettled = stood old list pairs unsettled now h l in
      record {
        named = clashes laws (standing site k h) n;
        every = n.names.every;
        once = n.names.only.in_order;
        as_defined = n.names.only.true_of;
        shown = shows_where laws (standing site k h) n;
        counted = length-take-le pairs list (omega (arith, n.room, n.same_length));
        open_ones = sym n.open_ones;
        open_when = λ e q r d p o. (
            let t = n.names.only.true_of e d in
            let a : t.q.rank ≡ q.rank = ap (λ (x : Ruling C). x.rank) (nth_one t.first_is p) in
            let b : t.r.rank ≡ r.rank = ap (λ (x : Ruling C). x.rank) (nth_one t.second_is o) in (
              (λ m. sym a ∙ open_means t.q.rank t.r.rank (sym t.tells.mark_is ∙ m) ∙ b),
              (λ m. t.tells.mark_is ∙ cond-true _ _ _ (eq-eqb _ _ (a ∙ m ∙ sym b))),
            ));
      }

  -- the same by own paths
  pub by_own_paths : Laws k → Sealed site → {room : ℕ} {rs : List (Ruling C)} (old list : List (Entry P)) (pairs unsettled : ℕ) → Reports site k rs old list pairs unsettled → (h : List (Step P)) → LedTo site k room h rs → ReportedByPaths site k h list pairs
  by_own_paths laws fit {room} {rs} old list pairs unsettled now h l =
      let stand = standing site k h in
      let t : AllTouching site k stand = subst (λ z. AllTouching site k z) (stands_so site k h l) (λ r x. touching_so site k fit h l r x) in
      let n : Reports site k stand old list pairs unsettled = stood old list pairs unsettled now h l in
      record {
        named = λ i j d. pair_by_paths site k stand i j t (clashes laws stand n i j d);
        every = λ i j c. n.names.every i j (pair_by_ports site k stand i j t c);
        shown = λ e q r d p o. by_paths site k q r e.port e.class e.point (t q (nth_has stand e.first q p)) (t r (nth_has stand e.second r o)) (shows_where laws stand n e q r d p o);
      }

  -- what the pairs are listed as is the right answer to a report
  pub right_list : (room : ℕ) {rs : List (Ruling C)} (old list : List (Entry P)) (a : Result Totals Refusal) → Listed site k rs old a list → Right site k room rs (report old a list)
  right_list size old list a (listed_all m) = reports m
  right_list size old list a (listed_short n l) = short_list n l

  -- both laws of any right answer
  pub listed : Laws k → (room : ℕ) {rs : List (Ruling C)} (old list : List (Entry P)) (a : Result Totals Refusal) → Listed site k rs old a list → IfOk a (λ t. (h : List (Step P)) → LedTo site k room h rs → Reported site k h list t.pairs t.unsettled)
  listed laws size old list a (listed_all {totals = t} m) = reported laws old list t.pairs t.unsettled m
  listed laws size old list a (listed_short n l) = tt

  pub listed_by_paths : Laws k → Sealed site → (room : ℕ) {rs : List (Ruling C)} (old list : List (Entry P)) (a : Result Totals Refusal) → Listed site k rs old a list → IfOk a (λ t. (h : List (Step P)) → LedTo site k room h rs → ReportedByPaths site k h list t.pairs)
  listed_by_paths laws fit size old list a (listed_all {totals = t} m) = by_own_paths laws fit old list t.pairs t.unsettled m
  listed_by_paths laws fit size old list a (listed_short n l) = tt
