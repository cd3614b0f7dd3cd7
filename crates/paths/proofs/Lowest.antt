-- The lowest port of two sets, link by link.
use Rattle.std.proofs.Common.{◌≡◌, ℕ, zero, suc, ◌+◌, ◌*◌, ◌<◌, ◌≤◌, Bool, true, false, cond, ◌&&◌, ◌||◌, eqb, ltb, ◌⊎◌, List, length, get_or, Some, None, Option, sym, refl, ◌∙◌, subst, inl, inr, ⊎_elim, arith, MatchOption}
use Rattle.std.proofs.lemmas.Bool.{eq-eqb, ne_eqb, eqb-true, eqb-false, ltb-true, ltb-false, lt-ltb, and_parts, and_from, or_cases, or_left, or_right, cases_Bool, cases_order, false≢true, cond_both}
use Rattle.std.proofs.lemmas.Option.{MatchOption-at_some, MatchOption-at_none}
use Rattle.std.specs.Option.{option_map}
use Rattle.site.specs.declared.parts.Link.{Link}
use Rattle.site.specs.Links.{nowhere}
use Rattle.site.specs.Promises.{TwoEnded}
use Rattle.paths.specs.declared.ports.Port.{Port}
use Rattle.paths.specs.declared.ports.PortSet.{PortSet}
use Rattle.paths.specs.Digits.{has}
use Rattle.paths.specs.PortSets.{is_port, number_of, holds, lower_end, common_at, Shared, Lowest}

-- which end a port in a set is
pub held_end : (ls : List Link) (s : PortSet) (p : Port) → holds ls s p ≡ true
    → (((get_or ls p.link nowhere).a ≡ p.node) × (has s.bits (2 * p.link) ≡ true)) ⊎ (((get_or ls p.link nowhere).a ≡ p.node → ⊥) × ((get_or ls p.link nowhere).b ≡ p.node) × (has s.bits (2 * p.link + 1) ≡ true))
held_end ls s p h =
    let parts = and_parts (is_port ls p) (has s.bits (number_of ls p)) h in
    let port = and_parts (ltb p.link (length ls)) (eqb (get_or ls p.link nowhere).a p.node || eqb (get_or ls p.link nowhere).b p.node) parts.0 in
    ⊎_elim
    (λ t. inl (eqb-true _ _ t, subst (λ b. has s.bits (cond b (2 * p.link) (2 * p.link + 1)) ≡ true) t parts.1))
    (λ f. inr (
      eqb-false _ _ f,
      ⊎_elim (λ t. absurd (false≢true (sym f ∙ t))) (λ t. eqb-true _ _ t) (or_cases _ _ port.1),
      subst (λ b. has s.bits (cond b (2 * p.link) (2 * p.link + 1)) ≡ true) f parts.1,
    ))
    (cases_Bool (eqb (get_or ls p.link nowhere).a p.node))

pub a_held : (ls : List Link) (s : PortSet) (i : ℕ) → i < length ls → has s.bits (2 * i) ≡ true → holds ls s (record { link = i; node = (get_or ls i nowhere).a }) ≡ true
a_held ls s i lt h =
    let e = eq-eqb (get_or ls i nowhere).a (get_or ls i nowhere).a refl in
    and_from _ _ (and_from _ _ (lt-ltb i (length ls) lt) (or_left _ _ e)) (subst (λ b. has s.bits (cond b (2 * i) (2 * i + 1)) ≡ true) (sym e) h)

pub b_held : (ls : List Link) (s : PortSet) (i : ℕ) → i < length ls → ((get_or ls i nowhere).a ≡ (get_or ls i nowhere).b → ⊥) → has s.bits (2 * i + 1) ≡ true
    → holds ls s (record { link = i; node = (get_or ls i nowhere).b }) ≡ true
b_held ls s i lt ne h =
    let e = eq-eqb (get_or ls i nowhere).b (get_or ls i nowhere).b refl in
    and_from _ _ (and_from _ _ (lt-ltb i (length ls) lt) (or_right _ _ e)) (subst (λ b. has s.bits (cond b (2 * i) (2 * i + 1)) ≡ true) (sym (ne_eqb _ _ ne)) h)

module _ (ls : List Link) (s t : PortSet) (i : ℕ) (lt : i < length ls) (ne : (get_or ls i nowhere).a ≡ (get_or ls i nowhere).b → ⊥) (below : (q : Port) → Shared ls s t q → i ≤ q.link) where
  -- a shared port of link i is at its first end or at its second
  At : Bool → Bool → Port → Type 0
  At a b q = (((get_or ls i nowhere).a ≡ q.node) × (a ≡ true)) ⊎ (((get_or ls i nowhere).b ≡ q.node) × (b ≡ true))

  at_end : (a b : Bool) → a ≡ (has s.bits (2 * i) && has t.bits (2 * i)) → b ≡ (has s.bits (2 * i + 1) && has t.bits (2 * i + 1))
      → (q : Port) → Shared ls s t q → i ≡ q.link → At a b q
  unfolding At
  at_end a b ea eb q sh e =
      let one = subst (λ x. (((get_or ls x nowhere).a ≡ q.node) × (has s.bits (2 * x) ≡ true)) ⊎ (((get_or ls x nowhere).a ≡ q.node → ⊥) × ((get_or ls x nowhere).b ≡ q.node) × (has s.bits (2 * x + 1) ≡ true))) (sym e) (held_end ls s q sh.one) in
      let other = subst (λ x. (((get_or ls x nowhere).a ≡ q.node) × (has t.bits (2 * x) ≡ true)) ⊎ (((get_or ls x nowhere).a ≡ q.node → ⊥) × ((get_or ls x nowhere).b ≡ q.node) × (has t.bits (2 * x + 1) ≡ true))) (sym e) (held_end ls t q sh.other) in
      ⊎_elim
      (λ x. ⊎_elim (λ y. inl (x.0, ea ∙ and_from _ _ x.1 y.1)) (λ y. absurd (y.0 x.0)) other)
      (λ x. ⊎_elim (λ y. absurd (x.0 y.0)) (λ y. inr (x.1, eb ∙ and_from _ _ x.2 y.2)) other)
      one

  step : (a b : Bool) → a ≡ (has s.bits (2 * i) && has t.bits (2 * i)) → b ≡ (has s.bits (2 * i + 1) && has t.bits (2 * i + 1))
      → MatchOption (lower_end (get_or ls i nowhere) a b) ((q : Port) → Shared ls s t q → i + 1 ≤ q.link) (λ n. Lowest ls s t (record { link = i; node = n }))
  unfolding At
  step true true ea eb =
      let pa = and_parts _ _ (sym ea) in
      let pb = and_parts _ _ (sym eb) in
      cond_both (ltb (get_or ls i nowhere).a (get_or ls i nowhere).b) (get_or ls i nowhere).a (get_or ls i nowhere).b (λ n. Lowest ls s t (record { link = i; node = n }))
      (λ w. record {
        shared = record { one = a_held ls s i lt pa.0; other = a_held ls t i lt pa.1 };
        first = λ q sh. ⊎_elim (λ e. inr (e, ⊎_elim (λ x. omega (arith, x.0)) (λ x. omega (arith, x.0, ltb-true _ _ w)) (at_end true true ea eb q sh e)))
            (⊎_elim (λ l. inl l) (λ g. absurd (omega (arith, below q sh)))) (cases_order i q.link);
      })
      (λ w. record {
        shared = record { one = b_held ls s i lt ne pb.0; other = b_held ls t i lt ne pb.1 };
        first = λ q sh. ⊎_elim (λ e. inr (e, ⊎_elim (λ x. omega (arith, x.0, ltb-false _ _ w)) (λ x. omega (arith, x.0)) (at_end true true ea eb q sh e)))
            (⊎_elim (λ l. inl l) (λ g. absurd (omega (arith, below q sh)))) (cases_order i q.link);
      })
  step true false ea eb =
      let pa = and_parts _ _ (sym ea) in
      record {
        shared = record { one = a_held ls s i lt pa.0; other = a_held ls t i lt pa.1 };
        first = λ q sh. ⊎_elim (λ e. inr (e, ⊎_elim (λ x. omega (arith, x.0)) (λ x. absurd (false≢true x.1)) (at_end true false ea eb q sh e)))
            (⊎_elim (λ l. inl l) (λ g. absurd (omega (arith, below q sh)))) (cases_order i q.link);
      }
  step false true ea eb =
      let pb = and_parts _ _ (sym eb) in
      record {
        shared = record { one = b_held ls s i lt ne pb.0; other = b_held ls t i lt ne pb.1 };
        first = λ q sh. ⊎_elim (λ e. inr (e, ⊎_elim (λ x. absurd (false≢true x.1)) (λ x. omega (arith, x.0)) (at_end false true ea eb q sh e)))
            (⊎_elim (λ l. inl l) (λ g. absurd (omega (arith, below q sh)))) (cases_order i q.link);
      }
  step false false ea eb =
      λ q sh. ⊎_elim (λ e. ⊎_elim (λ x. absurd (false≢true x.1)) (λ x. absurd (false≢true x.1)) (at_end false false ea eb q sh e))
      (⊎_elim (λ l. omega arith) (λ g. absurd (omega (arith, below q sh)))) (cases_order i q.link)

-- where links before it have no shared port, one link tells: the lowest shared port is at it, or none is at it or before it
common_step : (n : ℕ) (ls : List Link) (s t : PortSet) (i : ℕ) → TwoEnded n ls → i < length ls → ((q : Port) → Shared ls s t q → i ≤ q.link)
    → MatchOption (common_at s t i (get_or ls i nowhere)) ((q : Port) → Shared ls s t q → i + 1 ≤ q.link) (λ p. Lowest ls s t p)
common_step n ls s t i two lt below =
    at_port ((q : Port) → Shared ls s t q → i + 1 ≤ q.link)
    (lower_end (get_or ls i nowhere) (has s.bits (2 * i) && has t.bits (2 * i)) (has s.bits (2 * i + 1) && has t.bits (2 * i + 1)))
    (step ls s t i lt (two i lt).2 below _ _ refl refl)
  where
    at_port : (P : Type 0) (o : Option ℕ) → MatchOption o P (λ m. Lowest ls s t (record { link = i; node = m })) → MatchOption (option_map (λ m. record { link = i; node = m }) o) P (λ p. Lowest ls s t p)
    at_port P None h = h
    at_port P (Some m) h = h

none_below : (n : ℕ) (ls : List Link) (s t : PortSet) → TwoEnded n ls → (k : ℕ) → k ≤ length ls → ((j : ℕ) → j < k → common_at s t j (get_or ls j nowhere) ≡ None)
    → (q : Port) → Shared ls s t q → k ≤ q.link
none_below n ls s t two zero le none q sh = omega arith
none_below n ls s t two (suc k) le none q sh =
    let next = MatchOption-at_none ((q : Port) → Shared ls s t q → k + 1 ≤ q.link) (λ p. Lowest ls s t p) (none k (omega arith))
    (common_step n ls s t k two (omega arith) (none_below n ls s t two k (omega arith) (λ j lt. none j (omega arith)))) in
    omega (arith, next q sh)

none_past : (ls : List Link) (s t : PortSet) → ((q : Port) → Shared ls s t q → length ls ≤ q.link) → (q : Port) → Shared ls s t q → ⊥
none_past ls s t below q sh =
    let port = and_parts (is_port ls q) (has s.bits (number_of ls q)) sh.one in
    let lt = and_parts (ltb q.link (length ls)) (eqb (get_or ls q.link nowhere).a q.node || eqb (get_or ls q.link nowhere).b q.node) port.0 in
    omega (arith, ltb-true _ _ lt.0, below q sh)

-- the port of the first link that has a shared one is the lowest
pub first_is_lowest : (n : ℕ) (ls : List Link) (s t : PortSet) → TwoEnded n ls → (r : Option Port)
    → MatchOption r ((i : ℕ) → i < length ls → common_at s t i (get_or ls i nowhere) ≡ None)
    (λ p. (i : ℕ) × (i < length ls) × (common_at s t i (get_or ls i nowhere) ≡ Some p) × ((j : ℕ) → j < i → common_at s t j (get_or ls j nowhere) ≡ None))
    → MatchOption r ((q : Port) → Shared ls s t q → ⊥) (λ p. Lowest ls s t p)
first_is_lowest n ls s t two None none = none_past ls s t (none_below n ls s t two (length ls) (omega arith) none)
first_is_lowest n ls s t two (Some p) h =
    MatchOption-at_some ((q : Port) → Shared ls s t q → h.0 + 1 ≤ q.link) (λ p. Lowest ls s t p) p h.2
    (common_step n ls s t h.0 two h.1 (none_below n ls s t two h.0 (omega (arith, h.1)) h.3))
