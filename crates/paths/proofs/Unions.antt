-- The union over some patterns, pattern by pattern.
use Rattle.std.proofs.Common.{◌≡◌, ℕ, ◌+◌, ◌<◌, ◌≤◌, true, ◌⊎◌, List, [], ◌∷◌, ◌++◌, length, get_or, drop, Ok, Err, Decides, Result, sym, refl, ap, ◌∙◌, subst, inl, inr, ⊎_elim, arith}
use lib.Bits.{bit_or}
use Rattle.std.proofs.lemmas.List.{drop_more, drop_all}
use Rattle.std.proofs.lemmas.Bool.{false≢true, and_parts, and_from, or_cases, or_left, or_right}
use Rattle.site.specs.declared.parts.Link.{Link}
use Rattle.paths.specs.declared.finding.Fault.{Fault}
use Rattle.paths.specs.declared.pattern.Item.{Item}
use Rattle.paths.specs.declared.ports.Port.{Port}
use Rattle.paths.specs.declared.ports.PortSet.{PortSet}
use Rattle.paths.specs.Found.{searched}
use Rattle.paths.specs.Paths.{In, Reached, Touched, Judged}
use Rattle.paths.specs.Digits.{has}
use Rattle.paths.specs.PortSets.{is_port, number_of, holds}
use Rattle.paths.specs.Unions.{next, united, Accepted, ReachedByOne, AllJudged}
use Rattle.paths.proofs.Bits.{has_or, has_none}

united_more : (ls : List Link) (c i : ℕ) (s : PortSet) (ps : List (List Item)) (d : List Item) → i < length ps → d ≡ get_or ps i d
    → united ls c i s (drop i ps) ≡ next (searched ls c d) i (λ t. united ls c (i + 1) (record { bits = bit_or s.bits t.bits }) (drop (i + 1) ps))
unfolding united
united_more ls c i s ps d lt item = ap (united ls c i s) (drop_more ps i d lt ∙ ap (λ (x : List Item). x ∷ drop (i + 1) ps) (sym item))

pub united_none : (ls : List Link) (c : ℕ) (s : PortSet) (ps : List (List Item)) → s.bits ≡ 0 → united ls c 0 s ps ≡ united ls c 0 (record { bits = 0 }) ps
united_none ls c s ps e = ap (λ x. united ls c 0 (record { bits = x }) ps) e

ok_next : (r : Result PortSet Fault) (i : ℕ) (t : PortSet) → next r i Ok ≡ Ok t → r ≡ Ok t
ok_next (Ok x) i t e = let q : x ≡ t = cc in ap (λ y. Ok y) q
ok_next (Err f) i t e = let z : ◌≡◌ {A = ℕ} 0 1 = cc in absurd (omega arith)

err_next : (r : Result PortSet Fault) (i : ℕ) (e : ℕ × Fault) → next r i Ok ≡ Err e → (k : PortSet → Result PortSet (ℕ × Fault)) → next r i k ≡ Err e
err_next (Ok x) i e h k = let z : ◌≡◌ {A = ℕ} 0 1 = cc in absurd (omega arith)
err_next (Err f) i e h k = h

-- One pattern more: the answer r to it, numbered.
module _ (ls : List Link) (c i : ℕ) (s : PortSet) (ps : List (List Item)) (d : List Item) (r all : Result PortSet (ℕ × Fault))
    (lt : i < length ps) (item : d ≡ get_or ps i d) (is : r ≡ next (searched ls c d) i Ok) (e : united ls c i s (drop i ps) ≡ all) where
  pub united_ok : (t s' : PortSet) → r ≡ Ok t → s'.bits ≡ bit_or s.bits t.bits → united ls c (i + 1) s' (drop (i + 1) ps) ≡ all
  united_ok t s' ok b =
      ap (λ x. united ls c (i + 1) (record { bits = x }) (drop (i + 1) ps)) b
      ∙ ap (λ x. next x i (λ t. united ls c (i + 1) (record { bits = bit_or s.bits t.bits }) (drop (i + 1) ps))) (sym (ok_next (searched ls c d) i t (sym is ∙ ok)))
      ∙ sym (united_more ls c i s ps d lt item) ∙ e

  pub united_err : (f : ℕ × Fault) → r ≡ Err f → Err f ≡ all
  united_err f err =
      sym (err_next (searched ls c d) i f (sym is ∙ err) (λ t. united ls c (i + 1) (record { bits = bit_or s.bits t.bits }) (drop (i + 1) ps)))
      ∙ sym (united_more ls c i s ps d lt item) ∙ e

pub united_all : (ls : List Link) (c i : ℕ) (s : PortSet) (ps : List (List Item)) (all : Result PortSet (ℕ × Fault)) → length ps ≤ i → united ls c i s (drop i ps) ≡ all → Ok s ≡ all
unfolding united
united_all ls c i s ps all h e = sym (ap (united ls c i s) (drop_all i ps h)) ∙ e

-- The answer is right, from some pattern on.
record RefusedOn (ls : List Link) (c i : ℕ) (ps : List (List Item)) (k : ℕ) (f : Fault) : Type 0 where
  before : List (List Item)
  pattern : List Item
  behind : List (List Item)
  whole : ps ≡ before ++ pattern ∷ behind
  number : i + length before ≡ k
  accepted : (p : List Item) → In p before → Accepted ls c p
  refused : searched ls c pattern ≡ Err f

record TouchedOn (ls : List Link) (c : ℕ) (s : PortSet) (ps : List (List Item)) (t : PortSet) : Type 0 where
  accepted : (p : List Item) → In p ps → Accepted ls c p
  each : (q : Port) → Decides (holds ls t q) ((holds ls s q ≡ true) ⊎ ReachedByOne ls c ps q)

abbrev JudgedOn : List Link → ℕ → ℕ → PortSet → List (List Item) → Result PortSet (ℕ × Fault) → Type 0
JudgedOn ls c i s ps (Ok t) = TouchedOn ls c s ps t
JudgedOn ls c i s ps (Err e) = RefusedOn ls c i ps e.0 e.1

holds_or : (ls : List Link) (s t : PortSet) (q : Port) → holds ls (record { bits = bit_or s.bits t.bits }) q ≡ true → (holds ls s q ≡ true) ⊎ (holds ls t q ≡ true)
holds_or ls s t q h =
    let x = and_parts (is_port ls q) (has (bit_or s.bits t.bits) (number_of ls q)) h in
    ⊎_elim (λ a. inl (and_from _ _ x.0 a)) (λ b. inr (and_from _ _ x.0 b)) (or_cases _ _ (sym (has_or s.bits t.bits (number_of ls q)) ∙ x.1))

or_holds : (ls : List Link) (s t : PortSet) (q : Port) → (holds ls s q ≡ true) ⊎ (holds ls t q ≡ true) → holds ls (record { bits = bit_or s.bits t.bits }) q ≡ true
or_holds ls s t q (inl h) =
    let x = and_parts (is_port ls q) (has s.bits (number_of ls q)) h in
    and_from _ _ x.0 (has_or s.bits t.bits (number_of ls q) ∙ or_left _ _ x.1)
or_holds ls s t q (inr h) =
    let x = and_parts (is_port ls q) (has t.bits (number_of ls q)) h in
    and_from _ _ x.0 (has_or s.bits t.bits (number_of ls q) ∙ or_right _ _ x.1)

widen : (ls : List Link) (c i : ℕ) (s t : PortSet) (p : List Item) (ps : List (List Item)) → searched ls c p ≡ Ok t → Touched ls c p t
    → (r : Result PortSet (ℕ × Fault)) → JudgedOn ls c (i + 1) (record { bits = bit_or s.bits t.bits }) ps r → JudgedOn ls c i s (p ∷ ps) r
widen ls c i s t p ps e touched (Ok u) g =
    record {
      accepted = λ x h. ⊎_elim (λ q. subst (Accepted ls c) (sym q) (record { ports = t; answer = e })) (λ b. g.accepted x b) h;
      each = λ q. (
        λ h. ⊎_elim
            (λ b. ⊎_elim (λ x. inl x) (λ x. inr (record { pattern = p; there = inl refl; reached = (touched.each q).0 x })) (holds_or ls s t q b))
            (λ r. inr (record { pattern = r.pattern; there = inr r.there; reached = r.reached }))
            ((g.each q).0 h),
        λ h. (g.each q).1 (⊎_elim
            (λ x. inl (or_holds ls s t q (inl x)))
            (λ r. ⊎_elim
            (λ x. inl (or_holds ls s t q (inr ((touched.each q).1 (subst (λ y. Reached ls c y q) x r.reached)))))
            (λ x. inr (record { pattern = r.pattern; there = x; reached = r.reached }))
            r.there)
            h),
      );
    }
widen ls c i s t p ps e touched (Err u) g =
    record {
      before = p ∷ g.before;
      pattern = g.pattern;
      behind = g.behind;
      whole = ap (λ x. p ∷ x) g.whole;
      number = omega (arith, g.number);
      accepted = λ x h. ⊎_elim (λ q. subst (Accepted ls c) (sym q) (record { ports = t; answer = e })) (λ b. g.accepted x b) h;
      refused = g.refused;
    }

judged_on : (ls : List Link) (c : ℕ) → ((p : List Item) → Judged ls c p (searched ls c p)) → (ps : List (List Item)) (i : ℕ) (s : PortSet) → JudgedOn ls c i s ps (united ls c i s ps)
unfolding united
judged_on ls c law [] i s = record { accepted = λ p h. absurd h; each = λ q. (λ h. inl h, λ h. ⊎_elim (λ x. x) (λ r. absurd r.there) h) }
judged_on ls c law (p ∷ ps) i s = go (searched ls c p) refl (law p) (λ t. judged_on ls c law ps (i + 1) (record { bits = bit_or s.bits t.bits }))
  where
    go : (r : Result PortSet Fault) → searched ls c p ≡ r → Judged ls c p r
        → ((t : PortSet) → JudgedOn ls c (i + 1) (record { bits = bit_or s.bits t.bits }) ps (united ls c (i + 1) (record { bits = bit_or s.bits t.bits }) ps))
        → JudgedOn ls c i s (p ∷ ps) (next r i (λ t. united ls c (i + 1) (record { bits = bit_or s.bits t.bits }) ps))
    go (Ok t) e j rec = widen ls c i s t p ps e j (united ls c (i + 1) (record { bits = bit_or s.bits t.bits }) ps) (rec t)
    go (Err f) e j rec = record { before = []; pattern = p; behind = ps; whole = refl; number = omega arith; accepted = λ x h. absurd h; refused = e }

narrow : (ls : List Link) (c : ℕ) (ps : List (List Item)) (r : Result PortSet (ℕ × Fault)) → JudgedOn ls c 0 (record { bits = 0 }) ps r → AllJudged ls c ps r
narrow ls c ps (Ok t) g =
    record {
      accepted = g.accepted;
      each = λ q. (
        λ h. ⊎_elim (λ x. absurd (false≢true (sym (has_none (number_of ls q)) ∙ (and_parts (is_port ls q) (has 0 (number_of ls q)) x).1))) (λ x. x) ((g.each q).0 h),
        λ r. (g.each q).1 (inr r),
      );
    }
narrow ls c ps (Err e) g =
    record { before = g.before; pattern = g.pattern; behind = g.behind; whole = g.whole; number = omega (arith, g.number); accepted = g.accepted; refused = g.refused }

pub all_judged : (ls : List Link) (c : ℕ) → ((p : List Item) → Judged ls c p (searched ls c p)) → (ps : List (List Item)) (r : Result PortSet (ℕ × Fault)) → r ≡ united ls c 0 (record { bits = 0 }) ps → AllJudged ls c ps r
all_judged ls c law ps r e = subst (AllJudged ls c ps) (sym e) (narrow ls c ps (united ls c 0 (record { bits = 0 }) ps) (judged_on ls c law ps 0 (record { bits = 0 })))
