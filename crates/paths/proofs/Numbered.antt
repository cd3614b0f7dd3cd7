-- The number of a port tells its link and its node.
use Rattle.std.proofs.Common.{◌≡◌, ℕ, ◌+◌, ◌*◌, ◌^◌, ◌<◌, true, cond, ◌||◌, eqb, ltb, ◌⊎◌, List, length, get_or, Decides, sym, refl, ap, ◌∙◌, subst, inl, inr, ⊎_elim, arith}
use lib.Bits.{bit_or}
use Rattle.std.proofs.lemmas.Bool.{false≢true, eq-eqb, eqb-true, eqb-false, ltb-true, and_parts, and_from, or_cases, or_left, or_right, cases_Bool, cond_both}
use Rattle.site.specs.declared.parts.Link.{Link}
use Rattle.site.specs.Links.{nowhere, ends}
use Rattle.paths.specs.declared.ports.Port.{Port}
use Rattle.paths.specs.declared.ports.PortSet.{PortSet}
use Rattle.paths.specs.Digits.{has}
use Rattle.paths.specs.PortSets.{is_port, number_of, holds}
use Rattle.paths.proofs.Bits.{has_with}

-- The number of a port tells its link.
abbrev pub EitherEnd : ℕ → ℕ → Type 0
EitherEnd i k = (2 * i ≡ k) ⊎ (2 * i + 1 ≡ k)

pub end_of : (ls : List Link) (q : Port) → EitherEnd q.link (number_of ls q)
end_of ls q = cond_both (eqb (get_or ls q.link nowhere).a q.node) (2 * q.link) (2 * q.link + 1) (EitherEnd q.link) (λ _. inl refl) (λ _. inr refl)

pub same_end : (i j k : ℕ) → EitherEnd i k → EitherEnd j k → i ≡ j
same_end i j k (inl p) (inl q) = omega arith
same_end i j k (inl p) (inr q) = omega arith
same_end i j k (inr p) (inl q) = omega arith
same_end i j k (inr p) (inr q) = omega arith

-- Which end of its link a port is.
abbrev pub EndAt : List Link → ℕ → ℕ → ℕ → ℕ → Type 0
EndAt ls i n j k = ((2 * (i + j) ≡ k) × ((get_or ls j nowhere).a ≡ n)) ⊎ ((2 * (i + j) + 1 ≡ k) × ((get_or ls j nowhere).a ≡ n → ⊥) × ((get_or ls j nowhere).b ≡ n))

pub port_end : (ls : List Link) (q : Port) → is_port ls q ≡ true → EndAt ls 0 q.node q.link (number_of ls q)
port_end ls q h =
    let port = and_parts (ltb q.link (length ls)) (eqb (get_or ls q.link nowhere).a q.node || eqb (get_or ls q.link nowhere).b q.node) h in
    ⊎_elim
    (λ t. inl (subst (λ b. 2 * (0 + q.link) ≡ cond b (2 * q.link) (2 * q.link + 1)) (sym t) (omega arith), eqb-true _ _ t))
    (λ f. inr (
      subst (λ b. 2 * (0 + q.link) + 1 ≡ cond b (2 * q.link) (2 * q.link + 1)) (sym f) (omega arith),
      eqb-false _ _ f,
      ⊎_elim (λ t. absurd (false≢true (sym f ∙ t))) (λ t. eqb-true _ _ t) (or_cases _ _ port.1),
    ))
    (cases_Bool (eqb (get_or ls q.link nowhere).a q.node))

pub port_link : (ls : List Link) (q : Port) → is_port ls q ≡ true → q.link < length ls
port_link ls q h = ltb-true _ _ (and_parts (ltb q.link (length ls)) (ends (get_or ls q.link nowhere) q.node) h).0

pub same_node : (ls : List Link) (i j m n k : ℕ) → EndAt ls 0 m i k → EndAt ls 0 n j k → m ≡ n
same_node ls i j m n k (inl x) (inl y) = let e : i ≡ j = omega (arith, x.0, y.0) in sym x.1 ∙ ap (λ z. (get_or ls z nowhere).a) e ∙ y.1
same_node ls i j m n k (inl x) (inr y) = absurd (omega (arith, x.0, y.0))
same_node ls i j m n k (inr x) (inl y) = absurd (omega (arith, x.0, y.0))
same_node ls i j m n k (inr x) (inr y) = let e : i ≡ j = omega (arith, x.0, y.0) in sym x.2 ∙ ap (λ z. (get_or ls z nowhere).b) e ∙ y.2

-- Two ports of one number are one.
pub same_port : (ls : List Link) (p q : Port) → is_port ls p ≡ true → is_port ls q ≡ true → number_of ls p ≡ number_of ls q → p ≡ q
same_port ls p q hp hq e =
    let link = same_end p.link q.link (number_of ls q) (subst (EitherEnd p.link) e (end_of ls p)) (end_of ls q) in
    let node = same_node ls p.link q.link p.node q.node (number_of ls q) (subst (EndAt ls 0 p.node p.link) e (port_end ls p hp)) (port_end ls q hq) in
    ap (λ x. record { link = x; node = p.node }) link ∙ ap (λ x. record { link = q.link; node = x }) node

-- A set with one port more.
pub one_port_more : (ls : List Link) (s t : PortSet) (p : Port) → is_port ls p ≡ true → t.bits ≡ bit_or s.bits (2 ^ number_of ls p)
    → (q : Port) → Decides (holds ls t q) ((holds ls s q ≡ true) ⊎ ((true ≡ true) × (q ≡ p)))
one_port_more ls s t p port e q = (
  λ h.
      let x = and_parts (is_port ls q) (has t.bits (number_of ls q)) h in
      ⊎_elim (λ a. inl (and_from (is_port ls q) (has s.bits (number_of ls q)) x.0 a)) (λ b. inr (refl, sym (same_port ls p q port x.0 (eqb-true _ _ b))))
      (or_cases _ _ (sym (ap (λ b. has b (number_of ls q)) e ∙ has_with s.bits (number_of ls p) (number_of ls q)) ∙ x.1)),
  λ h. ⊎_elim
      (λ a. let x = and_parts (is_port ls q) (has s.bits (number_of ls q)) a in
      and_from (is_port ls q) (has t.bits (number_of ls q)) x.0 (ap (λ b. has b (number_of ls q)) e ∙ has_with s.bits (number_of ls p) (number_of ls q) ∙ or_left _ _ x.1))
      (λ b. and_from (is_port ls q) (has t.bits (number_of ls q)) (subst (λ y. is_port ls y ≡ true) (sym b.1) port)
      (ap (λ x. has x (number_of ls q)) e ∙ has_with s.bits (number_of ls p) (number_of ls q) ∙ or_right _ _ (eq-eqb _ _ (ap (number_of ls) (sym b.1)))))
      h,
)
