-- Where a rule of an id stands, and what is left without it.
use Rattle.std.proofs.Common.{◌≡◌, ℕ, suc, ◌+◌, ◌<◌, ◌≤◌, Bool, true, false, cond, not, ltb, List, [], ◌∷◌, map, length, Some, None, Option, MatchOption, is_some, sym, ap, ◌∙◌, subst, inl, inr, arith}
use Rattle.std.specs.List.{remove, position, position_or_len}
use Rattle.std.specs.Str.{bytes_eq}
use Rattle.std.proofs.lemmas.Bool.{true≢false, false≢true, cases_Bool, cond-true, cond-false, ltb-true, ltb-false}
use Rattle.std.proofs.lemmas.Slice.Eq.{bytes_eq-Decides}
use Rattle.fixed.specs.Names.{spelling}
use Rattle.rules.specs.declared.rule.Rule.{Rule}
use Rattle.rules.specs.Rules.{rule_of}
use Rattle.pairs.specs.Lists.{here, there}
use Rattle.pairs.proofs.Having.{has_none}
use Rattle.book.specs.Runs.{without, Known}

module _ {C : Type 0} (id : List ℕ) where
  abbrev pub test : Rule C → Bool
  test r = bytes_eq (spelling r.id) id

  -- the first rule of the id stands at n, or none does where n is past the rules
  record Standing (rs : List (Rule C)) (n : ℕ) : Type 0 where
    known : n < length rs → Known id (map rule_of rs)
    left : n < length rs → map rule_of (remove rs n) ≡ without id (map rule_of rs)
    none : length rs ≤ n → Known id (map rule_of rs) → ⊥

  first : (rs : List (Rule C)) → Standing rs (position_or_len test rs)
  first [] = record { known = λ l. absurd (omega arith); left = λ l. absurd (omega arith); none = λ _ q. has_none q.1 }
  first (r ∷ rs) = elim (cases_Bool (test r)) [
    | inl t ↦ subst (λ z. Standing (r ∷ rs) z) (sym (ap (λ b. cond (not b) (1 + position_or_len test rs) 0) t)) (record {
      known = λ _. (rule_of r, here, (bytes_eq-Decides (spelling r.id) id).0 t);
      left = λ _. sym (cond-true (test r) (map rule_of rs) (rule_of r ∷ without id (map rule_of rs)) t);
      none = λ l. absurd (omega arith);
    })
    | inr f ↦ subst (λ z. Standing (r ∷ rs) z) (sym (ap (λ b. cond (not b) (1 + position_or_len test rs) 0) f ∙ (let e : 1 + position_or_len test rs ≡ suc (position_or_len test rs) = omega arith in e))) (record {
      known = λ l. (let q = (first rs).known (omega arith) in (q.0, there q.1, q.2));
      left = λ l. ap (λ z. rule_of r ∷ z) ((first rs).left (omega arith)) ∙ sym (cond-false (test r) (map rule_of rs) (rule_of r ∷ without id (map rule_of rs)) f);
      none = λ l q. (first rs).none (omega arith) (later f q);
    })
  ]
    where
      later : test r ≡ false → Known id (rule_of r ∷ map rule_of rs) → Known id (map rule_of rs)
      later f (q, here, e) = absurd (true≢false (sym ((bytes_eq-Decides (spelling r.id) id).1 e) ∙ f))
      later f (q, there h, e) = (q, h, e)

  -- what a search for the rule says
  pub known_at : (rs : List (Rule C)) (o : Option ℕ) → o ≡ position test rs → MatchOption o (Known id (map rule_of rs) → ⊥) (λ i. (i < length rs) × Known id (map rule_of rs) × (map rule_of (remove rs i) ≡ without id (map rule_of rs)))
  known_at rs o e =
      let n : ℕ = position_or_len test rs in
      subst (λ z. MatchOption z (Known id (map rule_of rs) → ⊥) (λ i. (i < length rs) × Known id (map rule_of rs) × (map rule_of (remove rs i) ≡ without id (map rule_of rs)))) (sym e) (elim (cases_Bool (ltb n (length rs))) [
        | inl t ↦ subst (λ z. MatchOption z (Known id (map rule_of rs) → ⊥) (λ i. (i < length rs) × Known id (map rule_of rs) × (map rule_of (remove rs i) ≡ without id (map rule_of rs)))) (sym (cond-true (ltb n (length rs)) (Some n) None t)) (let l = ltb-true n (length rs) t in (l, (first rs).known l, (first rs).left l))
        | inr f ↦ subst (λ z. MatchOption z (Known id (map rule_of rs) → ⊥) (λ i. (i < length rs) × Known id (map rule_of rs) × (map rule_of (remove rs i) ≡ without id (map rule_of rs)))) (sym (cond-false (ltb n (length rs)) (Some n) None f)) ((first rs).none (ltb-false n (length rs) f))
      ])

  pub known_yes : (rs : List (Rule C)) (o : Option ℕ) → o ≡ position test rs → is_some o ≡ true → Known id (map rule_of rs)
  known_yes rs None e y = absurd (false≢true y)
  known_yes rs (Some i) e y = (known_at rs (Some i) e).1

  pub known_no : (rs : List (Rule C)) (o : Option ℕ) → o ≡ position test rs → is_some o ≡ false → Known id (map rule_of rs) → ⊥
  known_no rs None e y = known_at rs None e
  known_no rs (Some i) e y = absurd (true≢false y)
