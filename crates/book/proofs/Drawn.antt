-- A path drawn for a rule, from one drawn for its patterns.
use Rattle.std.proofs.Common.{◌≡◌, ℕ, ◌<◌, ◌≤◌, List, [], ◌∷◌, map, length, get_or, Some, None, Option, sym, refl, ap, ◌∙◌, subst, inl, inr, ⊎_elim, arith, MatchOption}
use Rattle.fixed.specs.Items.{items}
use Rattle.site.specs.Plans.{Plan}
use Rattle.paths.specs.declared.pattern.Item.{Item}
use Rattle.paths.specs.declared.ports.Port.{Port}
use Rattle.paths.specs.Paths.{In, Own}
use Rattle.paths.specs.Routes.{NoRoute, Routed}
use Rattle.sections.specs.Routes.{items_at}
use Rattle.rules.specs.declared.rule.Rule.{Rule}
use Rattle.rules.specs.Rules.{Ruling, rule_of}
use Rattle.book.specs.Drawing.{DrawnAt, NoneDrawn}
use Rattle.pairs.specs.Lists.{Has, here, there}
use Rattle.pairs.proofs.Having.{nth_one}
use Rattle.pairs.proofs.Seeing.{seen_nth}

listed_in : {A : Type 0} (xs : List A) (x : A) → In x xs → Has xs x
listed_in [] x h = absurd h
listed_in (y ∷ ys) x h = ⊎_elim (λ e. subst (Has (y ∷ ys)) (sym e) here) (λ q. there (listed_in ys x q)) h

in_listed : {A : Type 0} (xs : List A) (x : A) → Has xs x → In x xs
in_listed [] x h = elim h [ ]
in_listed (y ∷ ys) x here = inl refl
in_listed (y ∷ ys) x (there h) = inr (in_listed ys x h)

module _ {C : Type 0} (s : Plan) (rs : List (Rule C)) (position : ℕ) (port : Port) where
  module _ (r : Rule C) (lt : position < length rs) (is : r ≡ get_or rs position r) (ps : List (List Item)) (sliced : ps ≡ map items_at (items r.routes)) where
    unmet : (old : List ℕ) → 48 ≤ length old → NoRoute s.links (length s.nodes) ps port old → NoneDrawn s (map rule_of rs) position port
    unmet old le (inl few) q e m = absurd (omega arith)
    unmet old le (inr none) q e m =
        let me : rule_of r ≡ q = nth_one (seen_nth rs position r lt is) e in
        let found = in_listed ps m.1.pattern (subst (λ z. Has z m.1.pattern) (sym (sliced ∙ ap (λ (z : Ruling C). z.patterns) me)) m.1.listed) in
        none m.1.pattern found m.0 m.1.own m.1.touch

    pub drawn : (old new : List ℕ) (a : Option ℕ) → 48 ≤ length old
        → MatchOption a ((new ≡ old) × NoRoute s.links (length s.nodes) ps port old) (λ n. Routed s.links (length s.nodes) ps port old n new)
        → MatchOption a ((new ≡ old) × NoneDrawn s (map rule_of rs) position port) (λ n. DrawnAt s (map rule_of rs) position port old n new)
    drawn old new None le (kept, none) = (kept, unmet old le none)
    drawn old new (Some n) le w = (
      rule_of r,
      seen_nth rs position r lt is,
      record {
        path = w.path;
        reaches = record { pattern = w.pattern; listed = subst (λ z. Has z w.pattern) sliced (listed_in ps w.pattern w.there); own = w.own; touch = w.touches };
        size = w.size;
        written = w.front;
      },
    )
