-- The least common second of two windows: it begins the day or one of the two.
use Rattle.std.proofs.Common.{◌≡◌, ℕ, Bool, true, false, ◌&&◌, min, max, [], ◌∷◌, Some, None, Option, cond, refl, rules, arith}
use Rattle.std.specs.List.{find}
use Rattle.std.proofs.lemmas.Bool.Decides.{nat_tests}
use Rattle.std.proofs.lemmas.Bool.{and_parts}
use Rattle.clock.specs.declared.clock.Clock.{Clock}
use Rattle.clock.specs.Windows.{from, in_window, clock_sense}
use Rattle.kind.specs.Sense.{Commons, Least}

module _ (a b : Clock) (e l : ℕ) (early : e ≡ min (from a) (from b)) (late : l ≡ max (from a) (from b)) where
  at_0 : in_window a 0 ≡ true → in_window b 0 ≡ true → Least (in_window a) (in_window b) 0
  at_0 h k = search rules

  at_early : (in_window a 0 && in_window b 0) ≡ false → in_window a e ≡ true → in_window b e ≡ true → Least (in_window a) (in_window b) e
  at_early h k m = search rules

  at_late : (in_window a 0 && in_window b 0) ≡ false → (in_window a e && in_window b e) ≡ false → in_window a l ≡ true → in_window b l ≡ true → Least (in_window a) (in_window b) l
  at_late h k m n = record { in_first = m; in_second = n; none_below = λ q lt f g. grind (arith, nat_tests) }

  nowhere : (in_window a 0 && in_window b 0) ≡ false → (in_window a e && in_window b e) ≡ false → (in_window a l && in_window b l) ≡ false → Commons clock_sense a b None
  nowhere h k m = λ q f g. grind (arith, nat_tests)

  -- of these three, the first that is in both windows
  first_is_least : (x y z : Bool) → (in_window a 0 && in_window b 0) ≡ x → (in_window a e && in_window b e) ≡ y → (in_window a l && in_window b l) ≡ z → Commons clock_sense a b (cond x (Some 0) (cond y (Some e) (cond z (Some l) None)))
  first_is_least true y z h k m = let p = and_parts _ _ h in at_0 p.0 p.1
  first_is_least false true z h k m = let p = and_parts _ _ k in at_early h p.0 p.1
  first_is_least false false true h k m = let p = and_parts _ _ m in at_late h k p.0 p.1
  first_is_least false false false h k m = nowhere h k m

  pub earliest : (r : Option ℕ) → r ≡ find (λ p. in_window a p && in_window b p) (0 ∷ e ∷ l ∷ []) → Commons clock_sense a b r
  earliest r h = rw h (first_is_least _ _ _ refl refl refl)
