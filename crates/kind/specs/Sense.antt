-- What a kind of condition means, and what every kind must keep.
use Rattle.std.specs.Prelude.{◌≡◌, ℕ, ◌<◌, Bool, true, List, Some, None, Option, ◌≢◌}
use Rattle.kind.specs.declared.comparison.Sign.{Sign}
use Rattle.kind.specs.Taking.{Taking}

-- the meaning of a kind with conditions C and points P:
-- which points are on the ground, at which points a condition holds, the open condition,
-- what a comparison (word, sign, value) makes of a condition, and which point it may give for two conditions
pub record Sense (C P : Type 0) : Type 1 where
  pub on_ground : P → Bool
  pub holds : C → P → Bool
  pub everywhere : C
  pub taken : C → List ℕ → Sign → List ℕ → Taking C
  pub gives : C → C → P → Type 0

-- what a kind must keep: some point is on the ground; a condition holds only there; the open one holds on all of it;
-- a given point is in the set of the first condition and in that of the second
pub record Laws {C P : Type 0} (k : Sense C P) : Type 0 where
  pub some_ground : (p : P) × (k.on_ground p ≡ true)
  pub within : (c : C) (p : P) → k.holds c p ≡ true → k.on_ground p ≡ true
  pub open_holds : (p : P) → k.on_ground p ≡ true → k.holds k.everywhere p ≡ true
  pub given_first : (a b : C) (p : P) → k.gives a b p → k.holds a p ≡ true
  pub given_second : (a b : C) (p : P) → k.gives a b p → k.holds b p ≡ true

-- some point is in both sets
abbrev pub Meet : {C P : Type 0} → Sense C P → C → C → Type 0
Meet {C} {P} k a b = (p : P) × (k.holds a p ≡ true) × (k.holds b p ≡ true)

-- no point is in both sets
abbrev pub Apart : {C P : Type 0} → Sense C P → C → C → Type 0
Apart {C} {P} k a b = (p : P) → k.holds a p ≡ true → k.holds b p ≢ true

-- the answer to a question for a common point: none exactly when there is none, else one that the kind gives
abbrev pub Commons : {C P : Type 0} → Sense C P → C → C → Option P → Type 0
Commons k a b None = Apart k a b
Commons k a b (Some p) = k.gives a b p

-- the least number of both sets
pub record Least (first second : ℕ → Bool) (p : ℕ) : Type 0 where
  pub in_first : first p ≡ true
  pub in_second : second p ≡ true
  pub none_below : (q : ℕ) → q < p → first q ≡ true → second q ≢ true

-- two conditions have one given point at most
abbrev pub OneGiven : {C P : Type 0} → Sense C P → Type 0
OneGiven {C} {P} k = (a b : C) (p q : P) → k.gives a b p → k.gives a b q → p ≡ q
