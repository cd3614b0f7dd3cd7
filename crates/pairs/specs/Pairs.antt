-- The contradicting pairs of a list of rules, and a report of them.
use Rattle.std.specs.Prelude.{◌≡◌, ℕ, ◌+◌, ◌<◌, ◌≤◌, ◌⊎◌, List, [], ◌∷◌, length, take, drop, Some, Ok, Result}
use Rattle.std.specs.List.{slice_get}
use Rattle.kind.specs.Sense.{Sense}
use Rattle.site.specs.declared.refusals.Cause.TheVariants.{NoRoom}
use Rattle.site.specs.declared.refusals.Refusal.{Refusal}
use Rattle.site.specs.Plans.{Plan}
use Rattle.site.specs.Refusals.{refuse}
use Rattle.rules.specs.Rules.{Ruling}
use Rattle.pairs.specs.declared.answers.Entry.{Entry}
use Rattle.pairs.specs.declared.answers.Mark.{Mark}
use Rattle.pairs.specs.declared.answers.Mark.TheVariants.{Open, First, Second}
use Rattle.pairs.specs.declared.answers.Totals.{Totals}
use Rattle.pairs.specs.Disagreement.{Contradict, Tells}
use Rattle.pairs.specs.Lists.{Has}

-- an entry names the two positions
abbrev pub Named : {P : Type 0} → List (Entry P) → ℕ → ℕ → Type 0
Named {P} es i j = (e : Entry P) × Has es e × (e.first ≡ i) × (e.second ≡ j)

-- one entry comes before another: by the first position, then by the second
abbrev pub Earlier : {P : Type 0} → Entry P → Entry P → Type 0
Earlier e f = (e.first < f.first) ⊎ ((e.first ≡ f.first) × (e.second < f.second))

-- each entry comes before all that follow
abbrev pub InOrder : {P : Type 0} → List (Entry P) → Type 0
InOrder [] = Unit {0}
InOrder {P} (e ∷ es) = ((f : Entry P) → Has es f → Earlier e f) × InOrder es

-- an entry with another point
abbrev pub pointed : {P : Type 0} → Entry P → P → Entry P
pointed e p = record { first = e.first; second = e.second; first_place = e.first_place; second_place = e.second_place; port = e.port; class = e.class; point = p; mark = e.mark }

-- the entries of two lists are one by one the same, but for their points
abbrev pub Alike : {P : Type 0} → List (Entry P) → List (Entry P) → Type 0
Alike [] [] = Unit {0}
Alike [] (f ∷ fs) = ⊥
Alike (e ∷ es) [] = ⊥
Alike (e ∷ es) (f ∷ fs) = (pointed e f.point ≡ f) × Alike es fs

-- an open pair counts once
abbrev pub one_open : Mark → ℕ
one_open Open = 1
one_open First = 0
one_open Second = 0

-- how many of the entries are open
abbrev pub opens : {P : Type 0} → List (Entry P) → ℕ
opens [] = 0
opens (e ∷ es) = opens es + one_open e.mark

module _ {C P : Type 0} (s : Plan) (k : Sense C P) where
  -- the rules at two positions, the first before the second, contradict each other
  pub record Clashing (rs : List (Ruling C)) (i j : ℕ) : Type 0 where
    pub q : Ruling C
    pub r : Ruling C
    pub first_is : slice_get rs i ≡ Some q
    pub second_is : slice_get rs j ≡ Some r
    pub in_turn : i < j
    pub contradict : Contradict s k q r

  -- an entry speaks truly of the rules at its two positions
  pub record SpeaksOf (rs : List (Ruling C)) (e : Entry P) : Type 0 where
    pub q : Ruling C
    pub r : Ruling C
    pub first_is : slice_get rs e.first ≡ Some q
    pub second_is : slice_get rs e.second ≡ Some r
    pub in_turn : e.first < e.second
    pub tells : Tells s k q r e

  -- the entries name contradicting pairs of the rules, each pair once and in order
  pub record Names (rs : List (Ruling C)) (es : List (Entry P)) : Type 0 where
    pub true_of : (e : Entry P) → Has es e → SpeaksOf rs e
    pub in_order : InOrder es

  -- and they name every such pair
  pub record NamesAll (rs : List (Ruling C)) (es : List (Entry P)) : Type 0 where
    pub only : Names rs es
    pub every : (i j : ℕ) → Clashing rs i j → Named es i j

  -- an accepted report of the rules: the list before and after, how many pairs, how many open ones
  pub record Reports (rs : List (Ruling C)) (old new : List (Entry P)) (pairs unsettled : ℕ) : Type 0 where
    pub names : NamesAll rs (take pairs new)
    pub open_ones : unsettled ≡ opens (take pairs new)
    pub room : pairs ≤ length old
    pub same_length : length new ≡ length old
    pub rest : drop pairs new ≡ drop pairs old

  -- what is answered for a list, and what it then holds: all pairs are reported, or it has fewer places than there are pairs
  pub data Listed (rs : List (Ruling C)) (old : List (Entry P)) : Result Totals Refusal → List (Entry P) → Type 0 where
    reports : {new : List (Entry P)} {totals : Totals} → Reports rs old new totals.pairs totals.unsettled → Listed rs old (Ok totals) new
    short_list : {es : List (Entry P)} → Names rs es → length old < length es → Listed rs old (refuse NoRoom 0) old
