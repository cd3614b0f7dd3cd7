-- A walk over the contradicting pairs of a list's rules.
use Rattle.std.specs.Prelude.{◌≡◌, ℕ, ◌<◌, ◌⊎◌, List, [], ◌∷◌, ◌++◌, Option, MatchOption}
use Rattle.kind.specs.Sense.{Sense}
use Rattle.site.specs.Plans.{Plan}
use Rattle.rules.specs.Rules.{Ruling}
use Rattle.pairs.specs.declared.answers.Entry.{Entry}
use Rattle.pairs.specs.Lists.{Has}
use Rattle.pairs.specs.Pairs.{Named, Clashing, Names, NamesAll}

-- places in turn: by the first number, then by the second
abbrev pub Lex : ℕ → ℕ → ℕ → ℕ → Type 0
Lex a b c d = (a < c) ⊎ ((a ≡ c) × (b < d))

module _ {C P : Type 0} (s : Plan) (k : Sense C P) (rs : List (Ruling C)) where
  -- the pairs before the place (i, j) are named
  pub record Upto (i j : ℕ) (es : List (Entry P)) : Type 0 where
    pub only : Names s k rs es
    pub before : (e : Entry P) → Has es e → Lex e.first e.second i j
    pub every : (a b : ℕ) → Clashing s k rs a b → Lex a b i j → Named es a b

  -- from the place (i, j) on the walk came to the entry of the next such pair, and goes on at (i', j'); or there is none
  abbrev pub Onward : ℕ → ℕ → ℕ → ℕ → Option (Entry P) → Type 0
  Onward i j i' j' r = (es : List (Entry P)) → Upto i j es → MatchOption r (NamesAll s k rs es) (λ e. Upto i' j' (es ++ e ∷ []))
