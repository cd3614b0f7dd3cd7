-- What goes by a name, numbered from 0 in the order in which it was added.
use Rattle.std.specs.Prelude.{◌≡◌, ℕ, suc, ◌<◌, Bool, cond, List, [], ◌∷◌, ◌++◌, map, length, get_or, is_some, Some, None, Ok, Err, Option, Result, ◌≢◌, nat_lt, slice_index_or}
use Rattle.std.specs.Option.{option_map}
use Rattle.std.specs.Str.{bytes_eq}
use Rattle.fixed.specs.declared.roster.NameFault.{NameFault}
use Rattle.fixed.specs.declared.roster.NameFault.TheVariants.{NotAName, Repeated, Full}
use Rattle.fixed.specs.declared.roster.Roster.{Roster}
use Rattle.fixed.specs.Items.{items}
use Rattle.fixed.specs.Spelling.{is_name}

-- what a roster holds, first to last
abbrev pub held : {T : Type 0} {N : ℕ} → Roster T N → List T
held t = items t.list

-- the names that it is called by, each as its bytes
abbrev pub names : {T : Type 0} {N : ℕ} → (T → List ℕ) → Roster T N → List (List ℕ)
names called t = map called (held t)

-- the least number under which n stands
abbrev pub number_of : List ℕ → List (List ℕ) → Option ℕ
number_of n [] = None
number_of n (x ∷ xs) = cond (bytes_eq x n) (Some 0) (option_map suc (number_of n xs))

-- n stands at the number i, and at none below it
pub record First (n : List ℕ) (xs : List (List ℕ)) (i : ℕ) : Type 0 where
  pub within : i < length xs
  pub here : get_or xs i [] ≡ n
  pub before : (k : ℕ) → k < i → slice_index_or xs k [] ≢ n

-- n stands nowhere
abbrev pub Absent : List ℕ → List (List ℕ) → Type 0
Absent n xs = (k : ℕ) → k < length xs → slice_index_or xs k [] ≢ n

-- whether n stands there
abbrev pub known : List ℕ → List (List ℕ) → Bool
known n xs = is_some (number_of n xs)

-- a table for `room` names after n is added to it, or why it cannot be
abbrev pub enrol : ℕ → List (List ℕ) → List ℕ → Result (List (List ℕ)) NameFault
enrol room xs n =
    cond (is_name n)
    (cond (known n xs) (Err Repeated)
    (cond (nat_lt (length xs) room) (Ok (xs ++ n ∷ [])) (Err Full)))
    (Err NotAName)
