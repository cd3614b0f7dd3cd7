-- The address that comparisons choose: a fixed part keeps its value, a free part takes the least free one.
use Rattle.std.specs.Prelude.{◌≡◌, ℕ, ◌<◌, Bool, true, false, List, [], ◌∷◌, length, Some, None, Option, slice_index}
use Rattle.std.specs.List.{list_any}
use Rattle.std.specs.Option.{option_or}
use Rattle.address.specs.declared.entry.Entry.{Entry}
use Rattle.address.specs.Entries.{fixed, excludes}

-- the number of a part in the first `==` that numbers it
abbrev pub fixed_at : ℕ → List Entry → Option ℕ
fixed_at i [] = None
fixed_at i (e ∷ es) = option_or (fixed i e) (fixed_at i es)

-- some `!=` has a certain number at a part
abbrev pub excluded_at : ℕ → ℕ → List Entry → Bool
excluded_at i v es = list_any (excludes i v) es

-- the least value that no `!=` has at a part
pub record LeastFree (i : ℕ) (es : List Entry) (v : ℕ) : Type 0 where
  pub free : excluded_at i v es ≡ false
  pub least : (u : ℕ) → u < v → excluded_at i u es ≡ true

-- the value of a part: the number that fixes it, or else the least free one
abbrev pub Kept : Option ℕ → ℕ → List Entry → ℕ → Type 0
Kept (Some w) i es v = v ≡ w
Kept None i es v = LeastFree i es v

-- a fixed part keeps its value; a free part takes the least free one
abbrev pub PartOf : List Entry → ℕ → ℕ → Type 0
PartOf es i v = Kept (fixed_at i es) i es v

-- the address that the comparisons of two rules choose, part by part
pub record Chosen (es : List Entry) (p : List ℕ) : Type 0 where
  pub four : length p ≡ 4
  pub part : (i : ℕ) → i < 4 → PartOf es i (slice_index p i)
