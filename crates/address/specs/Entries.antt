-- Comparisons of addresses: an `==` asks for a block, a `!=` excludes one.
use Rattle.std.specs.Prelude.{ℕ, Bool, false, not, List, None, Option}
use Rattle.std.specs.List.{list_all}
use Rattle.address.specs.declared.entry.Entry.{Entry}
use Rattle.address.specs.declared.entry.Entry.TheVariants.{In, Out}
use Rattle.address.specs.Blocks.{covers, part_at, names}

-- an address is in the block of an `==` and outside the block of a `!=`
abbrev pub agrees : List ℕ → Entry → Bool
agrees p (In b) = covers b p
agrees p (Out b) = not (covers b p)

-- all comparisons hold together
abbrev pub all_agree : List ℕ → List Entry → Bool
all_agree p es = list_all (agrees p) es

-- the number that an `==` gives a part
abbrev pub fixed : ℕ → Entry → Option ℕ
fixed i (In b) = part_at b i
fixed i (Out b) = None

-- a `!=` has a certain number at a part
abbrev pub excludes : ℕ → ℕ → Entry → Bool
excludes i v (In b) = false
excludes i v (Out b) = names b i v
