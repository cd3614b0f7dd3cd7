-- What holds of every sealed site, promise by promise.
use Rattle.std.specs.Prelude.{◌≡◌, ℕ, ◌<◌, ◌≤◌, true, List, [], length, get_or, ◌≢◌, slice_index, slice_index_or}
use Rattle.fixed.specs.Spelling.{is_name}
use Rattle.site.specs.declared.parts.Link.{Link}
use Rattle.site.specs.Links.{nowhere, joins, linked}
use Rattle.site.specs.Plans.{Plan}

-- each entry is a name
abbrev pub Proper : List (List ℕ) → Type 0
Proper xs = (k : ℕ) → k < length xs → is_name (slice_index_or xs k []) ≡ true

-- no name stands twice
abbrev pub Distinct : List (List ℕ) → Type 0
Distinct xs = (i j : ℕ) → i < j → j < length xs → slice_index_or xs i [] ≢ slice_index_or xs j []

-- each link joins two different nodes out of n
abbrev pub TwoEnded : ℕ → List Link → Type 0
TwoEnded n ls = (k : ℕ) → k < length ls → ((get_or ls k nowhere).a < n) × ((get_or ls k nowhere).b < n) × ((get_or ls k nowhere).a ≢ (get_or ls k nowhere).b)

-- no two links join the same nodes
abbrev pub Unrepeated : List Link → Type 0
Unrepeated ls = (i j : ℕ) → i < j → j < length ls → joins (slice_index_or ls i nowhere) (get_or ls j nowhere).a (get_or ls j nowhere).b ≢ true

-- each of n nodes has a link
abbrev pub AllLinked : ℕ → List Link → Type 0
AllLinked n ls = (k : ℕ) → k < n → linked ls k ≡ true

-- each user has a rank, and none is 0
abbrev pub Ranked : List (List ℕ) → List ℕ → Type 0
Ranked us rs = (length rs ≡ length us) × ((k : ℕ) → k < length rs → 0 < slice_index rs k)

-- at most so many names, each of them proper, none twice
pub record Table (room : ℕ) (xs : List (List ℕ)) : Type 0 where
  pub few : length xs ≤ room
  pub proper : Proper xs
  pub distinct : Distinct xs

-- what holds of every map whose fields were declared
pub record Kept (s : Plan) : Type 0 where
  pub nodes : Table 48 s.nodes
  pub classes : Table 32 s.classes
  pub users : Table 16 s.users
  pub few_links : length s.links ≤ 64
  pub two_ended : TwoEnded (length s.nodes) s.links
  pub unrepeated : Unrepeated s.links
  pub ranked : Ranked s.users s.ranks

-- and of every one that could then be sealed
pub record Sound (s : Plan) : Type 0 where
  pub kept : Kept s
  pub some_node : 0 < length s.nodes
  pub some_class : 0 < length s.classes
  pub some_user : 0 < length s.users
  pub all_linked : AllLinked (length s.nodes) s.links
