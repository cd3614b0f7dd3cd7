-- Points written as text: what is written, whether it fits, and what the buffer then holds.
use Rattle.std.specs.Prelude.{◌≡◌, ℕ, ◌<◌, ◌≤◌, cond, List, [], ◌++◌, length, drop, Some, None, Option}
use Rattle.kind.specs.Sense.{Sense}

-- what is written for a point: its text, and nothing off the ground
abbrev pub shown : {C P : Type 0} → Sense C P → (P → List ℕ) → P → List ℕ
shown k text p = cond (k.on_ground p) (text p) []

-- the length of a text, if it is within a room
abbrev pub Within : ℕ → List ℕ → Option ℕ → Type 0
Within room t None = room < length t
Within room t (Some n) = (n ≡ length t) × (length t ≤ room)

-- a text is written to the front of a buffer where it fits, and the later bytes stay; else the whole buffer stays
abbrev pub Printed : List ℕ → List ℕ → Option ℕ → List ℕ → Type 0
Printed t before None after = (length before < length t) × (after ≡ before)
Printed t before (Some n) after = (n ≡ length t) × (length t ≤ length before) × (after ≡ t ++ drop (length t) before)
