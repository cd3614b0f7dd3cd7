-- Why a map is refused: each cause of a field's refusal in its own words, and which one is told.
--
-- Applies s bs c: the cause c applies to the field at the front of the bytes bs, where the map says s so far.
-- Refuses bytes c p: the map is refused for c at p.
use Rattle.std.specs.Prelude.{◌≡◌, ℕ, ◌<◌, ◌≤◌, true, false, ◌⊎◌, List, [], ◌++◌, length, drop, is_some, None, slice_index}
use Rattle.std.specs.List.{flat_map as concat}
use Rattle.fixed.specs.Rosters.{known}
use Rattle.fixed.specs.Spelling.{is_name}
use Rattle.site.specs.declared.refusals.Cause.{Cause}
use Rattle.site.specs.declared.refusals.Cause.TheVariants.{CutShort, UnknownTag, NotAName, DeclaredBefore, TableFull, BadLink, Unsealable, BadRankOrReading}
use Rattle.site.specs.Plans.{Plan}
use Rattle.site.specs.Fields.{Field, fitting, reading_of}
use Rattle.site.specs.Maps.{blank, span, front, sealable, encoded, Declares}
use Rattle.site.specs.Refusals.{number}

-- the field f declares the name n in the table xs, which has room for so many
pub data DeclaresName (s : Plan) (f : Field) : ℕ → List (List ℕ) → List ℕ → Type 0 where
  a_node : f.tag ≡ 1 → DeclaresName s f 48 s.nodes f.body
  a_class : f.tag ≡ 3 → DeclaresName s f 32 s.classes f.body
  a_user : f.tag ≡ 4 → DeclaresName s f 16 s.users (drop 1 f.body)

pub data Applies (s : Plan) (bs : List ℕ) : Cause → Type 0 where
  ends_in_head : length bs < 3 → Applies s bs CutShort
  ends_in_body : length bs < span bs → Applies s bs CutShort
  no_such_tag : ((front bs).tag ≡ 0) ⊎ (5 < (front bs).tag) → Applies s bs UnknownTag
  misspelled : (room : ℕ) (xs : List (List ℕ)) (n : List ℕ) → DeclaresName s (front bs) room xs n → is_name n ≡ false → Applies s bs NotAName
  named_before : (room : ℕ) (xs : List (List ℕ)) (n : List ℕ) → DeclaresName s (front bs) room xs n → known n xs ≡ true → Applies s bs DeclaredBefore
  no_room_for_name : (room : ℕ) (xs : List (List ℕ)) (n : List ℕ) → DeclaresName s (front bs) room xs n → room ≤ length xs → Applies s bs TableFull
  no_room_for_link : (front bs).tag ≡ 2 → 64 ≤ length s.links → Applies s bs TableFull
  unfit_link : (front bs).tag ≡ 2 → fitting s (front bs).body ≡ false → Applies s bs BadLink
  rank_zero : (front bs).tag ≡ 4 → slice_index (front bs).body 0 ≡ 0 → Applies s bs BadRankOrReading
  second_reading : (front bs).tag ≡ 5 → is_some s.reading ≡ true → Applies s bs BadRankOrReading
  no_reading : (front bs).tag ≡ 5 → reading_of (front bs).body ≡ None → Applies s bs BadRankOrReading

-- the cause with the smallest number that applies
pub record Told (s : Plan) (bs : List ℕ) (c : Cause) : Type 0 where
  pub applies : Applies s bs c
  pub smallest : (d : Cause) → Applies s bs d → number c ≤ number d

-- the fields before the place p could be declared, and then
pub data RefusesAfter (s : Plan) (rest : List ℕ) : Cause → Type 0 where
  a_field : (c : Cause) → 0 < length rest → Told s rest c → RefusesAfter s rest c
  the_seal : rest ≡ [] → sealable s ≡ false → RefusesAfter s rest Unsealable

pub record Refuses (bytes : List ℕ) (c : Cause) (p : ℕ) : Type 0 where
  pub said : List Field
  pub rest : List ℕ
  pub s : Plan
  pub whole : bytes ≡ concat encoded said ++ rest
  pub declares : Declares blank said s
  pub place : p ≡ length (concat encoded said)
  pub why : RefusesAfter s rest c
