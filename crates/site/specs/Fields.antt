-- What one field of a map declares.
--
-- Plan: what a map says so far. Field: a tag and its bytes.
-- declare: the plan after a field, or the cause that refuses it.
-- Adds: the same as a relation, without the causes.
use Rattle.std.specs.Prelude.{◌≡◌, ℕ, ◌<◌, Bool, true, false, cond, not, ◌&&◌, List, [], ◌∷◌, ◌++◌, length, drop, is_some, Some, None, Ok, Err, Option, Result, ◌==◌, ◌≢◌, nat_lt, codes, slice_index}
use Rattle.fixed.specs.declared.roster.NameFault.{NameFault}
use Rattle.fixed.specs.Rosters.{enrol, Absent}
use Rattle.fixed.specs.Spelling.{is_name}
use Rattle.site.specs.declared.parts.Link.{Link}
use Rattle.site.specs.declared.parts.Reading.{Reading}
use Rattle.site.specs.declared.parts.Reading.TheVariants.{Implied, Spoken}
use Rattle.site.specs.declared.refusals.Cause.{Cause}
use Rattle.site.specs.declared.refusals.Cause.TheVariants.{UnknownTag, TableFull, BadLink, BadRankOrReading}
use Rattle.site.specs.Links.{joined}
use Rattle.site.specs.Plans.{Plan}
use Rattle.site.specs.Refusals.{raised}

pub record Field : Type 0 where
  pub tag : ℕ
  pub body : List ℕ

abbrev pub field : ℕ → List ℕ → Field
field t b = record { tag = t; body = b }

-- a plan with one of its parts made anew
abbrev pub with_nodes : Plan → List (List ℕ) → Plan
with_nodes s xs = record { nodes = xs; links = s.links; classes = s.classes; users = s.users; ranks = s.ranks; reading = s.reading }

abbrev pub with_link : Plan → Link → Plan
with_link s l = record { nodes = s.nodes; links = s.links ++ l ∷ []; classes = s.classes; users = s.users; ranks = s.ranks; reading = s.reading }

abbrev pub with_classes : Plan → List (List ℕ) → Plan
with_classes s xs = record { nodes = s.nodes; links = s.links; classes = xs; users = s.users; ranks = s.ranks; reading = s.reading }

abbrev pub with_users : Plan → List (List ℕ) → List ℕ → Plan
with_users s xs rs = record { nodes = s.nodes; links = s.links; classes = s.classes; users = xs; ranks = rs; reading = s.reading }

abbrev pub with_reading : Plan → Reading → Plan
with_reading s r = record { nodes = s.nodes; links = s.links; classes = s.classes; users = s.users; ranks = s.ranks; reading = Some r }

-- a table of names after one more, within a plan
abbrev pub adding : {A : Type 0} → (List (List ℕ) → A) → Result (List (List ℕ)) NameFault → Result A Cause
adding into (Ok xs) = Ok (into xs)
adding into (Err e) = Err (raised e)

abbrev pub declare_node : Plan → List ℕ → Result Plan Cause
declare_node s b = adding (with_nodes s) (enrol 48 s.nodes b)

abbrev pub declare_class : Plan → List ℕ → Result Plan Cause
declare_class s b = adding (with_classes s) (enrol 32 s.classes b)

-- whether two bytes name two different declared nodes that no link joins yet
abbrev pub fitting : Plan → List ℕ → Bool
fitting s b =
    (length b == 2) && (nat_lt (slice_index b 0) (length s.nodes) && (nat_lt (slice_index b 1) (length s.nodes)
    && (not (slice_index b 0 == slice_index b 1) && not (joined s.links (slice_index b 0) (slice_index b 1)))))

abbrev pub declare_link : Plan → List ℕ → Result Plan Cause
declare_link s b =
    cond (nat_lt (length s.links) 64)
    (cond (fitting s b) (Ok (with_link s (record { a = slice_index b 0; b = slice_index b 1 }))) (Err BadLink))
    (Err TableFull)

-- the names and ranks after a rank byte and a name
abbrev pub ranking : List ℕ → ℕ → Result (List (List ℕ)) NameFault → Result (List (List ℕ) × List ℕ) Cause
ranking rs rank (Ok xs) = cond (rank == 0) (Err BadRankOrReading) (Ok (xs, rs ++ rank ∷ []))
ranking rs rank (Err e) = Err (raised e)

abbrev pub enrol_user : List (List ℕ) → List ℕ → List ℕ → Result (List (List ℕ) × List ℕ) Cause
enrol_user us rs b = ranking rs (slice_index b 0) (enrol 16 us (drop 1 b))

abbrev pub seating : Plan → Result (List (List ℕ) × List ℕ) Cause → Result Plan Cause
seating s (Ok t) = Ok (with_users s t.0 t.1)
seating s (Err e) = Err e

abbrev pub declare_user : Plan → List ℕ → Result Plan Cause
declare_user s b = seating s (enrol_user s.users s.ranks b)

-- the reading that a byte sets
abbrev pub coded : ℕ → Option Reading
coded n = cond (n == 1) (Some Implied) (cond (n == 2) (Some Spoken) None)

abbrev pub reading_of : List ℕ → Option Reading
reading_of b = cond (length b == 1) (coded (slice_index b 0)) None

abbrev pub setting : Plan → Option Reading → Result Plan Cause
setting s (Some r) = Ok (with_reading s r)
setting s None = Err BadRankOrReading

abbrev pub declare_reading : Plan → List ℕ → Result Plan Cause
declare_reading s b = cond (is_some s.reading) (Err BadRankOrReading) (setting s (reading_of b))

-- the plan after a field, or the cause that refuses it
abbrev pub declare : Plan → Field → Result Plan Cause
declare s f =
    cond (f.tag == 1) (declare_node s f.body)
    (cond (f.tag == 2) (declare_link s f.body)
    (cond (f.tag == 3) (declare_class s f.body)
    (cond (f.tag == 4) (declare_user s f.body)
    (cond (f.tag == 5) (declare_reading s f.body)
    (Err UnknownTag)))))

-- what a reading is called
abbrev pub word_of : Reading → List ℕ
word_of Implied = codes "implied"
word_of Spoken = codes "spoken"

-- the byte that sets a reading
abbrev pub code : Reading → ℕ
code Implied = 1
code Spoken = 2

-- n is a name and not among xs
abbrev pub New : List ℕ → List (List ℕ) → Type 0
New n xs = (is_name n ≡ true) × Absent n xs

-- the field f can be declared on the plan s, and gives the plan t
pub data Adds : Plan → Field → Plan → Type 0 where
  node : (s : Plan) (n : List ℕ) → New n s.nodes → length s.nodes < 48 → Adds s (field 1 n) (with_nodes s (s.nodes ++ n ∷ []))
  link : (s : Plan) (m n : ℕ) → length s.links < 64 → m < length s.nodes → n < length s.nodes → (m ≢ n) → joined s.links m n ≡ false → Adds s (field 2 (m ∷ n ∷ [])) (with_link s (record { a = m; b = n }))
  class : (s : Plan) (n : List ℕ) → New n s.classes → length s.classes < 32 → Adds s (field 3 n) (with_classes s (s.classes ++ n ∷ []))
  user : (s : Plan) (r : ℕ) (n : List ℕ) → New n s.users → length s.users < 16 → 0 < r → Adds s (field 4 (r ∷ n)) (with_users s (s.users ++ n ∷ []) (s.ranks ++ r ∷ []))
  reading : (s : Plan) (r : Reading) → s.reading ≡ None → Adds s (field 5 (code r ∷ [])) (with_reading s r)
