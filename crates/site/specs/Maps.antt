-- What the bytes of a map say: fields one after another, and then the seal.
--
-- read_map: the plan, or cause and place. Says: the same for an accepted map, as a relation.
use Rattle.std.specs.Prelude.{◌≡◌, ℕ, zero, suc, ◌+◌, ◌*◌, ◌/◌, ◌%◌, Bool, true, cond, ◌&&◌, List, [], ◌∷◌, ◌++◌, map, length, take, drop, Some, None, Ok, Err, Option, Result, ◌==◌, nat_lt, slice_index}
use Rattle.std.specs.List.{flat_map as concat}
use Rattle.site.specs.declared.parts.Link.{Link}
use Rattle.site.specs.declared.parts.Reading.{Reading}
use Rattle.site.specs.declared.refusals.Cause.{Cause}
use Rattle.site.specs.declared.refusals.Cause.TheVariants.{CutShort, Unsealable}
use Rattle.site.specs.declared.refusals.Refusal.{Refusal}
use Rattle.site.specs.Links.{linked}
use Rattle.site.specs.declared.draft.Draft.{Draft}
use Rattle.site.specs.Plans.{Plan, plan_of}
use Rattle.site.specs.Fields.{Field, field, declare, Adds, code}
use Rattle.site.specs.Refusals.{refuse}

-- the map of no field
abbrev pub blank : Plan
blank = record { nodes = []; links = []; classes = []; users = []; ranks = []; reading = None }

-- the length that the second and third byte of a field give, high byte first
abbrev pub body_length : List ℕ → ℕ
body_length bs = slice_index bs 1 * 256 + slice_index bs 2

-- the bytes at the front that belong to the field that begins there
abbrev pub span : List ℕ → ℕ
span bs = 3 + body_length bs

abbrev pub front : List ℕ → Field
front bs = field (slice_index bs 0) (take (body_length bs) (drop 3 bs))

-- a cause found at a place
abbrev pub placed : {A : Type 0} → ℕ → Result A Cause → Result A Refusal
placed p (Ok x) = Ok x
placed p (Err c) = refuse c p

-- the field at the front of bs, whose tag stands at p
abbrev pub one_field : ℕ → Plan → List ℕ → Result Plan Refusal
one_field p s bs =
    cond (nat_lt (length bs) 3) (refuse CutShort p)
    (cond (nat_lt (length bs) (span bs)) (refuse CutShort p)
    (placed p (declare s (front bs))))

-- whether each of the first n nodes has a link
abbrev pub every_node_linked : List Link → ℕ → Bool
every_node_linked ls zero = true
every_node_linked ls (suc n) = linked ls n && every_node_linked ls n

abbrev pub sealable : Plan → Bool
sealable s =
    nat_lt 0 (length s.nodes) && (nat_lt 0 (length s.classes) && (nat_lt 0 (length s.users)
    && every_node_linked s.links (length s.nodes)))

-- the plan at the end of the map, whose length is p
abbrev pub seal : ℕ → Plan → Result Plan Refusal
seal p s = cond (sealable s) (Ok s) (refuse Unsealable p)

abbrev pub onward : (Plan → Result Plan Refusal) → Result Plan Refusal → Result Plan Refusal
onward go (Ok s) = go s
onward go (Err e) = Err e

-- the fields of bs, the first of which stands at p, declared on s; k is at least their number
abbrev pub fields : ℕ → ℕ → Plan → List ℕ → Result Plan Refusal
fields zero p s bs = Ok s
fields (suc k) p s bs =
    cond (length bs == 0) (Ok s)
    (onward (λ t. fields k (p + span bs) t (drop (span bs) bs)) (one_field p s bs))

abbrev pub read_map : List ℕ → Result Plan Refusal
read_map bs = onward (seal (length bs)) (fields (length bs) 0 blank bs)

-- what a draft says, or why there is none
abbrev pub drafted : Result Draft Refusal → Result Plan Refusal
drafted (Ok d) = Ok (plan_of d)
drafted (Err e) = Err e

-- the bytes of a field
abbrev pub encoded : Field → List ℕ
encoded f = f.tag ∷ length f.body / 256 ∷ length f.body % 256 ∷ f.body

-- fields that can be declared one after another, from s to t
pub data Declares : Plan → List Field → Plan → Type 0 where
  none : (s : Plan) → Declares s [] s
  next : (s t u : Plan) (f : Field) (fs : List Field) → Adds s f t → Declares t fs u → Declares s (f ∷ fs) u

-- the bytes are the fields, one after another, of a list that can be declared from the map of no field, and its end s can be sealed
pub record Says (bytes : List ℕ) (s : Plan) : Type 0 where
  pub said : List Field
  pub spelled : bytes ≡ concat encoded said
  pub declares : Declares blank said s
  pub sealed : sealable s ≡ true

-- the fields that declare a plan, table by table
abbrev pub link_field : Link → Field
link_field l = field 2 (l.a ∷ l.b ∷ [])

abbrev pub user_fields : List (List ℕ) → List ℕ → List Field
user_fields [] rs = []
user_fields (u ∷ us) rs = field 4 (slice_index rs 0 ∷ u) ∷ user_fields us (drop 1 rs)

abbrev pub reading_fields : Option Reading → List Field
reading_fields None = []
reading_fields (Some r) = field 5 (code r ∷ []) ∷ []

abbrev pub fields_of : Plan → List Field
fields_of s =
    map (field 1) s.nodes ++ (map link_field s.links ++ (map (field 3) s.classes
    ++ (user_fields s.users s.ranks ++ reading_fields s.reading)))

-- a plan as the bytes of a map
abbrev pub written : Plan → List ℕ
written s = concat encoded (fields_of s)
