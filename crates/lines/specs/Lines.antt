-- The lines of a report: one for each entry, and one for the totals.
use Rattle.std.specs.Prelude.{◌≡◌, ℕ, ◌<◌, ◌≤◌, true, false, ◌⊎◌, List, [], ◌++◌, length, drop, Some, Ok, Err, codes, decimal, Result}
use Rattle.std.specs.List.{slice_get}
use Rattle.std.specs.Option.{unwrap_or}
use Rattle.fixed.specs.Items.{items}
use Rattle.site.specs.declared.refusals.Cause.TheVariants.{NoRoom, NoPortOrClass, OffGround, NotTouched}
use Rattle.site.specs.declared.refusals.Refusal.{Refusal}
use Rattle.site.specs.Plans.{Plan}
use Rattle.site.specs.Refusals.{refuse}
use Rattle.kind.specs.Sense.{Sense}
use Rattle.kind.specs.Texts.{shown}
use Rattle.paths.specs.declared.ports.Port.{Port}
use Rattle.paths.specs.PortSets.{is_port, Shared}
use Rattle.rules.specs.Rules.{Ruling}
use Rattle.pairs.specs.declared.answers.Entry.{Entry}
use Rattle.pairs.specs.declared.answers.Mark.{Mark}
use Rattle.pairs.specs.declared.answers.Mark.TheVariants.{Open, First, Second}
use Rattle.pairs.specs.declared.answers.Totals.{Totals}
use Rattle.lines.specs.declared.line.Line.{Line}

-- what a line holds so far
abbrev pub written : Line → List ℕ
written l = items l.text

-- the name under a number
abbrev pub named : List (List ℕ) → ℕ → List ℕ
named xs n = unwrap_or (slice_get xs n) []

-- the word of a mark, between the ids and the link's number
abbrev pub mark_word : Mark → List ℕ
mark_word Open = codes " open link "
mark_word First = codes " first link "
mark_word Second = codes " second link "

-- how many pairs there are, and how many of them are open
abbrev pub totals_line : Totals → List ℕ
totals_line t = ((decimal t.pairs ++ codes " pairs, ") ++ decimal t.unsettled) ++ codes " open"

-- the line of an entry up to its point
abbrev pub entry_front : {C : Type 0} → Plan → Ruling C → Ruling C → Mark → Port → ℕ → List ℕ
entry_front s q r mark port class =
    ((((((((q.id ++ codes " ") ++ r.id) ++ mark_word mark) ++ decimal port.link) ++ codes " end ") ++ named s.nodes port.node) ++ codes " class ") ++ named s.classes class) ++ codes " at "

-- a text was written to the front of a buffer, and the bytes behind it are kept; or it is over the buffer, which stays
abbrev pub Put : List ℕ → List ℕ → Result ℕ Refusal → List ℕ → Type 0
Put text old (Ok n) new = (n ≡ length text) × (length text ≤ length old) × (new ≡ text ++ drop (length text) old)
Put text old (Err e) new = (e ≡ record { cause = NoRoom; place = 0 }) × (length old < length text) × (new ≡ old)

-- both rules of an entry stand and touch its port
pub record Stand {C : Type 0} (s : Plan) (rs : List (Ruling C)) (first second : ℕ) (port : Port) (q r : Ruling C) : Type 0 where
  pub first_is : slice_get rs first ≡ Some q
  pub second_is : slice_get rs second ≡ Some r
  pub share : Shared s.links q.ports r.ports port

module _ {C P : Type 0} (s : Plan) (k : Sense C P) (text : P → List ℕ) where
  -- the line of an entry
  abbrev pub entry_line : Ruling C → Ruling C → Entry P → List ℕ
  entry_line q r e = entry_front s q r e.mark e.port e.class ++ shown k text e.point

  -- what is answered for an entry, and what the buffer then holds: a false entry has no line
  pub data Lined (rs : List (Ruling C)) (e : Entry P) (old : List ℕ) : Result ℕ Refusal → List ℕ → Type 0 where
    lined : {q r : Ruling C} {a : Result ℕ Refusal} {new : List ℕ} → is_port s.links e.port ≡ true → e.class < length s.classes → k.on_ground e.point ≡ true → Stand s rs e.first e.second e.port q r → Put (entry_line q r e) old a new → Lined rs e old a new
    no_port_or_class : (is_port s.links e.port ≡ false) ⊎ (length s.classes ≤ e.class) → Lined rs e old (refuse NoPortOrClass 0) old
    off_ground : is_port s.links e.port ≡ true → e.class < length s.classes → k.on_ground e.point ≡ false → Lined rs e old (refuse OffGround 0) old
    not_touched : is_port s.links e.port ≡ true → e.class < length s.classes → k.on_ground e.point ≡ true → ((q r : Ruling C) → Stand s rs e.first e.second e.port q r → ⊥) → Lined rs e old (refuse NotTouched 0) old
