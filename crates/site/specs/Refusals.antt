-- The causes of refusal: the number of each, and the layer that finds it.
use Rattle.std.specs.Prelude.{ℕ, cond, Err, Result, nat_le}
use Rattle.fixed.specs.declared.roster.NameFault.{NameFault}
use Rattle.fixed.specs.declared.roster.NameFault.TheVariants as fault
use Rattle.site.specs.declared.refusals.Cause.{Cause}
use Rattle.site.specs.declared.refusals.Cause.TheVariants.{CutShort, UnknownTag, NotAName, DeclaredBefore, TableFull, BadLink, Unsealable, BadRankOrReading, TextEnds, Unexpected, OverLimit, Undeclared, NoKind, BadValue, DoubledBound, TooManyPaths, NoPath, IdStands, BookFull, NoSuchId, NoRoom, NoPortOrClass, OffGround, NotTouched}
use Rattle.site.specs.declared.refusals.Layer.{Layer}
use Rattle.site.specs.declared.refusals.Layer.TheVariants.{Map, Words, Rule, Kind, Paths, Book}
use Rattle.site.specs.declared.refusals.Refusal.{Refusal}

abbrev pub number : Cause → ℕ
number CutShort = 1
number UnknownTag = 2
number NotAName = 3
number DeclaredBefore = 4
number TableFull = 5
number BadLink = 6
number Unsealable = 7
number BadRankOrReading = 8
number TextEnds = 9
number Unexpected = 10
number OverLimit = 11
number Undeclared = 12
number NoKind = 13
number BadValue = 14
number DoubledBound = 15
number TooManyPaths = 16
number NoPath = 17
number IdStands = 18
number BookFull = 19
number NoSuchId = 20
number NoRoom = 21
number NoPortOrClass = 22
number OffGround = 23
number NotTouched = 24

-- 1 to 8 the map, 9 and 10 the words, 11 and 12 the rule, 13 to 15 a kind, 16 and 17 the paths, the rest the book
abbrev pub layer_of : Cause → Layer
layer_of c =
    cond (nat_le (number c) 8) Map
    (cond (nat_le (number c) 10) Words
    (cond (nat_le (number c) 12) Rule
    (cond (nat_le (number c) 15) Kind
    (cond (nat_le (number c) 17) Paths Book))))

-- what a table of names says of a name, as a cause
abbrev pub raised : NameFault → Cause
raised fault.NotAName = NotAName
raised fault.Repeated = DeclaredBefore
raised fault.Full = TableFull

abbrev pub refuse : {A : Type 0} → Cause → ℕ → Result A Refusal
refuse c p = Err (record { cause = c; place = p })
