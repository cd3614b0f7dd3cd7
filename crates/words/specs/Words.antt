-- What a word of a rule's text is: a name, a sign, or, where one is due, a value; blanks stand freely before it.
--   blank, value_byte       the bytes that part words, and the bytes of a value (those of a name are `name_byte`)
--   sign_of                 the sign that two bytes begin
--   word_of, value_of       the word at the front of bytes, where no blank stands
--   word_at, value_at       the same past the blanks of a part of the text
--   word_from, value_from   the same from a place of the text on
--   wants_value             whether a value is due; `due_of`, `due_at` and `due_from` are the word or the value that is
--   leading                 the word that is due at the front of bytes, and its length
--   bytes_of, Inside        the bytes of a word that was found, and that it lies in the text
--   any_more, More          whether a word may still come
use Rattle.std.specs.Prelude.{◌≡◌, ℕ, ◌+◌, ◌-◌, ◌<◌, ◌≤◌, min, Bool, true, false, cond, ◌||◌, List, length, take, drop, Some, None, Ok, Err, Option, Result, ◌==◌, nat_lt, slice_index}
use Rattle.std.specs.List.{prefix_len}
use Rattle.std.specs.Option.{option_map}
use Rattle.fixed.specs.Spelling.{name_byte}
use Rattle.site.specs.declared.refusals.Refusal.{Refusal}
use Rattle.site.specs.declared.refusals.Cause.TheVariants.{TextEnds, Unexpected}
use Rattle.site.specs.Refusals.{refuse}
use Rattle.words.specs.declared.signs.Sign.{Sign}
use Rattle.words.specs.declared.signs.Sign.TheVariants.{Open, Close, Less, Greater, Comma, Semicolon, Same, Equals, Differs, AtLeast, AtMost, Star, Becomes}
use Rattle.words.specs.declared.words.Word.{Word}
use Rattle.words.specs.declared.words.Word.TheVariants.{Name, Value, Sign as SignWord}
use Rattle.words.specs.declared.words.Found.{Found}
use Rattle.words.specs.declared.words.Due.{Due}
use Rattle.words.specs.declared.words.Due.TheVariants as due

-- space, tab, carriage return, line feed
abbrev pub blank : ℕ → Bool
blank b = b == 32 || (b == 9 || (b == 13 || b == 10))

-- letters, digits, underscore, dot, colon, star
abbrev pub value_byte : ℕ → Bool
value_byte b = name_byte b || (b == 46 || (b == 58 || b == 42))

-- the sign that begins with the bytes a and b, the longer of two, and its length
abbrev pub sign_of : ℕ → ℕ → Option (Sign × ℕ)
sign_of a b =
    cond (a == 123) (Some (Open, 1))
    (cond (a == 125) (Some (Close, 1))
    (cond (a == 60) (cond (b == 61) (Some (AtMost, 2)) (Some (Less, 1)))
    (cond (a == 62) (cond (b == 61) (Some (AtLeast, 2)) (Some (Greater, 1)))
    (cond (a == 44) (Some (Comma, 1))
    (cond (a == 59) (Some (Semicolon, 1))
    (cond (a == 61) (cond (b == 61) (Some (Same, 2)) (Some (Equals, 1)))
    (cond (a == 33) (cond (b == 61) (Some (Differs, 2)) None)
    (cond (a == 42) (Some (Star, 1))
    (cond (a == 58) (cond (b == 61) (Some (Becomes, 2)) None) None)))))))))

-- a word, from its first byte to the place after it
abbrev pub found : Word → ℕ → ℕ → Result Found Refusal
found w from to = Ok (record { word = w; from = from; to = to })

-- the sign that stands after n blanks, if one does
abbrev pub signed : ℕ → Option (Sign × ℕ) → Result Found Refusal
signed n (Some s) = found (SignWord s.0) n (n + s.1)
signed n None = refuse Unexpected n

-- the word at the front of bs, where no blank stands, after n blanks
abbrev pub word_of : ℕ → List ℕ → Result Found Refusal
word_of n bs =
    cond (length bs == 0) (refuse TextEnds n)
    (cond (name_byte (slice_index bs 0)) (found Name n (n + prefix_len name_byte bs))
    (signed n (sign_of (slice_index bs 0) (slice_index bs 1))))

-- the value at the front of bs, where no blank stands, after n blanks
abbrev pub value_of : ℕ → List ℕ → Result Found Refusal
value_of n bs =
    cond (length bs == 0) (refuse TextEnds n)
    (cond (prefix_len value_byte bs == 0) (refuse Unexpected n)
    (found Value n (n + prefix_len value_byte bs)))

-- the name or sign at the front of a part, past its blanks
abbrev pub word_at : List ℕ → Result Found Refusal
word_at bs = word_of (prefix_len blank bs) (drop (prefix_len blank bs) bs)

-- the value at the front of a part, past its blanks
abbrev pub value_at : List ℕ → Result Found Refusal
value_at bs = value_of (prefix_len blank bs) (drop (prefix_len blank bs) bs)

-- whether a value is due
abbrev pub wants_value : Due → Bool
wants_value due.Word = false
wants_value due.Value = true

-- a sign and its length, as a word
abbrev pub as_word : Sign × ℕ → Word × ℕ
as_word s = (SignWord s.0, s.1)

-- the word at the front of bs, and its length; bytes that begin none have none
abbrev pub leading : Bool → List ℕ → Option (Word × ℕ)
leading true bs = cond (prefix_len value_byte bs == 0) None (Some (Value, prefix_len value_byte bs))
leading false bs = cond (prefix_len name_byte bs == 0) (option_map as_word (sign_of (slice_index bs 0) (slice_index bs 1))) (Some (Name, prefix_len name_byte bs))

-- the value, or the name or sign, that is due at the front of bs, where no blank stands, after n blanks
abbrev pub due_of : Bool → ℕ → List ℕ → Result Found Refusal
due_of value n bs = cond value (value_of n bs) (word_of n bs)

-- the same at the front of a part, past its blanks
abbrev pub due_at : Bool → List ℕ → Result Found Refusal
due_at value bs = cond value (value_at bs) (word_at bs)

-- what was read of the part that begins at a place, with places counted in the whole text
abbrev pub moved : ℕ → Result Found Refusal → Result Found Refusal
moved at (Ok f) = Ok (record { word = f.word; from = at + f.from; to = at + f.to })
moved at (Err e) = Err (record { cause = e.cause; place = at + e.place })

-- the name or sign at a place or after it; a place past the text counts as its end
abbrev pub word_from : List ℕ → ℕ → Result Found Refusal
word_from text at = moved (min at (length text)) (word_at (drop at text))

-- the value at a place or after it
abbrev pub value_from : List ℕ → ℕ → Result Found Refusal
value_from text at = moved (min at (length text)) (value_at (drop at text))

-- what is due at a place: a value, or a name or sign
abbrev pub due_from : Bool → List ℕ → ℕ → Result Found Refusal
due_from value text at = cond value (value_from text at) (word_from text at)

-- the bytes of a word that was found in a text
abbrev pub bytes_of : List ℕ → Found → List ℕ
bytes_of text f = take (f.to - f.from) (drop f.from text)

-- a word lies within so many bytes and has one at least
abbrev pub Inside : ℕ → Found → Type 0
Inside len f = (f.from < f.to) × (f.to ≤ len)

-- whether bytes other than blanks stand at a place or after it
abbrev pub any_more : List ℕ → ℕ → Bool
any_more text place = nat_lt (prefix_len blank (drop place text)) (length (drop place text))

-- a test for such bytes: it passes exactly where one stands
pub record More (text : List ℕ) (place : ℕ) (answer : Bool) : Type 0 where
  pub some : answer ≡ true → (i : ℕ) × (place ≤ i) × (i < length text) × (blank (slice_index text i) ≡ false)
  pub all : answer ≡ false → (i : ℕ) → place ≤ i → i < length text → blank (slice_index text i) ≡ true
