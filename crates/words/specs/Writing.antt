-- How words are written: blanks, then the bytes of a word, and no longer word where it stands.
--   Token, spelling     a word of the language, and its bytes
--   Sound, valued       of which bytes it may be, and where it may stand
--   Longest, Stands     no longer word stands there; a word stands in a text
--   WordAt, NoWordAt    what the reader tells: the word that stands there, or why there is none
--   ReadAsItStands      the law of the word readers
use Rattle.std.specs.Prelude.{◌≡◌, ℕ, ◌+◌, ◌<◌, ◌≤◌, Bool, true, false, ◌↔◌, List, [], ◌∷◌, ◌++◌, length, drop, Ok, Err, Result}
use Rattle.fixed.specs.Spelling.{name_byte}
use Rattle.site.specs.declared.refusals.Cause.{Cause}
use Rattle.site.specs.declared.refusals.Cause.TheVariants.{TextEnds, Unexpected}
use Rattle.site.specs.declared.refusals.Refusal.{Refusal}
use Rattle.words.specs.declared.signs.Sign.{Sign}
use Rattle.words.specs.declared.signs.Sign.TheVariants.{Open, Close, Less, Greater, Comma, Semicolon, Same, Equals, Differs, AtLeast, AtMost, Star, Becomes}
use Rattle.words.specs.declared.words.Found.{Found}
use Rattle.words.specs.declared.words.Word.{Word}
use Rattle.words.specs.declared.words.Word.TheVariants.{Name, Value, Sign as SignWord}
use Rattle.words.specs.Words.{blank, value_byte}

-- a word of the language: a name, a value, or a sign
pub data Token : Type 0 where
  name : List ℕ → Token
  value : List ℕ → Token
  sign : Sign → Token

-- every byte passes a test
pub data Each (p : ℕ → Bool) : List ℕ → Type 0 where
  none : Each p []
  also : {c : ℕ} {cs : List ℕ} → p c ≡ true → Each p cs → Each p (c ∷ cs)

-- the bytes of a sign
abbrev pub sign_bytes : Sign → List ℕ
sign_bytes Open = 123 ∷ []
sign_bytes Close = 125 ∷ []
sign_bytes Less = 60 ∷ []
sign_bytes Greater = 62 ∷ []
sign_bytes Comma = 44 ∷ []
sign_bytes Semicolon = 59 ∷ []
sign_bytes Same = 61 ∷ 61 ∷ []
sign_bytes Equals = 61 ∷ []
sign_bytes Differs = 33 ∷ 61 ∷ []
sign_bytes AtLeast = 62 ∷ 61 ∷ []
sign_bytes AtMost = 60 ∷ 61 ∷ []
sign_bytes Star = 42 ∷ []
sign_bytes Becomes = 58 ∷ 61 ∷ []

-- the bytes of a word
abbrev pub spelling : Token → List ℕ
spelling (name n) = n
spelling (value v) = v
spelling (sign s) = sign_bytes s

-- a name is one or more name bytes, and a value one or more bytes of a value
abbrev pub Sound : Token → Type 0
Sound (name n) = (0 < length n) × Each name_byte n
Sound (value v) = (0 < length v) × Each value_byte v
Sound (sign s) = Unit {0}

-- values stand only where one is due, names and signs elsewhere
abbrev pub valued : Token → Bool
valued (name n) = false
valued (value v) = true
valued (sign s) = false

-- no longer word stands where t stands, if `more` follows it
abbrev pub Longest : Token → List ℕ → Type 0
Longest t more = (u : Token) (rest : List ℕ) → valued u ≡ valued t → Sound u → spelling t ++ more ≡ spelling u ++ rest → length (spelling u) ≤ length (spelling t)

-- in the text, after blanks from the place `at` on, the word t stands from `from` to `to`, and no longer one
pub record Stands (text : List ℕ) (at : ℕ) (t : Token) (from to : ℕ) : Type 0 where
  pub blanks : List ℕ
  pub more : List ℕ
  pub parts : drop at text ≡ blanks ++ (spelling t ++ more)
  pub empty : Each blank blanks
  pub sound : Sound t
  pub longest : Longest t more
  pub starts : from ≡ at + length blanks
  pub ends : to ≡ from + length (spelling t)

-- the same wherever it starts
abbrev pub Next : List ℕ → ℕ → Token → ℕ → Type 0
Next text at t to = (from : ℕ) × Stands text at t from to

-- what the reader tells of a word
abbrev pub kind : Token → Word
kind (name n) = Name
kind (value v) = Value
kind (sign s) = SignWord s

-- the word f is the one that stands at a place or after it: a value where one is due, else a name or a sign
pub record WordAt (due : Bool) (text : List ℕ) (at : ℕ) (f : Found) : Type 0 where
  pub token : Token
  pub stands : Stands text at token f.from f.to
  pub as_due : valued token ≡ due
  pub word : f.word ≡ kind token

-- why none does: only blanks are left, refused at the text's end, or a byte that begins no word comes after them, refused there
pub data NoWordAt (text : List ℕ) (at : ℕ) : Cause → ℕ → Type 0 where
  ended : Each blank (drop at text) → NoWordAt text at TextEnds (length text)
  unexpected : (blanks rest : List ℕ) (c : ℕ) → drop at text ≡ blanks ++ (c ∷ rest) → Each blank blanks → blank c ≡ false → NoWordAt text at Unexpected (at + length blanks)

-- an answer of a word reader is right: it finds a word exactly when that word stands there, and no longer one, and else says why there is none
pub record ReadAsItStands (due : Bool) (text : List ℕ) (at : ℕ) (answer : Result Found Refusal) : Type 0 where
  pub found : (f : Found) → (answer ≡ Ok f) ↔ WordAt due text at f
  pub refused : (e : Refusal) → answer ≡ Err e → NoWordAt text at e.cause e.place
