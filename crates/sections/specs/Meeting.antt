-- How a section of a rule is read: word by word, each in its stage, until the section is done.
use Rattle.std.specs.Prelude.{ℕ, zero, suc, Bool, cond, List, length, Ok, Err, Result}
use Rattle.site.specs.declared.refusals.Refusal.{Refusal}
use Rattle.site.specs.declared.refusals.Cause.TheVariants.{TextEnds}
use Rattle.site.specs.Refusals.{refuse}
use Rattle.words.specs.declared.words.Word.{Word}
use Rattle.words.specs.declared.words.Found.{Found}
use Rattle.words.specs.Words.{bytes_of, word_from, value_from}

-- goes on with what was read, or passes the refusal on
abbrev pub onward : {A B : Type 0} → (A → Result B Refusal) → Result A Refusal → Result B Refusal
onward go (Ok a) = go a
onward go (Err e) = Err e

-- a section with states S: what a word (with its bytes and its place) makes of a state, where a value is due, and which states end it
pub record Section (S : Type 0) : Type 0 where
  pub meet : S → Word → List ℕ → ℕ → Result S Refusal
  pub due : S → Bool
  pub done : S → Bool

-- the state after a word, and the place after it
abbrev pub met : {S : Type 0} → Section S → List ℕ → S → Found → Result (S × ℕ) Refusal
met M text s f = onward (λ t. Ok (t, f.to)) (M.meet s f.word (bytes_of text f) f.from)

-- one word on
abbrev pub turn : {S : Type 0} → Section S → List ℕ → S → ℕ → Result (S × ℕ) Refusal
turn M text s at = onward (met M text s) (cond (M.due s) (value_from text at) (word_from text at))

-- word after word until the section is done; each takes a byte at least, so as many as there are bytes suffice
abbrev pub turns : {S : Type 0} → Section S → ℕ → List ℕ → S → ℕ → Result (S × ℕ) Refusal
turns M zero text s at = cond (M.done s) (Ok (s, at)) (refuse TextEnds (length text))
turns M (suc k) text s at = cond (M.done s) (Ok (s, at)) (onward (λ p. turns M k text p.0 p.1) (turn M text s at))

-- a section read from a place on: its last state, and the place after it
abbrev pub read_section : {S : Type 0} → Section S → List ℕ → S → ℕ → Result (S × ℕ) Refusal
read_section M text s at = turns M (length text) text s at

-- what was read, seen through a view of it
abbrev pub viewed : {R S : Type 0} → (R → S) → Result (R × ℕ) Refusal → Result (S × ℕ) Refusal
viewed v (Ok p) = Ok (v p.0, p.1)
viewed v (Err e) = Err e
