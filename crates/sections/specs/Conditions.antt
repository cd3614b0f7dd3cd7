-- The section of conditions: `{*}`, or one to eight comparisons such as `{time >= 2200, day == Monday}`, offered to a kind in order.
use Rattle.std.specs.Prelude.{ℕ, ◌+◌, Bool, true, false, cond, ◌&&◌, List, [], length, Ok, Err, Result, nat_lt}
use Rattle.fixed.specs.Spelling.{is_name}
use Rattle.kind.specs.declared.comparison.Declined.{Declined}
use Rattle.kind.specs.declared.comparison.Declined.TheVariants.{BadValue, Doubled}
use Rattle.kind.specs.declared.comparison.Sign.{Sign as Relation}
use Rattle.kind.specs.declared.comparison.Sign.TheVariants.{Equal, NotEqual, AtLeast, AtMost}
use Rattle.kind.specs.Taking.{Taking, became, not_mine, bad_value, doubled}
use Rattle.site.specs.declared.refusals.Refusal.{Refusal}
use Rattle.site.specs.declared.refusals.Cause.{Cause}
use Rattle.site.specs.declared.refusals.Cause.TheVariants as cause
use Rattle.site.specs.Refusals.{refuse}
use Rattle.words.specs.declared.signs.Sign.TheVariants as sign
use Rattle.words.specs.declared.words.Word.{Word}
use Rattle.sections.specs.declared.conditions.Conditioning.{Conditioning}
use Rattle.sections.specs.declared.conditions.Stage.{Stage}
use Rattle.sections.specs.declared.conditions.Stage.TheVariants.{Open, First, Sign as AtSign, Value as AtValue, After, Next, Close, Done}
use Rattle.sections.specs.Meeting.{Section, onward}
use Rattle.words.specs.Tests.{is_sign, is_named, is_value}

-- what a kind declines, as a cause
abbrev pub cause_of : Declined → Cause
cause_of BadValue = cause.BadValue
cause_of Doubled = cause.DoubledBound

-- what becomes of the condition when a comparison that was read whole is offered to the kind
abbrev pub offered_to : {C : Type 0} → Taking C → ℕ → ℕ → Result C Refusal
offered_to (became c) word value = Ok c
offered_to not_mine word value = refuse cause.NoKind word
offered_to bad_value word value = refuse cause.BadValue value
offered_to doubled word value = refuse cause.DoubledBound value

-- a value has at most sixteen bytes
abbrev pub offered : {C : Type 0} → (C → List ℕ → Relation → List ℕ → Taking C) → C → List ℕ → Relation → List ℕ → ℕ → ℕ → Result C Refusal
offered taken c word sign value at_word at_value = cond (nat_lt 16 (length value)) (refuse cause.OverLimit at_value) (offered_to (taken c word sign value) at_word at_value)

-- one comparison more is begun, of at most eight, by its word
abbrev pub begun : ℕ → List ℕ → ℕ → Result ℕ Refusal
begun n word p = cond (is_name word && nat_lt n 8) (Ok (n + 1)) (refuse cause.OverLimit p)

-- the stage, how many comparisons were begun, the word of the one being read, the word's place, its sign, and the condition so far
pub record Conditions (C : Type 0) : Type 0 where
  pub stage : Stage
  pub count : ℕ
  pub word : List ℕ
  pub place : ℕ
  pub sign : Relation
  pub condition : C

-- what the code holds of it
abbrev pub conditions_of : {C : Type 0} → Conditioning C → Conditions C
conditions_of s = record { stage = s.stage; count = s.count; word = s.reading.word.now; place = s.reading.place; sign = s.reading.sign; condition = s.condition }

-- before the first word
abbrev pub no_conditions : {C : Type 0} → C → Conditions C
no_conditions c = record { stage = Open; count = 0; word = []; place = 0; sign = Equal; condition = c }

-- the section goes on in a stage
abbrev pub state : {C : Type 0} → Stage → ℕ → List ℕ → ℕ → Relation → C → Result (Conditions C) Refusal
state s n w q r c = Ok (record { stage = s; count = n; word = w; place = q; sign = r; condition = c })

-- what a word makes of each stage
abbrev pub meet_in : {C : Type 0} → (C → List ℕ → Relation → List ℕ → Taking C) → Stage → ℕ → List ℕ → ℕ → Relation → C → Word → List ℕ → ℕ → Result (Conditions C) Refusal
meet_in taken Open n v q r c w bs p = cond (is_sign w sign.Open) (state First n v q r c) (refuse cause.Unexpected p)
meet_in taken First n v q r c w bs p =
    cond (is_sign w sign.Star) (state Close n v q r c)
    (cond (is_named w) (onward (λ m. state AtSign m bs p r c) (begun n bs p)) (refuse cause.Unexpected p))
meet_in taken AtSign n v q r c w bs p =
    cond (is_sign w sign.Same) (state AtValue n v q Equal c)
    (cond (is_sign w sign.Differs) (state AtValue n v q NotEqual c)
    (cond (is_sign w sign.AtLeast) (state AtValue n v q AtLeast c)
    (cond (is_sign w sign.AtMost) (state AtValue n v q AtMost c) (refuse cause.Unexpected p))))
meet_in taken AtValue n v q r c w bs p =
    cond (is_value w) (onward (λ d. state After n v q r d) (offered taken c v r bs q p)) (refuse cause.Unexpected p)
meet_in taken After n v q r c w bs p =
    cond (is_sign w sign.Comma) (state Next n v q r c)
    (cond (is_sign w sign.Close) (state Done n v q r c) (refuse cause.Unexpected p))
meet_in taken Next n v q r c w bs p = cond (is_named w) (onward (λ m. state AtSign m bs p r c) (begun n bs p)) (refuse cause.Unexpected p)
meet_in taken Close n v q r c w bs p = cond (is_sign w sign.Close) (state Done n v q r c) (refuse cause.Unexpected p)
meet_in taken Done n v q r c w bs p = refuse cause.Unexpected p

-- what a word makes of the section
abbrev pub meet_conditions : {C : Type 0} → (C → List ℕ → Relation → List ℕ → Taking C) → Conditions C → Word → List ℕ → ℕ → Result (Conditions C) Refusal
meet_conditions taken s w bs p = meet_in taken s.stage s.count s.word s.place s.sign s.condition w bs p

-- the last stage ends the section
abbrev pub conditions_done : Stage → Bool
conditions_done Open = false
conditions_done First = false
conditions_done AtSign = false
conditions_done AtValue = false
conditions_done After = false
conditions_done Next = false
conditions_done Close = false
conditions_done Done = true

-- a value is read only where one is due
abbrev pub value_due : Stage → Bool
value_due Open = false
value_due First = false
value_due AtSign = false
value_due AtValue = true
value_due After = false
value_due Next = false
value_due Close = false
value_due Done = false

-- the section, over a kind
abbrev pub condition_section : {C : Type 0} → (C → List ℕ → Relation → List ℕ → Taking C) → Section (Conditions C)
condition_section taken = record { meet = meet_conditions taken; due = λ s. value_due s.stage; done = λ s. conditions_done s.stage }

-- the condition that was read
abbrev pub condition_read : {C : Type 0} → Result (Conditions C × ℕ) Refusal → Result (C × ℕ) Refusal
condition_read (Ok p) = Ok (p.0.condition, p.1)
condition_read (Err e) = Err e
