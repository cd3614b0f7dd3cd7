-- The section of the action, `{permit}`, `{deny}` or `{priority := 4}`, and the semicolon after it.
use Rattle.std.specs.Prelude.{ℕ, Bool, true, false, cond, List, length, Ok, codes, Result, nat_lt}
use Rattle.std.specs.List.{prefix_len}
use Rattle.std.specs.Str.{bytes_eq}
use Rattle.kind.specs.Digits.{digit, decimal}
use Rattle.site.specs.declared.refusals.Refusal.{Refusal}
use Rattle.site.specs.declared.refusals.Cause.TheVariants.{Unexpected, OverLimit}
use Rattle.site.specs.Refusals.{refuse}
use Rattle.words.specs.declared.signs.Sign.TheVariants as sign
use Rattle.words.specs.declared.words.Word.{Word}
use Rattle.sections.specs.declared.action.Action.{Action}
use Rattle.sections.specs.declared.action.Action.TheVariants.{Permit, Deny, Priority}
use Rattle.sections.specs.declared.action.Acting.{Acting}
use Rattle.sections.specs.declared.action.Acting.TheVariants as stage
use Rattle.sections.specs.declared.action.Closing.{Closing}
use Rattle.sections.specs.Meeting.{Section, onward}
use Rattle.words.specs.Tests.{is_sign, is_named}

-- what the section expects next
pub data Stage : Type 0 where
  Open : Stage
  AtAction : Stage
  Becomes : Stage
  Number : Stage
  Close : Stage
  Semicolon : Stage
  Done : Stage

-- the stage, the action, and the place of the semicolon
pub record Actions : Type 0 where
  pub stage : Stage
  pub action : Action
  pub semicolon : ℕ

-- what the code holds of it: until an action was read, `Deny` stands for it
abbrev pub acting : Acting → Actions
acting stage.Open = record { stage = Open; action = Deny; semicolon = 0 }
acting stage.Action = record { stage = AtAction; action = Deny; semicolon = 0 }
acting stage.Becomes = record { stage = Becomes; action = Deny; semicolon = 0 }
acting stage.Number = record { stage = Number; action = Deny; semicolon = 0 }
acting (stage.Close a) = record { stage = Close; action = a; semicolon = 0 }
acting (stage.Semicolon a) = record { stage = Semicolon; action = a; semicolon = 0 }
acting (stage.Done c) = record { stage = Done; action = c.action; semicolon = c.semicolon }

-- an action that was read whole
abbrev pub closed : Closing → Actions
closed c = record { stage = Done; action = c.action; semicolon = c.semicolon }

-- before the first word
abbrev pub no_action : Actions
no_action = record { stage = Open; action = Deny; semicolon = 0 }

-- the section goes on in a stage
abbrev pub act : Stage → Action → ℕ → Result Actions Refusal
act s a q = Ok (record { stage = s; action = a; semicolon = q })

-- one to three digits, up to 255; a name that is not all digits is another word than expected
abbrev pub priority_of : List ℕ → ℕ → Result ℕ Refusal
priority_of bs p =
    cond (nat_lt (prefix_len digit bs) (length bs)) (refuse Unexpected p)
    (cond (nat_lt 3 (length bs)) (refuse OverLimit p)
    (cond (nat_lt 255 (decimal bs)) (refuse OverLimit p) (Ok (decimal bs))))

-- what a word makes of each stage
abbrev pub meet_in : Stage → Action → ℕ → Word → List ℕ → ℕ → Result Actions Refusal
meet_in Open a q w bs p = cond (is_sign w sign.Open) (act AtAction a q) (refuse Unexpected p)
meet_in AtAction a q w bs p =
    cond (is_named w)
    (cond (bytes_eq bs (codes "permit")) (act Close Permit q)
    (cond (bytes_eq bs (codes "deny")) (act Close Deny q)
    (cond (bytes_eq bs (codes "priority")) (act Becomes a q) (refuse Unexpected p))))
    (refuse Unexpected p)
meet_in Becomes a q w bs p = cond (is_sign w sign.Becomes) (act Number a q) (refuse Unexpected p)
meet_in Number a q w bs p = cond (is_named w) (onward (λ n. act Close (Priority n) q) (priority_of bs p)) (refuse Unexpected p)
meet_in Close a q w bs p = cond (is_sign w sign.Close) (act Semicolon a q) (refuse Unexpected p)
meet_in Semicolon a q w bs p = cond (is_sign w sign.Semicolon) (act Done a p) (refuse Unexpected p)
meet_in Done a q w bs p = refuse Unexpected p

-- what a word makes of the section
abbrev pub meet_action : Actions → Word → List ℕ → ℕ → Result Actions Refusal
meet_action s w bs p = meet_in s.stage s.action s.semicolon w bs p

-- the last stage ends the section
abbrev pub action_done : Stage → Bool
action_done Open = false
action_done AtAction = false
action_done Becomes = false
action_done Number = false
action_done Close = false
action_done Semicolon = false
action_done Done = true

-- the section
abbrev pub action_section : Section Actions
action_section = record { meet = meet_action; due = λ _. false; done = λ s. action_done s.stage }
