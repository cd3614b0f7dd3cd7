-- The section of the target: `{*}`, or `{traffic_class == {voice, data}}`, with `=` for `==`, or with `!=` for all but those named.
use Rattle.std.specs.Prelude.{ℕ, Bool, true, false, cond, ◌&&◌, ◌||◌, List, [], ◌∷◌, ◌++◌, length, Some, None, Ok, codes, Option, Result, nat_lt}
use Rattle.std.specs.Str.{bytes_eq}
use Rattle.fixed.specs.Items.{items}
use Rattle.fixed.specs.Rosters.{number_of}
use Rattle.fixed.specs.Spelling.{is_name}
use Rattle.site.specs.declared.refusals.Refusal.{Refusal}
use Rattle.site.specs.declared.refusals.Cause.TheVariants.{Unexpected, OverLimit, Undeclared}
use Rattle.site.specs.Refusals.{refuse}
use Rattle.words.specs.declared.signs.Sign.TheVariants as sign
use Rattle.words.specs.declared.words.Word.{Word}
use Rattle.sections.specs.declared.targets.Scope.{Scope}
use Rattle.sections.specs.declared.targets.Scope.TheVariants.{All, Only, AllBut}
use Rattle.sections.specs.declared.targets.Stage.{Stage}
use Rattle.sections.specs.declared.targets.Stage.TheVariants.{Open, First, Sign as AtSign, List as AtList, Class, After, Close, Done}
use Rattle.sections.specs.declared.targets.Target.{Target}
use Rattle.sections.specs.declared.targets.Targeting.{Targeting}
use Rattle.sections.specs.Meeting.{Section, onward}
use Rattle.words.specs.Tests.{is_sign, is_named}

-- the stage, the scope, and the numbers of the classes named so far
pub record Targets : Type 0 where
  pub stage : Stage
  pub scope : Scope
  pub classes : List ℕ

-- what the code holds of it
abbrev pub target_of : Targeting → Targets
target_of t = record { stage = t.stage; scope = t.target.scope; classes = items t.target.classes }

-- a target that was read whole
abbrev pub target_read : Target → Targets
target_read t = record { stage = Done; scope = t.scope; classes = items t.classes }

-- before the first word
abbrev pub no_target : Targets
no_target = record { stage = Open; scope = All; classes = [] }

-- the section goes on in a stage
abbrev pub target : Stage → Scope → List ℕ → Result Targets Refusal
target s c ns = Ok (record { stage = s; scope = c; classes = ns })

-- one class more, by its number
abbrev pub numbered : List ℕ → ℕ → Option ℕ → Result (List ℕ) Refusal
numbered ns p (Some n) = Ok (ns ++ n ∷ [])
numbered ns p None = refuse Undeclared p

-- one class more, of at most sixteen, by its name
abbrev pub added_class : List (List ℕ) → List ℕ → List ℕ → ℕ → Result (List ℕ) Refusal
added_class classes ns name p = cond (is_name name && nat_lt (length ns) 16) (numbered ns p (number_of name classes)) (refuse OverLimit p)

-- what a word makes of each stage
abbrev pub meet_in : List (List ℕ) → Stage → Scope → List ℕ → Word → List ℕ → ℕ → Result Targets Refusal
meet_in known Open c ns w bs p = cond (is_sign w sign.Open) (target First c ns) (refuse Unexpected p)
meet_in known First c ns w bs p =
    cond (is_sign w sign.Star) (target Close All ns)
    (cond (is_named w) (cond (bytes_eq bs (codes "traffic_class")) (target AtSign c ns) (refuse Unexpected p)) (refuse Unexpected p))
meet_in known AtSign c ns w bs p =
    cond (is_sign w sign.Same || is_sign w sign.Equals) (target AtList Only ns)
    (cond (is_sign w sign.Differs) (target AtList AllBut ns) (refuse Unexpected p))
meet_in known AtList c ns w bs p = cond (is_sign w sign.Open) (target Class c ns) (refuse Unexpected p)
meet_in known Class c ns w bs p = cond (is_named w) (onward (λ ms. target After c ms) (added_class known ns bs p)) (refuse Unexpected p)
meet_in known After c ns w bs p =
    cond (is_sign w sign.Comma) (target Class c ns)
    (cond (is_sign w sign.Close) (target Close c ns) (refuse Unexpected p))
meet_in known Close c ns w bs p = cond (is_sign w sign.Close) (target Done c ns) (refuse Unexpected p)
meet_in known Done c ns w bs p = refuse Unexpected p

-- what a word makes of the section
abbrev pub meet_target : List (List ℕ) → Targets → Word → List ℕ → ℕ → Result Targets Refusal
meet_target known s w bs p = meet_in known s.stage s.scope s.classes w bs p

-- the last stage ends the section
abbrev pub target_done : Stage → Bool
target_done Open = false
target_done First = false
target_done AtSign = false
target_done AtList = false
target_done Class = false
target_done After = false
target_done Close = false
target_done Done = true

-- the section, over the classes of a site
abbrev pub target_section : List (List ℕ) → Section Targets
target_section known = record { meet = meet_target known; due = λ _. false; done = λ s. target_done s.stage }
