-- The head of a rule: a name for its id, and the name of a user.
use Rattle.std.specs.Prelude.{ℕ, cond, List, Some, None, Ok, Option, Result}
use Rattle.std.specs.List.{slice_get}
use Rattle.std.specs.Option.{unwrap_or}
use Rattle.fixed.specs.Names.{spelling}
use Rattle.fixed.specs.Rosters.{number_of}
use Rattle.fixed.specs.Spelling.{is_name}
use Rattle.site.specs.declared.refusals.Refusal.{Refusal}
use Rattle.site.specs.declared.refusals.Cause.TheVariants.{Unexpected, OverLimit, Undeclared}
use Rattle.site.specs.Plans.{Plan}
use Rattle.site.specs.Refusals.{refuse}
use Rattle.sections.specs.declared.head.Head.{Head as Heading}
use Rattle.sections.specs.declared.head.Placed.{Placed as Placing}
use Rattle.words.specs.declared.words.Found.{Found}
use Rattle.sections.specs.Meeting.{onward}
use Rattle.words.specs.Tests.{is_named}
use Rattle.words.specs.Words.{bytes_of, word_from}

-- a name, and where it stands
pub record Placed : Type 0 where
  pub name : List ℕ
  pub from : ℕ
  pub to : ℕ

-- what the code holds of it
abbrev pub name_of : Placing → Placed
name_of n = record { name = spelling n.name; from = n.from; to = n.to }

-- a word that was found is a name, of at most sixteen bytes
abbrev pub named : List ℕ → Found → Result Placed Refusal
named text f =
    cond (is_named f.word)
    (cond (is_name (bytes_of text f)) (Ok (record { name = bytes_of text f; from = f.from; to = f.to })) (refuse OverLimit f.from))
    (refuse Unexpected f.from)

-- the name at a place or after it
abbrev pub name_from : List ℕ → ℕ → Result Placed Refusal
name_from text at = onward (named text) (word_from text at)

-- the id and its place, the user's number and rank, and the place after the user's name
pub record Head : Type 0 where
  pub id : List ℕ
  pub place : ℕ
  pub user : ℕ
  pub rank : ℕ
  pub end : ℕ

-- what the code holds of it
abbrev pub head_of : Heading → Head
head_of h = record { id = spelling h.id; place = h.place; user = h.user; rank = h.rank; end = h.end }

-- the rule of a declared user
abbrev pub owned : Plan → Placed → Placed → Option ℕ → Result Head Refusal
owned s id by (Some u) = Ok (record { id = id.name; place = id.from; user = u; rank = unwrap_or (slice_get s.ranks u) 0; end = by.to })
owned s id by None = refuse Undeclared by.from

-- the user after an id
abbrev pub after_id_of : Plan → List ℕ → Placed → Result Head Refusal
after_id_of s text id = onward (λ by. owned s id by (number_of by.name s.users)) (name_from text id.to)

-- the head at a place or after it
abbrev pub head_from : Plan → List ℕ → ℕ → Result Head Refusal
head_from s text at = onward (after_id_of s text) (name_from text at)
