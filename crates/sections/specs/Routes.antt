-- The section of paths: `{*}`, or one to four patterns such as `{<gate,*,hill>, <barn>}`.
use Rattle.std.specs.Prelude.{ℕ, Bool, true, false, cond, ◌&&◌, List, [], ◌∷◌, ◌++◌, map, length, Some, None, Ok, Err, Option, Result, nat_lt}
use Rattle.fixed.specs.declared.bounded.Table.{Table}
use Rattle.fixed.specs.Items.{items}
use Rattle.fixed.specs.Rosters.{number_of}
use Rattle.fixed.specs.Spelling.{is_name}
use Rattle.paths.specs.declared.pattern.Item.{Item}
use Rattle.paths.specs.declared.pattern.Item.TheVariants.{Node, Star as StarItem}
use Rattle.paths.specs.declared.route.Route.{Route}
use Rattle.paths.specs.Patterns.{items_of}
use Rattle.site.specs.declared.refusals.Refusal.{Refusal}
use Rattle.site.specs.declared.refusals.Cause.TheVariants.{Unexpected, OverLimit, Undeclared}
use Rattle.site.specs.Refusals.{refuse}
use Rattle.words.specs.declared.signs.Sign.TheVariants as sign
use Rattle.words.specs.declared.words.Word.{Word}
use Rattle.sections.specs.declared.routes.Stage.{Stage}
use Rattle.sections.specs.declared.routes.Stage.TheVariants.{Open, First, Item as InItem, After, Between, Next, Close, Done}
use Rattle.sections.specs.declared.routes.Routes.{Routes}
use Rattle.sections.specs.Meeting.{Section, onward}
use Rattle.words.specs.Tests.{is_sign, is_named}

-- the stage, the patterns so far and the places of their first signs; the items and the first sign's place of the one being read
pub record Paths : Type 0 where
  pub stage : Stage
  pub patterns : List (List Item)
  pub places : List ℕ
  pub items : List Item
  pub start : ℕ

-- the items of a pattern that was read, and the place of its first sign
abbrev pub items_at : Route → List Item
items_at r = items_of r.pattern

abbrev pub place_at : Route → ℕ
place_at r = r.place

-- what the code holds of it
abbrev pub paths_of : Routes → Paths
paths_of r = record { stage = r.stage; patterns = map items_at (items r.routes); places = map place_at (items r.routes); items = items_of r.reading.pattern; start = r.reading.place }

-- before the first word
abbrev pub no_paths : Paths
no_paths = record { stage = Open; patterns = []; places = []; items = []; start = 0 }

-- the section goes on in a stage
abbrev pub paths : Stage → List (List Item) → List ℕ → List Item → ℕ → Result Paths Refusal
paths s ps qs is g = Ok (record { stage = s; patterns = ps; places = qs; items = is; start = g })

-- at most four are kept
abbrev pub kept : {A : Type 0} → List A → A → List A
kept xs x = cond (nat_lt (length xs) 4) (xs ++ x ∷ []) xs

-- one item more, of at most twelve
abbrev pub added : List Item → Item → ℕ → Result (List Item) Refusal
added is i p = cond (nat_lt (length is) 12) (Ok (is ++ i ∷ [])) (refuse OverLimit p)

-- one node more, by its number
abbrev pub numbered : List Item → ℕ → Option ℕ → Result (List Item) Refusal
numbered is p (Some n) = added is (Node n) p
numbered is p None = refuse Undeclared p

-- one node more, by its name
abbrev pub added_node : List (List ℕ) → List Item → List ℕ → ℕ → Result (List Item) Refusal
added_node nodes is name p = cond (is_name name && nat_lt (length is) 12) (numbered is p (number_of name nodes)) (refuse OverLimit p)

-- what a word makes of each stage
abbrev pub meet_in : List (List ℕ) → Stage → List (List Item) → List ℕ → List Item → ℕ → Word → List ℕ → ℕ → Result Paths Refusal
meet_in nodes Open ps qs is g w bs p = cond (is_sign w sign.Open) (paths First ps qs is g) (refuse Unexpected p)
meet_in nodes First ps qs is g w bs p =
    cond (is_sign w sign.Star) (onward (λ js. paths Close (kept ps js) (kept qs p) js g) (added is StarItem p))
    (cond (is_sign w sign.Less) (paths InItem ps qs is p) (refuse Unexpected p))
meet_in nodes InItem ps qs is g w bs p =
    cond (is_named w) (onward (λ js. paths After ps qs js g) (added_node nodes is bs p))
    (cond (is_sign w sign.Star) (onward (λ js. paths After ps qs js g) (added is StarItem p)) (refuse Unexpected p))
meet_in nodes After ps qs is g w bs p =
    cond (is_sign w sign.Comma) (paths InItem ps qs is g)
    (cond (is_sign w sign.Greater) (paths Between (kept ps is) (kept qs g) is g) (refuse Unexpected p))
meet_in nodes Between ps qs is g w bs p =
    cond (is_sign w sign.Comma) (paths Next ps qs is g)
    (cond (is_sign w sign.Close) (paths Done ps qs is g) (refuse Unexpected p))
meet_in nodes Next ps qs is g w bs p =
    cond (is_sign w sign.Less) (cond (nat_lt (length qs) 4) (paths InItem ps qs [] p) (refuse OverLimit p)) (refuse Unexpected p)
meet_in nodes Close ps qs is g w bs p = cond (is_sign w sign.Close) (paths Done ps qs is g) (refuse Unexpected p)
meet_in nodes Done ps qs is g w bs p = refuse Unexpected p

-- what a word makes of the section
abbrev pub meet_paths : List (List ℕ) → Paths → Word → List ℕ → ℕ → Result Paths Refusal
meet_paths nodes s w bs p = meet_in nodes s.stage s.patterns s.places s.items s.start w bs p

-- the last stage ends the section
abbrev pub paths_done : Stage → Bool
paths_done Open = false
paths_done First = false
paths_done InItem = false
paths_done After = false
paths_done Between = false
paths_done Next = false
paths_done Close = false
paths_done Done = true

-- the section, over the nodes of a site
abbrev pub path_section : List (List ℕ) → Section Paths
path_section nodes = record { meet = meet_paths nodes; due = λ _. false; done = λ s. paths_done s.stage }

-- the patterns that were read and the places of their first signs
pub record Patterns : Type 0 where
  pub patterns : List (List Item)
  pub places : List ℕ

-- what the code answers of it
abbrev pub routes_of : Table Route 4 → Patterns
routes_of t = record { patterns = map items_at (items t); places = map place_at (items t) }

-- what a section that was read tells
abbrev pub paths_read : Result (Paths × ℕ) Refusal → Result (Patterns × ℕ) Refusal
paths_read (Ok p) = Ok (record { patterns = p.0.patterns; places = p.0.places }, p.1)
paths_read (Err e) = Err e
