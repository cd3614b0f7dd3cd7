-- How a rule is written: the grammar, over stretches of a text. Each relation says that the text from one place to another
-- is a way to write a part of a rule, with its limits, its names declared and its comparisons taken.
use Rattle.std.specs.Prelude.{◌≡◌, ℕ, ◌+◌, ◌<◌, ◌≤◌, true, ◌↔◌, List, [], ◌∷◌, ◌++◌, length, Some, Ok, codes, Result}
use Rattle.std.specs.List.{slice_get, prefix_len}
use Rattle.std.specs.Option.{unwrap_or}
use Rattle.fixed.specs.Rosters.{number_of}
use Rattle.fixed.specs.Spelling.{is_name}
use Rattle.kind.specs.declared.comparison.Sign.{Sign as Relation}
use Rattle.kind.specs.declared.comparison.Sign.TheVariants.{Equal, NotEqual, AtLeast, AtMost}
use Rattle.kind.specs.Digits.{digit, decimal}
use Rattle.kind.specs.Sense.{Sense}
use Rattle.kind.specs.Taking.{became}
use Rattle.paths.specs.declared.pattern.Item.{Item}
use Rattle.paths.specs.declared.pattern.Item.TheVariants.{Node, Star}
use Rattle.site.specs.declared.refusals.Refusal.{Refusal}
use Rattle.site.specs.Plans.{Plan}
use Rattle.sections.specs.declared.targets.Scope.{Scope}
use Rattle.sections.specs.declared.targets.Scope.TheVariants.{All, Only, AllBut}
use Rattle.sections.specs.declared.action.Action.{Action}
use Rattle.sections.specs.declared.action.Action.TheVariants.{Permit, Deny, Priority}
use Rattle.words.specs.declared.signs.Sign.{Sign}
use Rattle.words.specs.declared.signs.Sign.TheVariants as sign
use Rattle.rules.specs.Rules.{Ruling, ports_for, start_of}
use Rattle.words.specs.Writing.{name, value, sign as sign_token, Stands, Next}

-- a certain sign, wherever it starts
abbrev pub SignNext : List ℕ → ℕ → Sign → ℕ → Type 0
SignNext text at s to = Next text at (sign_token s) to

-- an item: a star, or the name of a node
pub data ItemAt (text : List ℕ) (nodes : List (List ℕ)) (at : ℕ) : Item → ℕ → Type 0 where
  star : {to : ℕ} → SignNext text at sign.Star to → ItemAt text nodes at Star to
  node : {n : List ℕ} {k to : ℕ} → Next text at (name n) to → is_name n ≡ true → number_of n nodes ≡ Some k → ItemAt text nodes at (Node k) to

-- items parted by commas, at most twelve
pub data ItemsAt (text : List ℕ) (nodes : List (List ℕ)) (at : ℕ) : List Item → ℕ → Type 0 where
  one : {i : Item} {to : ℕ} → ItemAt text nodes at i to → ItemsAt text nodes at (i ∷ []) to
  also : {is : List Item} {i : Item} {p q to : ℕ} → ItemsAt text nodes at is p → SignNext text p sign.Comma q → length is < 12 → ItemAt text nodes q i to → ItemsAt text nodes at (is ++ i ∷ []) to

-- a pattern, `<` items `>`, with the place of its first sign
pub record PatternAt (text : List ℕ) (nodes : List (List ℕ)) (at : ℕ) (is : List Item) (place to : ℕ) : Type 0 where
  pub inner : ℕ
  pub last : ℕ
  pub opens : Stands text at (sign_token sign.Less) place inner
  pub items : ItemsAt text nodes inner is last
  pub closes : SignNext text last sign.Greater to

-- `{` and patterns parted by commas, at most four, with the places of their first signs
pub data PatternsAt (text : List ℕ) (nodes : List (List ℕ)) (at : ℕ) : List (List Item) → List ℕ → ℕ → Type 0 where
  one : {is : List Item} {p place to : ℕ} → SignNext text at sign.Open p → PatternAt text nodes p is place to → PatternsAt text nodes at (is ∷ []) (place ∷ []) to
  also : {ps : List (List Item)} {gs : List ℕ} {is : List Item} {p q place to : ℕ} → PatternsAt text nodes at ps gs p → SignNext text p sign.Comma q → length gs < 4 → PatternAt text nodes q is place to → PatternsAt text nodes at (ps ++ is ∷ []) (gs ++ place ∷ []) to

-- the paths: `{*}`, the pattern of one star, or patterns in braces
pub data PathsAt (text : List ℕ) (nodes : List (List ℕ)) (at : ℕ) : List (List Item) → List ℕ → ℕ → Type 0 where
  any : {p q place to : ℕ} → SignNext text at sign.Open p → Stands text p (sign_token sign.Star) place q → SignNext text q sign.Close to → PathsAt text nodes at ((Star ∷ []) ∷ []) (place ∷ []) to
  some : {ps : List (List Item)} {gs : List ℕ} {p to : ℕ} → PatternsAt text nodes at ps gs p → SignNext text p sign.Close to → PathsAt text nodes at ps gs to

-- the classes that a sign before their list gives: `==` and `=` those in it, `!=` those not in it
pub data Scoping : Sign → Scope → Type 0 where
  same : Scoping sign.Same Only
  equals : Scoping sign.Equals Only
  differs : Scoping sign.Differs AllBut

-- a declared class by its name
pub record ClassAt (text : List ℕ) (classes : List (List ℕ)) (at k to : ℕ) : Type 0 where
  pub called : List ℕ
  pub stands : Next text at (name called) to
  pub proper : is_name called ≡ true
  pub declared : number_of called classes ≡ Some k

-- `{traffic_class`, a sign, `{` and classes parted by commas, at most sixteen
pub data ClassesAt (text : List ℕ) (classes : List (List ℕ)) (at : ℕ) : Scope → List ℕ → ℕ → Type 0 where
  one : {c : Scope} {s : Sign} {k p q r o to : ℕ} → SignNext text at sign.Open p → Next text p (name (codes "traffic_class")) q → SignNext text q s r → Scoping s c → SignNext text r sign.Open o → ClassAt text classes o k to → ClassesAt text classes at c (k ∷ []) to
  also : {c : Scope} {ks : List ℕ} {k p q to : ℕ} → ClassesAt text classes at c ks p → SignNext text p sign.Comma q → length ks < 16 → ClassAt text classes q k to → ClassesAt text classes at c (ks ++ k ∷ []) to

-- the target: `{*}`, all classes, or a list of classes in braces
pub data TargetAt (text : List ℕ) (classes : List (List ℕ)) (at : ℕ) : Scope → List ℕ → ℕ → Type 0 where
  any : {p q to : ℕ} → SignNext text at sign.Open p → SignNext text p sign.Star q → SignNext text q sign.Close to → TargetAt text classes at All [] to
  some : {c : Scope} {ks : List ℕ} {p q to : ℕ} → ClassesAt text classes at c ks p → SignNext text p sign.Close q → SignNext text q sign.Close to → TargetAt text classes at c ks to

-- the signs that compare
pub data Comparing : Sign → Relation → Type 0 where
  same : Comparing sign.Same Equal
  differs : Comparing sign.Differs NotEqual
  at_least : Comparing sign.AtLeast AtLeast
  at_most : Comparing sign.AtMost AtMost

-- a comparison, word, sign and value, by which the condition c becomes d
pub record ComparisonAt {C P : Type 0} (k : Sense C P) (text : List ℕ) (at : ℕ) (c d : C) (to : ℕ) : Type 0 where
  pub called : List ℕ
  pub by : Sign
  pub relation : Relation
  pub worth : List ℕ
  pub after_word : ℕ
  pub after_sign : ℕ
  pub word : Next text at (name called) after_word
  pub proper : is_name called ≡ true
  pub compares : SignNext text after_word by after_sign
  pub related : Comparing by relation
  pub valued : Next text after_sign (value worth) to
  pub short : length worth ≤ 16
  pub taken : k.taken c called relation worth ≡ became d

-- `{` and comparisons parted by commas, at most eight, counted, taken in order from the open condition on
pub data ComparisonsAt {C P : Type 0} (k : Sense C P) (text : List ℕ) (at : ℕ) : ℕ → C → ℕ → Type 0 where
  one : {d : C} {p to : ℕ} → SignNext text at sign.Open p → ComparisonAt k text p k.everywhere d to → ComparisonsAt k text at 1 d to
  also : {n p q to : ℕ} {c d : C} → ComparisonsAt k text at n c p → SignNext text p sign.Comma q → n < 8 → ComparisonAt k text q c d to → ComparisonsAt k text at (n + 1) d to

-- the conditions: `{*}`, or comparisons in braces
pub data ConditionsAt {C P : Type 0} (k : Sense C P) (text : List ℕ) (at : ℕ) : C → ℕ → Type 0 where
  any : {p q to : ℕ} → SignNext text at sign.Open p → SignNext text p sign.Star q → SignNext text q sign.Close to → ConditionsAt k text at k.everywhere to
  some : {n p to : ℕ} {c : C} → ComparisonsAt k text at n c p → SignNext text p sign.Close to → ConditionsAt k text at c to

-- an action: `permit`, `deny`, or `priority :=` and one to three digits up to 255
pub data ActionAt (text : List ℕ) (at : ℕ) : Action → ℕ → Type 0 where
  permit : {to : ℕ} → Next text at (name (codes "permit")) to → ActionAt text at Permit to
  deny : {to : ℕ} → Next text at (name (codes "deny")) to → ActionAt text at Deny to
  priority : {ds : List ℕ} {p q to : ℕ} → Next text at (name (codes "priority")) p → SignNext text p sign.Becomes q → Next text q (name ds) to → prefix_len digit ds ≡ length ds → length ds ≤ 3 → decimal ds ≤ 255 → ActionAt text at (Priority (decimal ds)) to

-- the action in braces, and the semicolon with its place
pub record ClosingAt (text : List ℕ) (at : ℕ) (a : Action) (semicolon to : ℕ) : Type 0 where
  pub inner : ℕ
  pub last : ℕ
  pub outer : ℕ
  pub opens : SignNext text at sign.Open inner
  pub action : ActionAt text inner a last
  pub closes : SignNext text last sign.Close outer
  pub ends : Stands text outer (sign_token sign.Semicolon) semicolon to

-- the id with its place, and a declared user with the user's rank
pub record HeadAt (s : Plan) (text : List ℕ) (at : ℕ) (id : List ℕ) (place user rank to : ℕ) : Type 0 where
  pub after_id : ℕ
  pub by : List ℕ
  pub named : Stands text at (name id) place after_id
  pub proper : is_name id ≡ true
  pub owned : Next text after_id (name by) to
  pub owner : is_name by ≡ true
  pub declared : number_of by s.users ≡ Some user
  pub ranked : rank ≡ unwrap_or (slice_get s.ranks user) 0

-- the text from a place to another is a way to write the rule r on a site, and its patterns pass the search
pub record RuleAt {C P : Type 0} (k : Sense C P) (s : Plan) (text : List ℕ) (at : ℕ) (r : Ruling C) (to : ℕ) : Type 0 where
  pub after_head : ℕ
  pub after_paths : ℕ
  pub after_target : ℕ
  pub after_conditions : ℕ
  pub head : HeadAt s text at r.id r.place r.user r.rank after_head
  pub paths : PathsAt text s.nodes after_head r.patterns r.places after_paths
  pub target : TargetAt text s.classes after_paths r.scope r.classes after_target
  pub conditions : ConditionsAt k text after_target r.condition after_conditions
  pub closing : ClosingAt text after_conditions r.action r.semicolon to
  pub searched : ports_for s r.patterns r.places ≡ Ok r.ports

-- an answer of the reader is right: a rule is read, up to a place, exactly when the text is a way to write it up to there
abbrev pub ReadAsWritten : {C P : Type 0} → Sense C P → Plan → List ℕ → ℕ → Result (Ruling C × ℕ) Refusal → Type 0
ReadAsWritten {C} k s text place answer = (r : Ruling C) (end : ℕ) → (answer ≡ Ok (r, end)) ↔ RuleAt k s text (start_of text place) r end
