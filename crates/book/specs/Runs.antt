-- The law of every run: calls with their answers, which rules stand after them, and which answers are right.
use Rattle.std.specs.Prelude.{◌≡◌, ℕ, ◌<◌, ◌≤◌, true, false, cond, ◌⊎◌, List, [], ◌∷◌, ◌++◌, length, take, is_ok, IfOk, Some, None, Ok, Err, Option, Result, ◌≢◌}
use Rattle.std.specs.List.{slice_get}
use Rattle.std.specs.Str.{bytes_eq}
use Rattle.kind.specs.Sense.{Sense, OneGiven}
use Rattle.site.specs.declared.refusals.Refusal.{Refusal}
use Rattle.site.specs.declared.refusals.Cause.TheVariants.{IdStands, BookFull, NoSuchId, NoRoom, NoPortOrClass, OffGround, NotTouched}
use Rattle.site.specs.Plans.{Plan}
use Rattle.site.specs.Refusals.{refuse}
use Rattle.paths.specs.declared.ports.Port.{Port}
use Rattle.paths.specs.PortSets.{is_port}
use Rattle.rules.specs.Rules.{Ruling, read_rule}
use Rattle.pairs.specs.declared.answers.Entry.{Entry}
use Rattle.pairs.specs.declared.answers.Mark.TheVariants.{Open}
use Rattle.pairs.specs.declared.answers.Totals.{Totals}
use Rattle.deciding.specs.declared.settling.Decision.{Decision}
use Rattle.deciding.specs.declared.settling.Decision.TheVariants.{Split}
use Rattle.deciding.specs.Deciding.{Decides, DecidesBy}
use Rattle.book.specs.Contradictions.{AtOddsAt, AtOddsPair}
use Rattle.book.specs.Drawing.{Reached, DrawnAt, NoneDrawn}
use Rattle.pairs.specs.Disagreement.{ContradictAt}
use Rattle.pairs.specs.Lists.{Has}
use Rattle.pairs.specs.Pairs.{Named, InOrder, Alike, opens, SpeaksOf, Clashing, Names, Reports}

-- a call with its answer; of a report also the list, of a route also the buffer, as it was passed and as it came back
pub data Step (P : Type 0) : Type 0 where
  admit : List ℕ → ℕ → Result ℕ Refusal → Step P
  withdraw : List ℕ → Result (Unit {0}) Refusal → Step P
  report : List (Entry P) → Result Totals Refusal → List (Entry P) → Step P
  decide : Port → ℕ → P → Result Decision Refusal → Step P
  route : ℕ → Port → List ℕ → Result ℕ Refusal → List ℕ → Step P

-- a rule of this id stands
abbrev pub Known : {C : Type 0} → List ℕ → List (Ruling C) → Type 0
Known {C} id rs = (r : Ruling C) × Has rs r × (r.id ≡ id)

-- the rules but the one of this id
abbrev pub without : {C : Type 0} → List ℕ → List (Ruling C) → List (Ruling C)
without id [] = []
without id (r ∷ rs) = cond (bytes_eq r.id id) rs (r ∷ without id rs)

-- the rule that was read
abbrev pub read : {C : Type 0} → Result (Ruling C × ℕ) Refusal → List (Ruling C)
read (Ok p) = p.0 ∷ []
read (Err e) = []

-- no accepted admit is among the calls
abbrev pub AddsNone : {P : Type 0} → List (Step P) → Type 0
AddsNone h = (text : List ℕ) (place end : ℕ) → Has h (admit text place (Ok end)) → ⊥

-- no accepted withdraw is among the calls
abbrev pub RemovesNone : {P : Type 0} → List (Step P) → Type 0
RemovesNone h = (id : List ℕ) → Has h (withdraw id (Ok tt)) → ⊥

-- the history has an accepted report with no open pair, and after it no accepted admit
pub record Settled {P : Type 0} (h : List (Step P)) : Type 0 where
  pub later : List (Step P)
  pub earlier : List (Step P)
  pub old : List (Entry P)
  pub new : List (Entry P)
  pub totals : Totals
  pub none_open : totals.unsettled ≡ 0
  pub is : h ≡ later ++ report old (Ok totals) new ∷ earlier
  pub quiet : AddsNone later

-- an entry of an accepted report names the position and the port, and after it no accepted withdraw
pub record Mentions {P : Type 0} (h : List (Step P)) (position : ℕ) (port : Port) : Type 0 where
  pub later : List (Step P)
  pub earlier : List (Step P)
  pub old : List (Entry P)
  pub new : List (Entry P)
  pub totals : Totals
  pub is : h ≡ later ++ report old (Ok totals) new ∷ earlier
  pub kept : RemovesNone later
  pub e : Entry P
  pub listed : Has (take totals.pairs new) e
  pub position_is : (position ≡ e.first) ⊎ (position ≡ e.second)
  pub port_is : port ≡ e.port

-- the refusal, where an answer is one
abbrev pub refusal : {A : Type 0} → Result A Refusal → Option Refusal
refusal (Ok a) = None
refusal (Err e) = Some e

module _ {C P : Type 0} (s : Plan) (k : Sense C P) where
  -- what stands after a call, from what stood before: only an accepted admit or withdraw counts
  abbrev pub after : Step P → List (Ruling C) → List (Ruling C)
  after (admit text place (Ok end)) rs = rs ++ read (read_rule k s text place)
  after (admit text place (Err why)) rs = rs
  after (withdraw id (Ok u)) rs = without id rs
  after (withdraw id (Err why)) rs = rs
  after (report old a new) rs = rs
  after (decide port class point a) rs = rs
  after (route position port old a new) rs = rs

  -- what stands after a history, its last call first
  abbrev pub standing : List (Step P) → List (Ruling C)
  standing [] = []
  standing (c ∷ h) = after c (standing h)

  -- which answer is right, where these rules stand and there is room for so many
  pub data Right (room : ℕ) (rs : List (Ruling C)) : Step P → Type 0 where
    admits : {text : List ℕ} {place end : ℕ} {r : Ruling C} → read_rule k s text place ≡ Ok (r, end) → (Known r.id rs → ⊥) → length rs < room → Right room rs (admit text place (Ok end))
    unread : {text : List ℕ} {place : ℕ} {why : Refusal} → read_rule k s text place ≡ Err why → Right room rs (admit text place (Err why))
    id_stands : {text : List ℕ} {place end : ℕ} {r : Ruling C} → read_rule k s text place ≡ Ok (r, end) → Known r.id rs → Right room rs (admit text place (refuse IdStands r.place))
    full : {text : List ℕ} {place end : ℕ} {r : Ruling C} → read_rule k s text place ≡ Ok (r, end) → (Known r.id rs → ⊥) → room ≤ length rs → Right room rs (admit text place (refuse BookFull r.place))
    withdraws : {id : List ℕ} → Known id rs → Right room rs (withdraw id (Ok tt))
    no_such_id : {id : List ℕ} → (Known id rs → ⊥) → Right room rs (withdraw id (refuse NoSuchId 0))
    reports : {old new : List (Entry P)} {totals : Totals} → Reports s k rs old new totals.pairs totals.unsettled → Right room rs (report old (Ok totals) new)
    short_list : {old es : List (Entry P)} → Names s k rs es → length old < length es → Right room rs (report old (refuse NoRoom 0) old)
    decides : {port : Port} {class : ℕ} {point : P} {d : Decision} → is_port s.links port ≡ true → class < length s.classes → k.on_ground point ≡ true → Decides s k rs port class point d → Right room rs (decide port class point (Ok d))
    no_port_or_class : {port : Port} {class : ℕ} {point : P} → (is_port s.links port ≡ false) ⊎ (length s.classes ≤ class) → Right room rs (decide port class point (refuse NoPortOrClass 0))
    off_ground : {port : Port} {class : ℕ} {point : P} → is_port s.links port ≡ true → class < length s.classes → k.on_ground point ≡ false → Right room rs (decide port class point (refuse OffGround 0))
    routes : {position n : ℕ} {port : Port} {old new : List ℕ} → 48 ≤ length old → DrawnAt s rs position port old n new → Right room rs (route position port old (Ok n) new)
    short_buffer : {position : ℕ} {port : Port} {old : List ℕ} → length old < 48 → Right room rs (route position port old (refuse NoRoom 0) old)
    no_port : {position : ℕ} {port : Port} {old : List ℕ} → 48 ≤ length old → is_port s.links port ≡ false → Right room rs (route position port old (refuse NoPortOrClass 0) old)
    untouched : {position : ℕ} {port : Port} {old : List ℕ} → 48 ≤ length old → is_port s.links port ≡ true → NoneDrawn s rs position port → Right room rs (route position port old (refuse NotTouched 0) old)

  -- the history, from the empty book on, left these rules, and every answer in it was right
  pub data LedTo (room : ℕ) : List (Step P) → List (Ruling C) → Type 0 where
    at_first : LedTo room [] []
    next : {h : List (Step P)} {rs : List (Ruling C)} (c : Step P) → LedTo room h rs → Right room rs c → LedTo room (c ∷ h) (after c rs)

  -- an accepted admit read the rule, in the text and at the place handed to it, and no accepted withdraw of its id came later
  pub record Admitted (h : List (Step P)) (r : Ruling C) : Type 0 where
    pub later : List (Step P)
    pub earlier : List (Step P)
    pub text : List ℕ
    pub place : ℕ
    pub end : ℕ
    pub is : h ≡ later ++ admit text place (Ok end) ∷ earlier
    pub was_read : read_rule k s text place ≡ Ok (r, end)
    pub kept : Has later (withdraw r.id (Ok tt)) → ⊥

  -- which rules stand goes by the calls alone, and they stand in order of admission
  pub record StandByCalls (h : List (Step P)) (rs : List (Ruling C)) : Type 0 where
    pub each : (r : Ruling C) → Has rs r → Admitted h r
    pub all : (r : Ruling C) → Admitted h r → Has rs r
    pub in_order : (i j : ℕ) (q r : Ruling C) → slice_get rs i ≡ Some q → slice_get rs j ≡ Some r → i < j → (a : Admitted h q) (b : Admitted h r) → length a.earlier < length b.earlier

  -- the law of an accepted report, of the entries that it wrote, after every history
  pub record Reported (h : List (Step P)) (list : List (Entry P)) (pairs unsettled : ℕ) : Type 0 where
    pub named : (i j : ℕ) → Named (take pairs list) i j → Clashing s k (standing h) i j
    pub every : (i j : ℕ) → Clashing s k (standing h) i j → Named (take pairs list) i j
    pub once : InOrder (take pairs list)
    pub as_defined : (e : Entry P) → Has (take pairs list) e → SpeaksOf s k (standing h) e
    pub shown : (e : Entry P) (q r : Ruling C) → Has (take pairs list) e → slice_get (standing h) e.first ≡ Some q → slice_get (standing h) e.second ≡ Some r → ContradictAt s k q r e.port e.class e.point
    pub counted : length (take pairs list) ≡ pairs
    pub open_ones : opens (take pairs list) ≡ unsettled
    pub open_when : (e : Entry P) (q r : Ruling C) → Has (take pairs list) e → slice_get (standing h) e.first ≡ Some q → slice_get (standing h) e.second ≡ Some r → (e.mark ≡ Open → q.rank ≡ r.rank) × (q.rank ≡ r.rank → e.mark ≡ Open)

  -- the same by the rules' own paths: the pairs that a report names are those that are at odds on their own paths
  pub record ReportedByPaths (h : List (Step P)) (list : List (Entry P)) (pairs : ℕ) : Type 0 where
    pub named : (i j : ℕ) → Named (take pairs list) i j → AtOddsPair s k (standing h) i j
    pub every : (i j : ℕ) → AtOddsPair s k (standing h) i j → Named (take pairs list) i j
    pub shown : (e : Entry P) (q r : Ruling C) → Has (take pairs list) e → slice_get (standing h) e.first ≡ Some q → slice_get (standing h) e.second ≡ Some r → AtOddsAt s k q r e.port e.class e.point

  -- the law of an accepted decision, after every history
  pub record Decided (h : List (Step P)) (port : Port) (class : ℕ) (point : P) (d : Decision) : Type 0 where
    pub as_defined : Decides s k (standing h) port class point d
    pub never_split : Settled h → d ≢ Split

  -- the same by the rules' own paths
  abbrev pub DecidedByPaths : List (Step P) → Port → ℕ → P → Decision → Type 0
  DecidedByPaths h port class point d = DecidesBy s k (Reached s) (standing h) port class point d

  -- the law of a route, after every history
  pub record Routed (h : List (Step P)) (position : ℕ) (port : Port) (old : List ℕ) (a : Result ℕ Refusal) (new : List ℕ) : Type 0 where
    pub accepted : 48 ≤ length old → Mentions h position port → is_ok a ≡ true
    pub drawn : IfOk a (λ n. DrawnAt s (standing h) position port old n new)

  -- each call has one right answer, and a report one list; free are the point in an entry, which a kind may choose where it
  -- has several to give, and the path of a route
  pub record OneAnswer : Type 0 where
    pub of_admit : (room : ℕ) (rs : List (Ruling C)) (text : List ℕ) (place : ℕ) (a b : Result ℕ Refusal) → Right room rs (admit text place a) → Right room rs (admit text place b) → a ≡ b
    pub of_withdraw : (room : ℕ) (rs : List (Ruling C)) (id : List ℕ) (a b : Result (Unit {0}) Refusal) → Right room rs (withdraw id a) → Right room rs (withdraw id b) → a ≡ b
    pub of_report : (room : ℕ) (rs : List (Ruling C)) (old new new' : List (Entry P)) (a b : Result Totals Refusal) → Right room rs (report old a new) → Right room rs (report old b new') → a ≡ b
    pub of_list : (room : ℕ) (rs : List (Ruling C)) (old new new' : List (Entry P)) (a b : Result Totals Refusal) → Right room rs (report old a new) → Right room rs (report old b new') → Alike new new'
    pub of_points : OneGiven k → (room : ℕ) (rs : List (Ruling C)) (old new new' : List (Entry P)) (a b : Result Totals Refusal) → Right room rs (report old a new) → Right room rs (report old b new') → new ≡ new'
    pub of_decide : (room : ℕ) (rs : List (Ruling C)) (port : Port) (class : ℕ) (point : P) (a b : Result Decision Refusal) → Right room rs (decide port class point a) → Right room rs (decide port class point b) → a ≡ b
    pub of_route : (room : ℕ) (rs : List (Ruling C)) (position : ℕ) (port : Port) (old new new' : List ℕ) (a b : Result ℕ Refusal) → Right room rs (route position port old a new) → Right room rs (route position port old b new') → refusal a ≡ refusal b
