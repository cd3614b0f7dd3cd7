-- A rule and how it is read: head, paths, target, conditions and action, and then the search for its paths.
use Rattle.std.specs.Prelude.{ℕ, ◌+◌, min, List, [], ◌∷◌, map, length, Ok, Err, codes, Result, bit_or, slice_index}
use Rattle.fixed.specs.Items.{items}
use Rattle.fixed.specs.Names.{spelling}
use Rattle.kind.specs.Sense.{Sense}
use Rattle.paths.specs.declared.finding.Fault.{Fault}
use Rattle.paths.specs.declared.pattern.Item.{Item}
use Rattle.paths.specs.declared.ports.PortSet.{PortSet}
use Rattle.paths.specs.Faults.{cause_of}
use Rattle.paths.specs.Found.{searched}
use Rattle.paths.specs.Unions.{next}
use Rattle.site.specs.declared.parts.Link.{Link}
use Rattle.site.specs.declared.refusals.Refusal.{Refusal}
use Rattle.site.specs.Plans.{Plan}
use Rattle.site.specs.Refusals.{refuse}
use Rattle.rules.specs.declared.rule.Rule.{Rule}
use Rattle.sections.specs.declared.targets.Scope.{Scope}
use Rattle.sections.specs.declared.targets.Scope.TheVariants.{All}
use Rattle.sections.specs.declared.action.Action.{Action}
use Rattle.sections.specs.declared.action.Action.TheVariants.{Deny}
use Rattle.sections.specs.Actions.{Actions, no_action, action_section}
use Rattle.sections.specs.Conditions.{no_conditions, condition_section, condition_read}
use Rattle.sections.specs.Heads.{Head, head_from}
use Rattle.sections.specs.Meeting.{onward, read_section}
use Rattle.sections.specs.Routes.{Paths, items_at, place_at, no_paths, path_section}
use Rattle.sections.specs.Targets.{Targets, no_target, target_section}

-- what a rule says, with conditions C; names as their bytes, patterns as their items
pub record Ruling (C : Type 0) : Type 0 where
  pub id : List ℕ
  pub place : ℕ
  pub user : ℕ
  pub rank : ℕ
  pub patterns : List (List Item)
  pub places : List ℕ
  pub scope : Scope
  pub classes : List ℕ
  pub condition : C
  pub action : Action
  pub semicolon : ℕ
  pub ports : PortSet

-- what a rule of the code says
abbrev pub rule_of : {C : Type 0} → Rule C → Ruling C
rule_of r = record {
  id = spelling r.id;
  place = r.place;
  user = r.user;
  rank = r.rank;
  patterns = map items_at (items r.routes);
  places = map place_at (items r.routes);
  scope = r.target.scope;
  classes = items r.target.classes;
  condition = r.condition;
  action = r.action;
  semicolon = r.semicolon;
  ports = r.ports;
}

-- what fills a place that holds no rule yet, with the open condition c
abbrev pub blank_rule : {C : Type 0} → C → Ruling C
blank_rule c = record {
  id = codes "_";
  place = 0;
  user = 0;
  rank = 0;
  patterns = [];
  places = [];
  scope = All;
  classes = [];
  condition = c;
  action = Deny;
  semicolon = 0;
  ports = record { bits = 0 };
}

-- the set s with the ports that patterns touch, numbered from i on, or the first that is refused
abbrev pub touched_by : List Link → ℕ → ℕ → PortSet → List (List Item) → Result PortSet (ℕ × Fault)
touched_by ls c i s [] = Ok s
touched_by ls c i s (p ∷ ps) = next (searched ls c p) i (λ t. touched_by ls c (i + 1) (record { bits = bit_or s.bits t.bits }) ps)

-- a refused pattern is refused at its first sign
abbrev pub placed_at : List ℕ → Result PortSet (ℕ × Fault) → Result PortSet Refusal
placed_at places (Ok s) = Ok s
placed_at places (Err e) = refuse (cause_of e.1) (slice_index places e.0)

-- the ports that the patterns of a rule touch; the first pattern that is refused counts, at its first sign
abbrev pub ports_for : Plan → List (List Item) → List ℕ → Result PortSet Refusal
ports_for s patterns places = placed_at places (touched_by s.links (length s.nodes) 0 (record { bits = 0 }) patterns)

-- the rule of its parts and its ports, and the place after its semicolon
abbrev pub ruled : {C : Type 0} → Head → Paths → Targets → C → Actions × ℕ → PortSet → Result (Ruling C × ℕ) Refusal
ruled h p t c a ports = Ok (
  record {
    id = h.id;
    place = h.place;
    user = h.user;
    rank = h.rank;
    patterns = p.patterns;
    places = p.places;
    scope = t.scope;
    classes = t.classes;
    condition = c;
    action = a.0.action;
    semicolon = a.0.semicolon;
    ports = ports;
  },
  a.1,
)

-- after the action comes the search for paths
abbrev pub after_action : {C : Type 0} → Plan → Head → Paths → Targets → C → Actions × ℕ → Result (Ruling C × ℕ) Refusal
after_action s h p t c a = onward (ruled h p t c a) (ports_for s p.patterns p.places)

-- after the conditions comes the action
abbrev pub after_condition : {C : Type 0} → Plan → List ℕ → Head → Paths → Targets → C × ℕ → Result (Ruling C × ℕ) Refusal
after_condition s text h p t c = onward (after_action s h p t c.0) (read_section action_section text no_action c.1)

-- after the target come the conditions
abbrev pub after_target_of : {C P : Type 0} → Sense C P → Plan → List ℕ → Head → Paths → Targets × ℕ → Result (Ruling C × ℕ) Refusal
after_target_of k s text h p t = onward (after_condition s text h p t.0) (condition_read (read_section (condition_section k.taken) text (no_conditions k.everywhere) t.1))

-- after the paths comes the target
abbrev pub after_paths_of : {C P : Type 0} → Sense C P → Plan → List ℕ → Head → Paths × ℕ → Result (Ruling C × ℕ) Refusal
after_paths_of k s text h p = onward (after_target_of k s text h p.0) (read_section (target_section s.classes) text no_target p.1)

-- after the head come the paths
abbrev pub after_head_of : {C P : Type 0} → Sense C P → Plan → List ℕ → Head → Result (Ruling C × ℕ) Refusal
after_head_of k s text h = onward (after_paths_of k s text h) (read_section (path_section s.nodes) text no_paths h.end)

-- where reading starts: a place past the text counts as its end
abbrev pub start_of : List ℕ → ℕ → ℕ
start_of text place = min place (length text)

-- the rule that is read on a site from a place on, with the place after its semicolon, or the refusal
abbrev pub read_rule : {C P : Type 0} → Sense C P → Plan → List ℕ → ℕ → Result (Ruling C × ℕ) Refusal
read_rule k s text place = onward (after_head_of k s text) (head_from s text (start_of text place))
