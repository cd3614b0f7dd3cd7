-- A rule is read exactly where it is written.
use Rattle.std.proofs.Common.{◌≡◌, ℕ, List, Ok, Err, Result, sym, refl, ap, ◌∙◌, subst}
use Rattle.kind.specs.Sense.{Sense}
use Rattle.site.specs.declared.refusals.Refusal.{Refusal}
use Rattle.site.specs.Plans.{Plan}
use Rattle.sections.specs.Actions.{Actions, no_action, action_section}
use Rattle.sections.specs.Conditions.{Conditions, no_conditions, condition_section, condition_read}
use Rattle.rules.specs.Grammar.{RuleAt, ReadAsWritten}
use Rattle.sections.specs.Heads.{Head, head_from}
use Rattle.sections.specs.Meeting.{onward, read_section}
use Rattle.sections.specs.Routes.{Paths, no_paths, path_section}
use Rattle.rules.specs.Rules.{Ruling, ports_for, ruled, after_action, after_condition, after_target_of, after_paths_of, after_head_of, start_of, read_rule}
use Rattle.sections.specs.Targets.{Targets, no_target, target_section}
use Rattle.rules.proofs.ConditionLaw.{conditions_written, conditions_read}
use Rattle.rules.proofs.Courses.{onward_ok, ok_same}
use Rattle.rules.proofs.HeadLaw.{head_written, head_read}
use Rattle.rules.proofs.PathLaw.{paths_written, paths_read}
use Rattle.words.proofs.Standing.{no_way}
use Rattle.rules.proofs.TargetLaw.{target_written, target_read}

condition_back : {C : Type 0} (m : Result (Conditions C × ℕ) Refusal) (c : C × ℕ) → condition_read m ≡ Ok c → (x : Conditions C × ℕ) × (m ≡ Ok x) × (◌≡◌ {A = C × ℕ} (x.0.condition, x.1) c)
condition_back (Ok x) c e = (x, refl, ok_same e)
condition_back (Err e) c f = absurd (no_way f)

module _ {C P : Type 0} (k : Sense C P) (s : Plan) (text : List ℕ) (place : ℕ) where
  -- what is read is written
  rule_written : (r : Ruling C) (end : ℕ) → read_rule k s text place ≡ Ok (r, end) → RuleAt k s text (start_of text place) r end
  rule_written r end e =
      let hd = onward_ok (after_head_of k s text) (r, end) (head_from s text (start_of text place)) e in
      let h : Head = hd.0 in
      let ph = onward_ok (after_paths_of k s text h) (r, end) (read_section (path_section s.nodes) text no_paths h.end) hd.2 in
      let p : Paths × ℕ = ph.0 in
      let tg = onward_ok (after_target_of k s text h p.0) (r, end) (read_section (target_section s.classes) text no_target p.1) ph.2 in
      let t : Targets × ℕ = tg.0 in
      let cn = onward_ok (after_condition s text h p.0 t.0) (r, end) (condition_read (read_section (condition_section k.taken) text (no_conditions k.everywhere) t.1)) tg.2 in
      let cb = condition_back (read_section (condition_section k.taken) text (no_conditions k.everywhere) t.1) cn.0 cn.1 in
      let c : C × ℕ = cn.0 in
      let ac = onward_ok (after_action s h p.0 t.0 c.0) (r, end) (read_section action_section text no_action c.1) cn.2 in
      let a : Actions × ℕ = ac.0 in
      let pt = onward_ok (ruled h p.0 t.0 c.0 a) (r, end) (ports_for s p.0.patterns p.0.places) ac.2 in
      let same = ok_same pt.2 in
      subst (λ (x : Ruling C × ℕ). RuleAt k s text (start_of text place) x.0 x.1) same (record {
        after_head = h.end;
        after_paths = p.1;
        after_target = t.1;
        after_conditions = c.1;
        head = head_written s text (start_of text place) h hd.1;
        paths = paths_written text s.nodes h.end p.0 p.1 ph.1;
        target = target_written text s.classes p.1 t.0 t.1 tg.1;
        conditions = subst (λ (y : C × ℕ). Rattle.rules.specs.Grammar.ConditionsAt k text t.1 y.0 y.1) cb.2 (conditions_written k text t.1 cb.0.0 cb.0.1 cb.1);
        closing = Rattle.rules.proofs.ActionLaw.action_written text c.1 a.0 a.1 ac.1;
        searched = pt.1;
      })

  -- what is written is read
  rule_read : (r : Ruling C) (end : ℕ) → RuleAt k s text (start_of text place) r end → read_rule k s text place ≡ Ok (r, end)
  rule_read r end w =
      let h : Head = record { id = r.id; place = r.place; user = r.user; rank = r.rank; end = w.after_head } in
      let pr = paths_read text s.nodes w.after_head w.paths in
      let p : Paths = Rattle.rules.proofs.PathLaw.mk Rattle.sections.specs.declared.routes.Stage.TheVariants.Done r.patterns r.places pr.items pr.start in
      let t : Targets = Rattle.rules.proofs.TargetLaw.mk Rattle.sections.specs.declared.targets.Stage.TheVariants.Done r.scope r.classes in
      let cr = conditions_read k text w.after_target w.conditions in
      let a : Actions = Rattle.rules.proofs.ActionLaw.mk Rattle.sections.specs.Actions.Done r.action r.semicolon in
      ap (onward (after_head_of k s text)) (head_read s text (start_of text place) w.head)
      ∙ ap (onward (after_paths_of k s text h)) pr.read
      ∙ ap (onward (after_target_of k s text h p)) (target_read text s.classes w.after_paths w.target)
      ∙ ap (onward (after_condition s text h p t)) (ap condition_read cr.read ∙ ap (λ c. Ok (c, w.after_conditions)) cr.condition)
      ∙ ap (onward (after_action s h p t r.condition)) (Rattle.rules.proofs.ActionLaw.action_read text w.after_conditions w.closing)
      ∙ ap (onward (ruled h p t r.condition (a, end))) w.searched

  pub read_as_written : ReadAsWritten k s text place (read_rule k s text place)
  read_as_written r end = (rule_written r end, rule_read r end)

-- what is read as it is specified is read as it is written
pub law_of : {C P : Type 0} (k : Sense C P) (s : Plan) (text : List ℕ) (place : ℕ) (answer : Result (Ruling C × ℕ) Refusal) → answer ≡ read_rule k s text place → ReadAsWritten k s text place answer
law_of k s text place answer e = subst (ReadAsWritten k s text place) (sym e) (read_as_written k s text place)
