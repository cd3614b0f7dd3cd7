use Rattle.std.proofs.Common.{◌≡◌, Ok, Err, sym, ap, ◌∙◌}
use Rattle.std.proofs.lemmas.Result.{err_from_is_err_and}
use Rattle.site.specs.Plans.{plan_of}
use Rattle.site.specs.Maps.{read_map}
use Rattle.site.specs.Promises.{Sound}
use Rattle.site.specs.Sites.{told}
use Rattle.site.proofs.Ending.{fields_refused, unsealed, sealed, read_sound, told_sound}
use Rattle.site.proofs.Saying.{read_says, says_read}
use Rattle.site.proofs.Stopping.{read_refuses}
use Rattle.site.proofs.Writing.{reads_back}
use Rattle.site.proofs.sealed.Site.read.Goals as goal
use Rattle.site.proofs.sealed.Site.read.Goals.{Else-not-is_sealable}

pub returns-in_err-draft : goal.returns-in_err-draft
returns-in_err-draft c =
    let p = err_from_is_err_and c.from_residual.result c.from_residual.ensures.1 in
    let e : told c.from_residual.result ≡ read_map c.args.bytes.now = ap told p.1 ∙ ap Err p.2 ∙ fields_refused c.args.bytes.now _ c.in_err-draft.ensures in
    record {
      defined = e;
      read = λ s q. read_says c.args.bytes.now s (sym e ∙ q);
      all = λ s h. e ∙ says_read c.args.bytes.now s h;
      refused = λ f q. read_refuses c.args.bytes.now f (sym e ∙ q);
      sound = told_sound c.from_residual.result c.args.bytes.now e;
      back = reads_back;
    }

pub returns-then-not-is_sealable : goal.returns-then-not-is_sealable
returns-then-not-is_sealable c =
    let e = ap Err c.at.ensures ∙ unsealed c.args.bytes.now (plan_of c.in_ok-draft.draft) c.in_ok-draft.ensures (sym c.if-not-is_sealable.ensures) in
    record {
      defined = e;
      read = λ s q. read_says c.args.bytes.now s (sym e ∙ q);
      all = λ s h. e ∙ says_read c.args.bytes.now s h;
      refused = λ f q. read_refuses c.args.bytes.now f (sym e ∙ q);
      sound = tt;
      back = reads_back;
    }

-- the map is read as the plan of the draft
whole : (c : Else-not-is_sealable) → Ok (plan_of c.in_ok-draft.draft) ≡ read_map c.args.bytes.now
whole c = sealed c.args.bytes.now (plan_of c.in_ok-draft.draft) c.in_ok-draft.ensures (sym c.if-not-is_sealable.ensures)

pub invariant_of-result : goal.invariant_of-result
invariant_of-result c =
    let s : Sound (plan_of c.in_ok-draft.draft) = read_sound c.args.bytes.now _ (whole (goal.at.invariant_of-result c).Else-not-is_sealable) in
    let k = s.kept in
    record {
      some_node = s.some_node;
      some_class = s.some_class;
      some_user = s.some_user;
      proper_nodes = k.nodes.proper;
      proper_classes = k.classes.proper;
      proper_users = k.users.proper;
      distinct_nodes = k.nodes.distinct;
      distinct_classes = k.classes.distinct;
      distinct_users = k.users.distinct;
      two_ended = k.two_ended;
      unrepeated = k.unrepeated;
      all_linked = s.all_linked;
      ranked = k.ranked;
    }

pub returns : goal.returns
returns c =
    let e = whole (goal.at.returns c).Else-not-is_sealable in
    record {
      defined = e;
      read = λ s q. read_says c.args.bytes.now s (sym e ∙ q);
      all = λ s h. e ∙ says_read c.args.bytes.now s h;
      refused = λ f q. read_refuses c.args.bytes.now f (sym e ∙ q);
      sound = read_sound c.args.bytes.now _ e;
      back = reads_back;
    }
