use Rattle.std.proofs.Common.{◌≡◌, ◌<◌, ◌≤◌, length, get_or, take, drop, ◌+◌, ◌-◌, Ok, Err, sym, ap, ◌∙◌, subst, arith}
use Rattle.site.specs.Plans.{plan_of}
use Rattle.site.specs.Fields.{declare, field}
use Rattle.site.specs.Maps.{body_length, fields, placed}
use Rattle.site.proofs.Folds.{Sofar, one_more, stops, ends_here, short, cut, judged, length_tail, front_is, after_is, tail}
use Rattle.site.proofs.reader.declare_all.Goals as goal
use Rattle.site.proofs.reader.declare_all.Goals.{In-len3-up}

-- the pattern's arm says how long the rest is
long : (c : In-len3-up) → 3 ≤ length c.loop-rest.rest.now
long c = grind arith

pub loop-rest-init : goal.loop-rest-init
loop-rest-init c = record {
  fuel = length c.args.bytes.now;
  upto = omega arith;
  enough = omega arith;
  same = ap (λ s. fields (length c.args.bytes.now) 0 s c.args.bytes.now) c.new-draft.ensures;
}

pub returns-in-empty : goal.returns-in-empty
returns-in-empty c = let none : length c.loop-rest.rest.now ≡ 0 = grind arith in ends_here c.loop-rest.invariant none

pub returns-in_default : goal.returns-in_default
returns-in_default c =
    let some : 0 < length c.loop-rest.rest.now = grind arith in
    let few : length c.loop-rest.rest.now < 3 = grind arith in
    ap Err c.at.ensures ∙ stops c.loop-rest.invariant _ some (short c.loop-rest.at (plan_of c.loop-rest.draft) c.loop-rest.rest.now few)

pub returns-then-tail-len : goal.returns-then-tail-len
returns-then-tail-len c =
    let t = length_tail c.loop-rest.rest.now in
    let three = long (goal.at.returns-then-tail-len c).In-len3-up in
    ap Err c.at-then-tail-len.ensures
    ∙ stops c.loop-rest.invariant _ (omega arith) (cut c.loop-rest.at (plan_of c.loop-rest.draft) c.loop-rest.rest.now (omega arith) (omega (arith, c.length_of-len.ensures)))

pub overflow_add-at-in-len3-up : goal.overflow_add-at-in-len3-up
overflow_add-at-in-len3-up c = omega (arith, length_tail c.loop-rest.rest.now, c.loop-rest.invariant.upto)

pub returns-in-Err : goal.returns-in-Err
returns-in-Err c =
    let t = length_tail c.loop-rest.rest.now in
    let three = long (goal.at.returns-in-Err c).In-len3-up in
    let declared = subst (λ n. declare (plan_of c.loop-rest.draft) (field (get_or c.loop-rest.rest.now 0 0) (take (n - 0) (tail c.loop-rest.rest.now))) ≡ Err c.in-Err.cause) c.length_of-len.ensures c.in-Err.ensures.declared in
    ap Err c.at-in-Err.ensures
    ∙ stops c.loop-rest.invariant _ (omega arith)
    (judged c.loop-rest.at (plan_of c.loop-rest.draft) c.loop-rest.rest.now (omega arith) (omega (arith, c.length_of-len.ensures))
    ∙ ap (λ b. placed c.loop-rest.at (declare (plan_of c.loop-rest.draft) (field (get_or c.loop-rest.rest.now 0 0) b))) (front_is c.loop-rest.rest.now (body_length c.loop-rest.rest.now))
    ∙ ap (placed c.loop-rest.at) declared)

pub loop-rest-preserved : goal.loop-rest-preserved
loop-rest-preserved c =
    let t = length_tail c.loop-rest.rest.now in
    let three = long (goal.at.loop-rest-preserved c).In-len3-up in
    let declared = subst (λ n. declare (plan_of c.loop-rest.draft) (field (get_or c.loop-rest.rest.now 0 0) (take (n - 0) (tail c.loop-rest.rest.now))) ≡ Ok (plan_of c.declare.new.self)) c.length_of-len.ensures c.in_default-declare.ensures.declared in
    subst (λ n. Sofar c.args.bytes.now (c.loop-rest.at + (3 + n)) (plan_of c.declare.new.self) (take (length (tail c.loop-rest.rest.now) - n) (drop n (tail c.loop-rest.rest.now)))) (sym c.length_of-len.ensures)
    (subst (Sofar c.args.bytes.now _ (plan_of c.declare.new.self)) (sym (after_is c.loop-rest.rest.now (body_length c.loop-rest.rest.now)))
    (one_more c.loop-rest.invariant (plan_of c.declare.new.self) (omega (arith, c.length_of-len.ensures))
    (judged c.loop-rest.at (plan_of c.loop-rest.draft) c.loop-rest.rest.now (omega arith) (omega (arith, c.length_of-len.ensures))
    ∙ ap (λ b. placed c.loop-rest.at (declare (plan_of c.loop-rest.draft) (field (get_or c.loop-rest.rest.now 0 0) b))) (front_is c.loop-rest.rest.now (body_length c.loop-rest.rest.now))
    ∙ ap (placed c.loop-rest.at) declared)))
