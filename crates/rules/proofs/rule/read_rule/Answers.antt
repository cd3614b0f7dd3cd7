use Rattle.std.proofs.Common.{rules}
use Rattle.site.specs.Sites.{plan}
use Rattle.rules.proofs.RuleLaw.{law_of}
use Rattle.rules.proofs.rule.read_rule.Goals as goal

pub returns-in_err-head-clause-law : goal.returns-in_err-head-clause-law
returns-in_err-head-clause-law g c = law_of g.K.Kind.sense (plan c.args.site.now) c.args.text.now c.args.place _ (search rules)

pub returns-in_err-routes-clause-law : goal.returns-in_err-routes-clause-law
returns-in_err-routes-clause-law g c = law_of g.K.Kind.sense (plan c.args.site.now) c.args.text.now c.args.place _ (search rules)

pub returns-in_err-target-clause-law : goal.returns-in_err-target-clause-law
returns-in_err-target-clause-law g c = law_of g.K.Kind.sense (plan c.args.site.now) c.args.text.now c.args.place _ (search rules)

pub returns-in_err-condition-clause-law : goal.returns-in_err-condition-clause-law
returns-in_err-condition-clause-law g c = law_of g.K.Kind.sense (plan c.args.site.now) c.args.text.now c.args.place _ (search rules)

pub returns-in_err-closing-clause-law : goal.returns-in_err-closing-clause-law
returns-in_err-closing-clause-law g c = law_of g.K.Kind.sense (plan c.args.site.now) c.args.text.now c.args.place _ (search rules)

pub returns-in_err-ports-clause-law : goal.returns-in_err-ports-clause-law
returns-in_err-ports-clause-law g c = law_of g.K.Kind.sense (plan c.args.site.now) c.args.text.now c.args.place _ (search rules)

pub returns-clause-law : goal.returns-clause-law
returns-clause-law g c = law_of g.K.Kind.sense (plan c.args.site.now) c.args.text.now c.args.place _ (search rules)
