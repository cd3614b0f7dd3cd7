use Rattle.std.proofs.Common.{◌≡◌, ℕ, ◌<◌, length, map, get_or, Err, Ok, Result, subst, refl, ap, ◌∙◌, rules}
use Rattle.std.specs.Result.{MatchResult, IsErrAnd}
use Rattle.std.proofs.lemmas.List.{length-map}
use Rattle.std.proofs.lemmas.Result.{err_from_is_err_and}
use Rattle.paths.specs.declared.finding.Fault.{Fault}
use Rattle.paths.specs.declared.ports.PortSet.{PortSet}
use Rattle.paths.specs.declared.route.Route.{Route}
use Rattle.paths.specs.Faults.{cause_of}
use Rattle.paths.specs.Unions.{AllJudged}
use Rattle.site.specs.declared.refusals.Refusal.{Refusal}
use Rattle.site.specs.Sites.{plan}
use Rattle.sections.specs.Routes.{items_at, place_at}
use Rattle.rules.specs.Rules.{placed_at}
use Rattle.rules.proofs.Ports.{united_as_said, place_there, refused_within}
use Rattle.rules.proofs.rule.ports_for.Goals as goal

refused_at : (places : _) {Q : ℕ × Fault → Refusal → Type 0} (r : Result PortSet (ℕ × Fault)) (z : Result PortSet Refusal) → MatchResult r (λ x. z ≡ Ok x) (λ e. IsErrAnd z (Q e))
    → ((e : ℕ × Fault) → r ≡ Err e → (d : Refusal) → Q e d → d ≡ record { cause = cause_of e.1; place = get_or places e.0 0 }) → z ≡ placed_at places r
refused_at places (Ok x) z m f = m
refused_at places {Q} (Err e) z m f = let p = err_from_is_err_and {Q = Q e} z m in p.1 ∙ ap Err (f e refl p.0 p.2)

pub returns : goal.returns
returns c =
    let s = plan c.args.site.now in
    let rs = c.args.routes.now in
    let said = c.touched.ensures.is ∙ united_as_said s.links (length s.nodes) 0 (record { bits = 0 }) (map items_at rs) in
    refused_at (map place_at rs) c.touched.result c.map_err.result c.map_err.ensures.cases (λ e is d k.
    let judged = subst (AllJudged s.links (length s.nodes) (map items_at rs)) is c.touched.ensures.judged in
    let within : e.0 < length rs = subst (λ n. e.0 < n) (length-map rs items_at) (refused_within s.links (length s.nodes) (map items_at rs) e.0 e.1 judged) in
    let there : (r : Route) → r ≡ get_or rs e.0 r → get_or (map place_at rs) e.0 0 ≡ r.place = λ r g. place_there rs e.0 r within g in
    search (rules, there))
    ∙ ap (placed_at (map place_at rs)) said
