-- The union over patterns, as it is said of a rule, and the bound of the number of a refused pattern.
use Rattle.std.proofs.Common.{◌≡◌, ℕ, ◌+◌, ◌<◌, List, [], ◌∷◌, map, length, get_or, Ok, Err, Result, sym, refl, ap, ◌∙◌, arith}
use lib.Bits.{bit_or}
use Rattle.std.proofs.lemmas.List.{length-append, get_or-map}
use Rattle.site.specs.declared.parts.Link.{Link}
use Rattle.paths.specs.declared.finding.Fault.{Fault}
use Rattle.paths.specs.declared.pattern.Item.{Item}
use Rattle.paths.specs.declared.ports.PortSet.{PortSet}
use Rattle.paths.specs.declared.route.Route.{Route}
use Rattle.paths.specs.Found.{searched}
use Rattle.paths.specs.Unions.{next, united, FirstRefused}
use Rattle.sections.specs.Routes.{place_at}
use Rattle.rules.specs.Rules.{touched_by}

next_same : (r : Result PortSet Fault) (i : ℕ) (f g : PortSet → Result PortSet (ℕ × Fault)) → ((t : PortSet) → f t ≡ g t) → next r i f ≡ next r i g
next_same (Ok t) i f g h = h t
next_same (Err e) i f g h = refl

pub united_as_said : (ls : List Link) (c i : ℕ) (s : PortSet) (ps : List (List Item)) → united ls c i s ps ≡ touched_by ls c i s ps
unfolding united
united_as_said ls c i s [] = refl
united_as_said ls c i s (p ∷ ps) =
    next_same (searched ls c p) i _ _ (λ t. united_as_said ls c (i + 1) (record { bits = bit_or s.bits t.bits }) ps)

pub refused_within : (ls : List Link) (c : ℕ) (ps : List (List Item)) (i : ℕ) (f : Fault) → FirstRefused ls c ps i f → i < length ps
refused_within ls c ps i f r = omega (arith, r.number, ap length r.whole, length-append r.before (r.pattern ∷ r.behind))

pub place_there : (rs : List Route) (i : ℕ) (r : Route) → i < length rs → r ≡ get_or rs i r → get_or (map place_at rs) i 0 ≡ r.place
place_there rs i r h e = get_or-map place_at rs i r 0 h ∙ ap place_at (sym e)
