use Rattle.std.proofs.Common.{refl}
use Rattle.paths.specs.Digits.{has}
use Rattle.paths.specs.Live.{marks}
use Rattle.paths.specs.Roads.{steps_of, roads_over}
use Rattle.paths.specs.Walks.{unmarked, free, through, along, from, ports_on, gather}
use Rattle.paths.specs.Found.{starting, end_ports, searched}
use Rattle.paths_worked.proofs.worked_site_stands.Goals as goal

pub returns : goal.returns
unfolding has marks steps_of roads_over unmarked free through along from ports_on gather starting end_ports searched
returns c = record { partials = refl; own = refl; across = refl; back = refl; apart = refl; first = refl; second = refl; alone = refl }
