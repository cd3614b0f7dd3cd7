-- The places at which rules are asked: a port and a class of the site, and a point on the ground.
use Rattle.std.specs.Prelude.{◌≡◌, ℕ, ◌<◌, ◌≤◌, true, false, ◌⊎◌, length, Ok, Err, Result}
use Rattle.kind.specs.Sense.{Sense}
use Rattle.site.specs.declared.refusals.Cause.TheVariants.{NoPortOrClass, OffGround}
use Rattle.site.specs.declared.refusals.Refusal.{Refusal}
use Rattle.site.specs.Plans.{Plan}
use Rattle.paths.specs.declared.ports.Port.{Port}
use Rattle.paths.specs.PortSets.{is_port}

module _ {C P : Type 0} (s : Plan) (k : Sense C P) (port : Port) (class : ℕ) (point : P) where
  -- it is such a place
  pub record IsPlace : Type 0 where
    pub port_is : is_port s.links port ≡ true
    pub class_is : class < length s.classes
    pub point_is : k.on_ground point ≡ true

  -- the port or the class is not the site's
  abbrev pub IsNowhere : Type 0
  IsNowhere = (is_port s.links port ≡ false) ⊎ (length s.classes ≤ class)

  -- both are the site's, but the point is off the ground
  pub record IsOff : Type 0 where
    pub port_is : is_port s.links port ≡ true
    pub class_is : class < length s.classes
    pub point_is : k.on_ground point ≡ false

  -- what is answered for it
  abbrev pub Placed : Result (Unit {0}) Refusal → Type 0
  Placed (Ok u) = IsPlace
  Placed (Err e) = ((e ≡ record { cause = NoPortOrClass; place = 0 }) × IsNowhere) ⊎ ((e ≡ record { cause = OffGround; place = 0 }) × IsOff)
