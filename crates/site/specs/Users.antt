-- The users of a site.
use Rattle.std.specs.Prelude.{ℕ, List}
use Rattle.fixed.specs.Names.{spelling}
use Rattle.site.specs.declared.users.User.{User}

-- the name of a user, as its bytes
abbrev pub called : User → List ℕ
called u = spelling u.name

abbrev pub rank : User → ℕ
rank u = u.rank
