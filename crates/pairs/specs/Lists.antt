-- What a list has.
use Rattle.std.specs.Prelude.{List, ◌∷◌}

-- x is one of the list
pub data Has {X : Type 0} : List X → X → Type 0 where
  here : {x : X} {xs : List X} → Has (x ∷ xs) x
  there : {x y : X} {xs : List X} → Has xs x → Has (y ∷ xs) x
