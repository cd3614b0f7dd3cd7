-- The classes of a target.
use Rattle.std.specs.Prelude.{ℕ, Bool, true, not, List, ◌==◌}
use Rattle.std.specs.List.{list_any}
use Rattle.fixed.specs.Items.{items}
use Rattle.sections.specs.declared.targets.Scope.{Scope}
use Rattle.sections.specs.declared.targets.Scope.TheVariants.{All, Only, AllBut}
use Rattle.sections.specs.declared.targets.Target.{Target}

-- whether a number is in a list
abbrev pub listed : ℕ → List ℕ → Bool
listed n xs = list_any (λ x. x == n) xs

-- whether a class is among those that a list gives by its scope
abbrev pub within : Scope → List ℕ → ℕ → Bool
within All ns n = true
within Only ns n = listed n ns
within AllBut ns n = not (listed n ns)

-- whether a class is in a target
abbrev pub member : Target → ℕ → Bool
member t n = within t.scope (items t.classes) n
