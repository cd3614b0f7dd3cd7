-- What a name of the code spells.
use Rattle.std.specs.Prelude.{ℕ, List}
use Rattle.fixed.specs.declared.naming.Name.{Name}
use Rattle.fixed.specs.Items.{items}

-- the bytes of a name
abbrev pub spelling : Name → List ℕ
spelling n = items n.letters
