-- What a bounded list holds.
use Rattle.std.specs.Prelude.{ℕ, List, take}
use Rattle.fixed.specs.declared.bounded.Table.{Table}

-- the items, first to last
abbrev pub items : {T : Type 0} {N : ℕ} → Table T N → List T
items t = take t.len t.slots
