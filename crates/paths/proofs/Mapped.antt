-- The item of a mapped list, from the item of the list.
use Rattle.std.proofs.Common.{◌≡◌, ℕ, List, map, get_or, sym, ap, ◌∙◌}
use Rattle.std.proofs.Math.ListN.{get_or-map}

pub mapped_item : {A B : Type 0} (f : A → B) (xs : List A) (i : ℕ) (d : A) → d ≡ get_or xs i d → f d ≡ get_or (map f xs) i (f d)
mapped_item f xs i d is = ap f is ∙ sym (get_or-map f xs i d)
