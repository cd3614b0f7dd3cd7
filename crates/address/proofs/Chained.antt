-- A loop over one list of comparisons and then another: what it has still to go through.
use Rattle.std.proofs.Common.{◌≡◌, cond, List, [], ◌∷◌, ◌++◌, Some, None, Option, Bor, Iter, rules}
use Rattle.std.specs.Iterator.Adapters.{chain_first, chain_second, chain_first_done, chain_second_done, chain_steps}
use Rattle.std.specs.declared.iter.Chain.{Chain}
use Rattle.std.proofs.iter.Yields.{fronts}
use Rattle.std.proofs.lemmas.Grind.{common_steps}

abbrev pub ahead : {A : Type 0} → Chain (Iter A) (Iter A) → List A
ahead s = cond (chain_first_done s) [] (chain_first s).rest.now ++ cond (chain_second_done s) [] (chain_second s).rest.now

pub more_ahead : {A : Type 0} (s t : Chain (Iter A) (Iter A)) (r : Option (Bor A)) (x : Bor A) → r ≡ Some x → chain_steps fronts fronts s r t → ahead s ≡ x.now ∷ ahead t
more_ahead s t r x e h = search (rules, common_steps)

pub none_ahead : {A : Type 0} (s t : Chain (Iter A) (Iter A)) (r : Option (Bor A)) → r ≡ None → chain_steps fronts fronts s r t → ahead s ≡ []
none_ahead s t r e h = search (rules, common_steps)
