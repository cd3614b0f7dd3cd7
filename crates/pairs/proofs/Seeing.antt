-- Lists of rules as what they say.
use Rattle.std.proofs.Common.{◌≡◌, ℕ, ◌<◌, List, map, length, get_or, Some, refl, ap, ◌∙◌}
use Rattle.std.specs.List.{slice_get}
use Rattle.std.specs.Option.{option_map}
use Rattle.std.proofs.lemmas.Option.{slice_get-map, slice_get_read}
use Rattle.rules.specs.declared.rule.Rule.{Rule}
use Rattle.rules.specs.Rules.{rule_of}

pub seen_nth : {C : Type 0} (rs : List (Rule C)) (i : ℕ) (r : Rule C) → i < length rs → r ≡ get_or rs i r → slice_get (map rule_of rs) i ≡ Some (rule_of r)
seen_nth rs i r lt is = slice_get-map rule_of rs i ∙ ap (option_map rule_of) (slice_get_read rs (length rs) i r refl lt is)
