use Rattle.std.proofs.Common.{◌≡◌, true, false, rules}
use Rattle.std.specs.Str.{bytes_eq}
use Rattle.std.proofs.lemmas.Iterator.{first_from_Range}
use Rattle.day.specs.Days.{day_name, day_sense}
use Rattle.kind.specs.Texts.{shown}
use Rattle.day.proofs.Found.{first_found}
use Rattle.day.proofs.day.day_of.Goals as goal

pub returns : goal.returns
returns c =
    first_found (λ d. bytes_eq c.args.name.now (shown day_sense day_name d)) 7 0 _
    (first_from_Range _ _ _ _ (λ d. bytes_eq c.args.name.now (shown day_sense day_name d) ≡ true) (λ d. bytes_eq c.args.name.now (shown day_sense day_name d) ≡ false) c.find.ensures.ran (λ x q k. search rules) (λ x q k. search rules))
