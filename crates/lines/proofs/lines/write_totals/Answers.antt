use Rattle.std.proofs.Common.{◌≡◌, ℕ, ◌≤◌, List, [], ◌++◌, length, take, codes, decimal, ◌∙◌, subst, arith}
use Rattle.std.proofs.lemmas.List.{take_all}
use Rattle.kind.specs.Texts.{Printed}
use Rattle.lines.specs.Lines.{written, totals_line}
use Rattle.lines.proofs.Behind.{put_ok}
use Rattle.lines.proofs.Cutting.{then, four_short}
use Rattle.lines.proofs.lines.write_totals.Goals as goal

pub returns : goal.returns
returns c =
    let pairs = decimal c.args.totals.pairs in
    let unsettled = decimal c.args.totals.unsettled in
    let one : written c.put_number.new.self ≡ take 128 pairs = then 128 [] pairs c.new-line.ensures c.put_number.ensures.text in
    let two = then 128 pairs (codes " pairs, ") one c.put.ensures in
    let three = then 128 (pairs ++ codes " pairs, ") unsettled two c.put_number-2.ensures.text in
    let four = then 128 ((pairs ++ codes " pairs, ") ++ unsettled) (codes " open") three c.put-2.ensures in
    let short : length (totals_line c.args.totals) ≤ 128 = four_short pairs (codes " pairs, ") unsettled (codes " open") (omega (arith, c.put_number.ensures.short, c.put_number-2.ensures.short)) in
    put_ok (totals_line c.args.totals) c.args.out.now c.put-3.new.out c.put-3.result c.ok_or.result c.at.result c.ok_or.ensures.value c.at.ensures
    (subst (λ (z : List ℕ). Printed z c.args.out.now c.put-3.result c.put-3.new.out) (c.as_slice.ensures ∙ four ∙ take_all 128 (totals_line c.args.totals) short) c.put-3.ensures)
