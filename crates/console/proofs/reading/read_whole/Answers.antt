use Rattle.std.proofs.Common.{rules, ◌≡◌, ℕ, List, ◌++◌, take, vec_items, ◌∙◌, ap, subst}
use Rattle.std.proofs.Math.Dec.{leb}
use Rattle.std.specs.Bool.{then_some}
use Rattle.std.specs.Option.{option_map, IfSome}
use Rattle.console.proofs.Whole.{kept}
use Rattle.console.proofs.reading.read_whole.Goals as goal

pub returns-clause-whole : goal.returns-clause-whole
returns-clause-whole g c =
    let buf = c.read_to_end.new.buf in
    let read = c.in_ok-read_to_end.ensures.bytes in
    let limited = subst (λ (n : ℕ). IfSome (option_map (take n) (g.R.Read.remaining c.take.result.inner)) (λ xs. vec_items buf ≡ c.new-bytes.result.items ++ xs)) c.take.ensures.limit read in
    let within = subst (λ from. IfSome (option_map (take 65537) (g.R.Read.remaining from)) (λ xs. vec_items buf ≡ c.new-bytes.result.items ++ xs)) c.take.ensures.inner limited in
    let taken = subst (λ (start : List ℕ). IfSome (option_map (take 65537) (g.R.Read.remaining c.args.from)) (λ xs. vec_items buf ≡ start ++ xs)) c.new-bytes.ensures.items within in
    kept vec_items 65536 buf c.then_some.result (g.R.Read.remaining c.args.from) (c.then_some.ensures ∙ ap (λ (n : ℕ). then_some (leb n 65536) buf) (c.len.ensures ∙ search rules)) taken
