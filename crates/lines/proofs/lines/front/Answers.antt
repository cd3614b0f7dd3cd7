use Rattle.std.proofs.Common.{◌≡◌, ℕ, ◌≤◌, List, [], ◌++◌, length, take, codes, decimal, unwrap_or, refl, ap, ◌∙◌, arith}
use Rattle.std.proofs.lemmas.List.{take_all}
use Rattle.std.specs.Option.{option_map}
use Rattle.fixed.specs.Names.{spelling}
use Rattle.fixed.proofs.Held.{items_within}
use Rattle.site.specs.Sites.{plan}
use Rattle.lines.specs.Lines.{written, named, mark_word}
use Rattle.lines.proofs.Cutting.{then_as, name_short, mark_short, ten_short}
use Rattle.lines.proofs.lines.front.Goals as goal

pub returns : goal.returns
returns g c =
    let s = plan c.args.site.now in
    let a : List ℕ = spelling c.args.first.now.id in
    let b : List ℕ = spelling c.args.second.now.id in
    let m : List ℕ = mark_word c.args.entry.now.mark in
    let d : List ℕ = decimal c.args.entry.now.port.link in
    let n : List ℕ = named s.nodes c.args.entry.now.port.node in
    let k : List ℕ = named s.classes c.args.entry.now.class in
    let n_is : unwrap_or (option_map spelling c.node_name.result) [] ≡ n = ap (λ z. unwrap_or z []) c.node_name.ensures in
    let k_is : unwrap_or (option_map spelling c.class_name.result) [] ≡ k = ap (λ z. unwrap_or z []) c.class_name.ensures in
    let l1 : written c.put.new.self ≡ take 128 a = then_as 128 [] a c.new-line.ensures c.as_bytes.ensures c.put.ensures in
    let l2 = then_as 128 a (codes " ") l1 refl c.put-2.ensures in
    let l3 = then_as 128 (a ++ codes " ") b l2 c.as_bytes-2.ensures c.put-3.ensures in
    let l4 = then_as 128 ((a ++ codes " ") ++ b) m l3 c.mark_word.ensures c.put-4.ensures in
    let l5 = then_as 128 (((a ++ codes " ") ++ b) ++ m) d l4 (ap decimal c.from.ensures) c.put_number.ensures.text in
    let l6 = then_as 128 ((((a ++ codes " ") ++ b) ++ m) ++ d) (codes " end ") l5 refl c.put-5.ensures in
    let l7 = then_as 128 (((((a ++ codes " ") ++ b) ++ m) ++ d) ++ codes " end ") n l6 n_is c.put_name.ensures in
    let l8 = then_as 128 ((((((a ++ codes " ") ++ b) ++ m) ++ d) ++ codes " end ") ++ n) (codes " class ") l7 refl c.put-6.ensures in
    let l9 = then_as 128 (((((((a ++ codes " ") ++ b) ++ m) ++ d) ++ codes " end ") ++ n) ++ codes " class ") k l8 k_is c.put_name-2.ensures in
    let l10 = then_as 128 ((((((((a ++ codes " ") ++ b) ++ m) ++ d) ++ codes " end ") ++ n) ++ codes " class ") ++ k) (codes " at ") l9 refl c.put-7.ensures in
    let n_short : length n ≤ 16 = omega (arith, name_short c.node_name.result, ap length n_is) in
    let k_short : length k ≤ 16 = omega (arith, name_short c.class_name.result, ap length k_is) in
    let short = ten_short a (codes " ") b m d (codes " end ") n (codes " class ") k (codes " at ")
    (omega (arith, items_within c.args.first.now.id.letters, items_within c.args.second.now.id.letters, mark_short c.args.entry.now.mark, c.put_number.ensures.short, ap (λ z. length (decimal z)) c.from.ensures, n_short, k_short)) in
    l10 ∙ take_all 128 _ short
