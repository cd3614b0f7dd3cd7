-- From the tally of a search to its answer.
use Rattle.std.proofs.Common.{◌≡◌, ℕ, ◌<◌, ◌≤◌, true, false, eqb, ltb, List, length, Ok, Err, sym, ap, ◌∙◌, arith}
use lib.Bits.{bit_or}
use Rattle.std.proofs.lemmas.Bool.{lt-ltb, le-ltb, cond-true, cond-false}
use Rattle.site.specs.declared.parts.Link.{Link}
use Rattle.paths.specs.declared.finding.Fault.TheVariants.{TooMany, NoPath}
use Rattle.paths.specs.declared.pattern.Item.{Item}
use Rattle.paths.specs.declared.ports.PortSet.{PortSet}
use Rattle.paths.specs.declared.roads.Step.{Step}
use Rattle.paths.specs.Roads.{roads_over}
use Rattle.paths.specs.Walks.{gather}
use Rattle.paths.specs.Found.{starting, all_walks, alone_ports, touched_bits, answered, searched}

module _ (ls : List Link) (n c : ℕ) (items : List Item) (roads : List (List Step)) (over : roads ≡ roads_over ls) (nodes : c ≡ n) where
  same : starting items roads 0 c ≡ all_walks ls n items
  same = ap (λ x. starting items x 0 c) over ∙ ap (starting items (roads_over ls) 0) nodes

  pub few_answered : (bits al found : ℕ) → length (starting items roads 0 c) ≤ 65536 → bits ≡ gather (length items) 0 0 (starting items roads 0 c)
      → al ≡ alone_ports ls n items → found ≡ bit_or bits al → searched ls n items ≡ answered found
  unfolding searched
  few_answered bits al found within gathered alone all =
      let few : length (all_walks ls n items) ≤ 65536 = omega (arith, within, ap length same) in
      let is : found ≡ touched_bits ls n items =
      all ∙ ap (λ x. bit_or x al) (gathered ∙ ap (gather (length items) 0 0) same) ∙ ap (bit_or (gather (length items) 0 0 (all_walks ls n items))) alone in
      cond-false (ltb 65536 (length (all_walks ls n items))) (Err TooMany) (answered (touched_bits ls n items)) (le-ltb 65536 _ few) ∙ ap answered (sym is)

  pub many_answered : 65536 < length (starting items roads 0 c) → searched ls n items ≡ Err TooMany
  unfolding searched
  many_answered h =
      let many : 65536 < length (all_walks ls n items) = omega (arith, h, ap length same) in
      cond-true (ltb 65536 (length (all_walks ls n items))) (Err TooMany) (answered (touched_bits ls n items)) (lt-ltb 65536 _ many)

pub answered_none : (bits : ℕ) → eqb bits 0 ≡ true → answered bits ≡ Err NoPath
answered_none bits e = cond-true (eqb bits 0) (Err NoPath) (Ok (record { bits = bits })) e

pub answered_some : (s : PortSet) → eqb s.bits 0 ≡ false → answered s.bits ≡ Ok s
answered_some s e = cond-false (eqb s.bits 0) (Err NoPath) (Ok (record { bits = s.bits })) e
