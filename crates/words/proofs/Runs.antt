-- A byte other than a blank stands in a text exactly where its leading blanks end before it does.
use Rattle.std.proofs.Common.{◌≡◌, ℕ, ◌+◌, ◌-◌, ◌<◌, min, ltb, List, length, get_or, take, drop, sym, ap, ◌∙◌, arith}
use Rattle.std.specs.List.{prefix_len}
use Rattle.std.proofs.lemmas.List.{length-drop, get_or-drop}
use Rattle.std.proofs.lemmas.List.Sums.{prefix_len_stops, prefix_len_passes}
use Rattle.std.proofs.lemmas.Bool.{ltb-true, ltb-false}
use Rattle.words.specs.Words.{blank, any_more, More}
use Rattle.words.proofs.Parts.{rest_from}

pub more_law : (text : List ℕ) (place : ℕ) → More text place (any_more text place)
more_law text place = record {
  some = λ h.
      let less = ltb-true _ _ h in (
        place + prefix_len blank (drop place text),
        omega arith,
        omega (arith, length-drop place text),
        ap blank (sym (get_or-drop place text (prefix_len blank (drop place text)) 0)) ∙ prefix_len_stops blank (drop place text) 0 less,
      );
  all = λ h i up below.
      let full = ltb-false _ _ h in
      let here : i - place < prefix_len blank (drop place text) = omega (arith, length-drop place text) in
      let same : place + (i - place) ≡ i = omega arith in
      let got = prefix_len_passes blank (drop place text) (i - place) 0 here in
      ap (λ j. blank (get_or text j 0)) (sym same) ∙ ap blank (sym (get_or-drop place text (i - place) 0)) ∙ got;
}

-- the test, on the part that begins at the place
pub more_rest : (text : List ℕ) (place start : ℕ) → start ≡ min place (length text) → (n : ℕ) → n ≡ prefix_len blank (take (length text - start) (drop start text)) → ltb n (length (take (length text - start) (drop start text))) ≡ any_more text place
more_rest text place start s n e =
    ap (λ k. ltb k (length (take (length text - start) (drop start text)))) e
    ∙ ap (λ l. ltb (prefix_len blank l) (length l)) (rest_from text place start s)
