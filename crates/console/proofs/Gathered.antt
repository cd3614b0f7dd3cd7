-- A line that is gathered from pieces is whole where its places are enough, as they are for each reason.
use Rattle.std.proofs.Common.{◌≡◌, ℕ, zero, suc, ◌<◌, ◌≤◌, ◌^◌, List, [], ◌∷◌, ◌++◌, length, take, codes, decimal, Option, None, Some, Result, IfSome, OnOk, refl, sym, ap, subst, ◌∙◌, append_assoc, arith, length-append}
use Rattle.std.proofs.lemmas.Fmt.{length-decimal-le}
use Rattle.std.proofs.lemmas.List.{take_all, append-nil, length-take}
use Rattle.std.proofs.lemmas.Result.{on_ok_weaker}
use Rattle.std.specs.Fmt.{WritesInCalls, WritesText}
use Rattle.std.specs.Io.KnownBytes.{Appends}
use Rattle.std.specs.List.{FoldsTo, concat}
use Rattle.fixed.specs.Items.{items}
use Rattle.console.specs.declared.line.Line.{Line}
use Rattle.site.specs.declared.refusals.Cause.{Cause}
use Rattle.site.specs.declared.refusals.Cause.TheVariants.{CutShort}
use Rattle.site.specs.Refusals.{number}

cut : (n : ℕ) (xs ys : List ℕ) → take n (take n xs ++ ys) ≡ take n (xs ++ ys)
cut zero xs ys = refl
cut (suc n) [] ys = refl
cut (suc n) (x ∷ xs) ys = ap (λ l. x ∷ l) (cut n xs ys)

module _ {n : ℕ} where
  abbrev Took : Line n → List ℕ → Line n → Type 0
  Took s bs t = items t.text ≡ take n (items s.text ++ bs)

  pieces : (s : Line n) (parts : List (List ℕ)) (t : Line n) → length (items s.text) ≤ n → FoldsTo Took s parts t → items t.text ≡ take n (items s.text ++ concat parts)
  pieces s [] t le p = ap (λ (l : Line n). items l.text) (sym p) ∙ sym (take_all n (items s.text) le) ∙ ap (take n) (sym (append-nil (items s.text)))
  pieces s (bs ∷ parts) t le p =
      let within : length (items p.0.text) ≤ n = omega (arith, ap length p.1, length-take n (items s.text ++ bs)) in
      pieces p.0 parts t within p.2
      ∙ ap (λ l. take n (l ++ concat parts)) p.1
      ∙ cut n (items s.text ++ bs) (concat parts)
      ∙ ap (take n) (append_assoc (items s.text) bs (concat parts))

  whole : (s : Line n) (bs : List ℕ) (t : Line n) → items s.text ≡ [] → length bs ≤ n → WritesInCalls Took s bs t → items t.text ≡ bs
  whole s bs t e le p =
      pieces s p.parts t (omega (arith, ap length e)) p.calls
      ∙ ap (λ l. take n (l ++ concat p.parts)) e
      ∙ ap (take n) p.whole
      ∙ take_all n bs le

  -- what is written is the text that was gathered, where the longest has room
  pub gathered : {E : Type 0} (longest : ℕ) → longest ≤ n → (o : Option (List ℕ)) (s t : Line n) (r : Result (Unit {0}) E) (old new : Option (List ℕ)) (line : List ℕ) → items s.text ≡ [] → IfSome o (λ bs. length bs ≤ longest) → WritesText Took s o t → line ≡ items t.text → OnOk r (Appends old new line) → OnOk r (IfSome o (Appends old new))
  gathered longest room None s t r old new line e le p same h = on_ok_weaker r (λ a. tt) h
  gathered longest room (Some bs) s t r old new line e le p same h = on_ok_weaker r (subst (Appends old new) (same ∙ whole s bs t e (omega (arith, le)) p)) h

number_small : (c : Cause) → number c < 10 ^ 2
number_small CutShort = omega arith
number_small c = omega arith

pub refused_short : (c : Cause) (place : ℕ) → place < 2 ^ 64 → length ((codes "refused " ++ (decimal (number c) ++ (codes " at " ++ decimal place))) ++ 10 ∷ []) ≤ 35
refused_short c place fits =
    let cause = length-decimal-le 2 (number c) (omega arith) (number_small c) (let m = number_small c in omega arith) in
    let at = length-decimal-le 20 place (omega arith) (omega arith) fits in
    omega (arith, cause, at, length-append (codes "refused " ++ (decimal (number c) ++ (codes " at " ++ decimal place))) (10 ∷ []), length-append (codes "refused ") (decimal (number c) ++ (codes " at " ++ decimal place)), length-append (decimal (number c)) (codes " at " ++ decimal place), length-append (codes " at ") (decimal place))
