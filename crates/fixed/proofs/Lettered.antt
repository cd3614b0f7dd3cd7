-- Name bytes are ASCII, so that a run of them is text.
use Rattle.std.proofs.Common.{◌≡◌, ℕ, ◌<◌, ◌≤◌, true, List, [], ◌++◌, length, get_or, take, Ok, Err, Result, MatchResult, refl, ap, ◌∙◌, ⊎_elim, arith}
use Rattle.std.specs.List.{prefix_len}
use Rattle.std.specs.Result.{IsOk}
use Rattle.std.specs.Str.{IsAscii, IsUtf8}
use Rattle.std.proofs.lemmas.Bool.{and_parts, eqb-true, leb-true, cases_lt}
use Rattle.std.proofs.lemmas.List.{get_or_past, take_all}
use Rattle.std.proofs.lemmas.List.Sums.{prefix_len_passes}
use Rattle.std.proofs.lemmas.Str.{IsUtf8-from_ascii}
use Rattle.std.proofs.lemmas.Grind.{common_steps}
use Rattle.fixed.specs.Spelling.{name_byte, is_name}

ascii_byte : (b : ℕ) → name_byte b ≡ true → b < 128
ascii_byte b e = grind (arith, common_steps)

ascii : (bs : List ℕ) → prefix_len name_byte bs ≡ length bs → IsAscii bs
ascii bs e i =
    ⊎_elim
    (λ lt. ascii_byte (get_or bs i 0) (prefix_len_passes name_byte bs i 0 (omega (arith, e, lt))))
    (λ ge. let z = get_or_past bs i 0 ge in omega (arith, z))
    (cases_lt i (length bs))

-- the bytes of a name are text
pub text : (bs : List ℕ) → is_name bs ≡ true → IsUtf8 bs
text bs e = IsUtf8-from_ascii bs (ascii bs (eqb-true _ _ (and_parts _ _ (and_parts _ _ e).1).1))

pub read : {T E : Type 0} (P : T → Type 0) (Q : E → Type 0) (bs : List ℕ) (r : Result T E) → MatchResult r P (λ e. (IsUtf8 bs → ⊥) × Q e) → IsUtf8 bs → IsOk r
read P Q bs (Ok s) h u = refl
read P Q bs (Err e) h u = absurd (h.0 u)

-- letters put into an empty list are those of the name
pub put_whole : (xs ys bs : List ℕ) → xs ≡ [] → ys ≡ take 16 (xs ++ bs) → is_name bs ≡ true → ys ≡ bs
put_whole xs ys bs none e name =
    let few : length bs ≤ 16 = leb-true _ _ (and_parts _ _ (and_parts _ _ name).1).0 in
    e ∙ ap (λ z. take 16 (z ++ bs)) none ∙ take_all 16 bs few
