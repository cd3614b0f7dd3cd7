-- Texts cut at a length.
use Rattle.std.proofs.Common.{◌≡◌, ℕ, zero, suc, ◌+◌, ◌/◌, ◌%◌, ◌^◌, ◌<◌, ◌≤◌, List, [], ◌∷◌, ◌++◌, length, take, Some, None, decimal, Option, unwrap_or, sym, refl, ap, ◌∙◌, append_assoc, arith, length-append}
use Rattle.std.proofs.lemmas.Fmt.{decimal_step, decimal_digit, length-decimal-le}
use Rattle.std.specs.Option.{option_map}
use Rattle.fixed.specs.declared.naming.Name.{Name}
use Rattle.fixed.specs.Names.{spelling}
use Rattle.fixed.proofs.Held.{items_within}
use Rattle.pairs.specs.declared.answers.Mark.{Mark}
use Rattle.pairs.specs.declared.answers.Mark.TheVariants.{Open, First, Second}
use Rattle.lines.specs.Lines.{mark_word}

cut : {X : Type 0} (n : ℕ) (xs ys : List X) → take n (take n xs ++ ys) ≡ take n (xs ++ ys)
cut zero xs ys = refl
cut (suc n) [] ys = refl
cut (suc n) (x ∷ xs) ys = ap (λ l. x ∷ l) (cut n xs ys)

-- one piece after another
pub then : {X : Type 0} (n : ℕ) {a b : List X} (t p : List X) → a ≡ take n t → b ≡ take n (a ++ p) → b ≡ take n (t ++ p)
then n t p e f = f ∙ ap (λ z. take n (z ++ p)) e ∙ cut n t p

-- the same of a piece under another name
pub then_as : {X : Type 0} (n : ℕ) {a b q : List X} (t p : List X) → a ≡ take n t → q ≡ p → b ≡ take n (a ++ q) → b ≡ take n (t ++ p)
then_as n {a} t p e same f = then n t p e (f ∙ ap (λ z. take n (a ++ z)) same)

-- digits
pub number_one : (n : ℕ) (old after : List ℕ) → n < 10 → after ≡ take 128 (old ++ (48 + n % 10) ∷ []) → after ≡ take 128 (old ++ decimal n)
number_one n old after lt e = e ∙ ap (λ z. take 128 (old ++ z)) (ap (λ z. z ∷ []) (let m : 48 + n % 10 ≡ 48 + n = omega arith in m) ∙ sym (decimal_digit n lt))

pub number_more : (n : ℕ) (old line after : List ℕ) → 10 ≤ n → n < 2 ^ 64 → line ≡ take 128 (old ++ decimal (n / 10)) → after ≡ take 128 (line ++ (48 + n % 10) ∷ []) → after ≡ take 128 (old ++ decimal n)
number_more n old line after le fits e f =
    then 128 (old ++ decimal (n / 10)) ((48 + n % 10) ∷ []) e f
    ∙ ap (take 128) (append_assoc old (decimal (n / 10)) ((48 + n % 10) ∷ []) ∙ ap (λ z. old ++ z) (sym (decimal_step n le fits)))

pub decimal_short : (n : ℕ) → n < 2 ^ 64 → length (decimal n) ≤ 20
decimal_short n fits = length-decimal-le 20 n (omega arith) (omega arith) fits

pub name_short : (o : Option Name) → length (unwrap_or (option_map spelling o) []) ≤ 16
name_short (Some n) = items_within n.letters
name_short None = omega arith

pub mark_short : (m : Mark) → length (mark_word m) ≤ 13
mark_short Open = omega arith
mark_short First = omega arith
mark_short Second = omega arith

pub four_short : (a b c d : List ℕ) → length a + length b + length c + length d ≤ 128 → length (((a ++ b) ++ c) ++ d) ≤ 128
four_short a b c d h = omega (arith, length-append ((a ++ b) ++ c) d, length-append (a ++ b) c, length-append a b)

pub ten_short : (a b c d e f g h i j : List ℕ) → length a + length b + length c + length d + length e + length f + length g + length h + length i + length j ≤ 128 → length (((((((((a ++ b) ++ c) ++ d) ++ e) ++ f) ++ g) ++ h) ++ i) ++ j) ≤ 128
ten_short a b c d e f g h i j s = omega (
  arith,
  length-append ((((((((a ++ b) ++ c) ++ d) ++ e) ++ f) ++ g) ++ h) ++ i) j,
  length-append (((((((a ++ b) ++ c) ++ d) ++ e) ++ f) ++ g) ++ h) i,
  length-append ((((((a ++ b) ++ c) ++ d) ++ e) ++ f) ++ g) h,
  length-append (((((a ++ b) ++ c) ++ d) ++ e) ++ f) g,
  length-append ((((a ++ b) ++ c) ++ d) ++ e) f,
  length-append (((a ++ b) ++ c) ++ d) e,
  length-append ((a ++ b) ++ c) d,
  length-append (a ++ b) c,
  length-append a b,
)
