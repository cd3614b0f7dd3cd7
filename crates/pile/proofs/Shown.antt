-- What is written for a point can be read as that point.
use Rattle.std.proofs.Common.{◌≡◌, ℕ, ◌+◌, ◌*◌, ◌/◌, ◌%◌, ◌<◌, ◌≤◌, true, cond, leb, List, [], ◌∷◌, ◌++◌, length, get_or, sym, refl, ap, ◌∙◌, subst, ⊎_elim, arith}
use Rattle.std.specs.List.{prefix_len}
use Rattle.std.proofs.lemmas.List.{get_or_past}
use Rattle.std.proofs.lemmas.Bool.{cases_lt, cond-true, le-leb, lt-leb}
use Rattle.std.proofs.lemmas.Bool.Decides.{nat_tests}
use Rattle.address.specs.Blocks.{part_at, WritesPart, WritesBlock}
use Rattle.kind.specs.Digits.{digit, Writes}
use Rattle.address.specs.Labels.{digits_of, address_text}
use Rattle.pile.proofs.Dotted.{part_in, last_stars}
use Rattle.clock.specs.Times.{two_digits, clock_text, WritesTime, to_the_second}

is_digit : (n : ℕ) → n < 10 → digit (48 + n) ≡ true
is_digit n h = grind (arith, nat_tests)

one_more : (n : ℕ) (t : List ℕ) → n < 10 → prefix_len digit t ≡ length t → prefix_len digit ((48 + n) ∷ t) ≡ length ((48 + n) ∷ t)
one_more n t h e = cond-true (digit (48 + n)) (1 + prefix_len digit t) 0 (is_digit n h) ∙ omega arith

-- one, two, three and four digits
one : (a : ℕ) → a < 10 → Writes ((48 + a) ∷ []) a
one a h = record { some = omega arith; few = omega arith; digits = one_more a [] h refl; value = omega arith }

two : (a b : ℕ) → a < 10 → b < 10 → Writes ((48 + a) ∷ (48 + b) ∷ []) (10 * a + b)
two a b h k = record { some = omega arith; few = omega arith; digits = one_more a ((48 + b) ∷ []) h (one b k).digits; value = omega arith }

three : (a b c : ℕ) → a < 10 → b < 10 → c < 10 → Writes ((48 + a) ∷ (48 + b) ∷ (48 + c) ∷ []) (100 * a + (10 * b + c))
three a b c h k l = record { some = omega arith; few = omega arith; digits = one_more a ((48 + b) ∷ (48 + c) ∷ []) h (two b c k l).digits; value = omega arith }

four : (a b c d : ℕ) → a < 10 → b < 10 → c < 10 → d < 10 → Writes ((48 + a) ∷ (48 + b) ∷ (48 + c) ∷ (48 + d) ∷ []) (100 * (10 * a + b) + (10 * c + d))
four a b c d h k l m = record { some = omega arith; few = omega arith; digits = one_more a ((48 + b) ∷ (48 + c) ∷ (48 + d) ∷ []) h (three b c d k l m).digits; value = omega arith }

tens : (n : ℕ) → 10 * (n / 10) + n % 10 ≡ n
tens n = omega arith

pub times_shown : (p : ℕ) → p < 86400 → WritesTime (clock_text p) p
times_shown p h =
    let early : p / 3600 < 24 = omega arith in
    let front : Writes (two_digits (p / 3600) ++ two_digits (p / 60 % 60)) (100 * (p / 3600) + p / 60 % 60) =
    subst (λ n. Writes (two_digits (p / 3600) ++ two_digits (p / 60 % 60)) n)
    (ap (λ n. 100 * n + (10 * (p / 60 % 60 / 10) + p / 60 % 60 % 10)) (tens (p / 3600)) ∙ ap (λ n. 100 * (p / 3600) + n) (tens (p / 60 % 60)))
    (four (p / 3600 / 10) (p / 3600 % 10) (p / 60 % 60 / 10) (p / 60 % 60 % 10) (omega arith) (omega arith) (omega arith) (omega arith)) in
    let back : Writes (two_digits (p % 60)) (p % 60) =
    subst (λ n. Writes (two_digits (p % 60)) n) (tens (p % 60)) (two (p % 60 / 10) (p % 60 % 10) (omega arith) (omega arith)) in
    let whole : 60 * (60 * (p / 3600) + p / 60 % 60) + p % 60 ≡ p = omega arith in
    subst (λ n. WritesTime (clock_text p) n) whole
    (to_the_second (two_digits (p / 3600) ++ two_digits (p / 60 % 60)) (two_digits (p % 60)) (p / 3600) (p / 60 % 60) (p % 60) front early (omega arith) back refl (omega arith))

-- a number below 256 in digits
number_shown : (n : ℕ) → n ≤ 255 → Writes (digits_of n) n × (length (digits_of n) ≤ 3)
number_shown n h =
    ⊎_elim
    (λ small.
    let e : digits_of n ≡ (48 + n % 10) ∷ [] =
    ap (λ x. cond x ((48 + n / 100) ∷ []) [] ++ (cond (leb 10 n) ((48 + n / 10 % 10) ∷ []) [] ++ ((48 + n % 10) ∷ []))) (lt-leb 100 n (omega arith))
    ∙ ap (λ x. cond x ((48 + n / 10 % 10) ∷ []) [] ++ ((48 + n % 10) ∷ [])) (lt-leb 10 n small) in
    let same : n % 10 ≡ n = omega arith in
    let w = subst (λ m. Writes ((48 + n % 10) ∷ []) m) same (one (n % 10) (omega arith)) in
    (subst (λ t. Writes t n) (sym e) w, subst (λ t. length t ≤ 3) (sym e) (omega arith)))
    (λ large.
    ⊎_elim
    (λ below.
    let e : digits_of n ≡ (48 + n / 10 % 10) ∷ (48 + n % 10) ∷ [] =
    ap (λ x. cond x ((48 + n / 100) ∷ []) [] ++ (cond (leb 10 n) ((48 + n / 10 % 10) ∷ []) [] ++ ((48 + n % 10) ∷ []))) (lt-leb 100 n below)
    ∙ ap (λ x. cond x ((48 + n / 10 % 10) ∷ []) [] ++ ((48 + n % 10) ∷ [])) (le-leb 10 n large) in
    let same : 10 * (n / 10 % 10) + n % 10 ≡ n = omega arith in
    let w = subst (λ m. Writes ((48 + n / 10 % 10) ∷ (48 + n % 10) ∷ []) m) same (two (n / 10 % 10) (n % 10) (omega arith) (omega arith)) in
    (subst (λ t. Writes t n) (sym e) w, subst (λ t. length t ≤ 3) (sym e) (omega arith)))
    (λ above.
    let e : digits_of n ≡ (48 + n / 100) ∷ (48 + n / 10 % 10) ∷ (48 + n % 10) ∷ [] =
    ap (λ x. cond x ((48 + n / 100) ∷ []) [] ++ (cond (leb 10 n) ((48 + n / 10 % 10) ∷ []) [] ++ ((48 + n % 10) ∷ []))) (le-leb 100 n above)
    ∙ ap (λ x. (48 + n / 100) ∷ (cond x ((48 + n / 10 % 10) ∷ []) [] ++ ((48 + n % 10) ∷ []))) (le-leb 10 n large) in
    let same : 100 * (n / 100) + (10 * (n / 10 % 10) + n % 10) ≡ n = omega arith in
    let w = subst (λ m. Writes ((48 + n / 100) ∷ (48 + n / 10 % 10) ∷ (48 + n % 10) ∷ []) m) same (three (n / 100) (n / 10 % 10) (n % 10) (omega arith) (omega arith) (omega arith)) in
    (subst (λ t. Writes t n) (sym e) w, subst (λ t. length t ≤ 3) (sym e) (omega arith)))
    (cases_lt n 100))
    (cases_lt n 10)

part_shown : (p : List ℕ) (i : ℕ) → i < 4 → length p ≡ 4 → get_or p i 0 ≤ 255 → WritesPart (part_at (record { depth = 4; parts = p }) i) (digits_of (get_or p i 0))
part_shown p i h long small =
    let w = number_shown (get_or p i 0) small in
    subst (λ o. WritesPart o (digits_of (get_or p i 0))) (sym (part_in (record { depth = 4; parts = p }) i h (omega arith))) (w.0, w.1, small)

pub addresses_shown : (p : List ℕ) → length p ≡ 4 → ((i : ℕ) → i < 4 → get_or p i 0 ≤ 255) → WritesBlock (address_text p) (record { depth = 4; parts = p })
addresses_shown p long small = record {
  first = digits_of (get_or p 0 0);
  second = digits_of (get_or p 1 0);
  third = digits_of (get_or p 2 0);
  fourth = digits_of (get_or p 3 0);
  dotted = refl;
  part_0 = part_shown p 0 (omega arith) long (small 0 (omega arith));
  part_1 = part_shown p 1 (omega arith) long (small 1 (omega arith));
  part_2 = part_shown p 2 (omega arith) long (small 2 (omega arith));
  part_3 = part_shown p 3 (omega arith) long (small 3 (omega arith));
  tidy = record {
    four = long;
    deep = omega arith;
    blank = λ i l. get_or_past p i 0 (omega arith);
    stars_last = last_stars (record { depth = 4; parts = p }) long (omega arith);
  };
}
