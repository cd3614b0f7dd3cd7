-- Seconds of the day, as values write them and as text.
use Rattle.std.specs.Prelude.{◌≡◌, ℕ, ◌+◌, ◌-◌, ◌*◌, ◌/◌, ◌%◌, ◌<◌, Bool, cond, ◌&&◌, List, [], ◌∷◌, ◌++◌, length, take, drop, Some, None, Option, ◌==◌, nat_lt, slice_index}
use Rattle.kind.specs.Digits.{number, Writes}

-- a value writes a second of the day: hour and minute in one to four digits, then perhaps a colon and the second in two
pub data WritesTime : List ℕ → ℕ → Type 0 where
  to_the_minute : (t : List ℕ) (h m : ℕ) → Writes t (100 * h + m) → h < 24 → m < 60 → WritesTime t (60 * (60 * h + m))
  to_the_second : (t u : List ℕ) (h m s : ℕ) → Writes t (100 * h + m) → h < 24 → m < 60 → Writes u s → length u ≡ 2 → s < 60 → WritesTime (t ++ (58 ∷ u)) (60 * (60 * h + m) + s)

-- the minute of the day that a number writes: its last two digits are the minute, the rest the hour
abbrev pub minute_from : Option ℕ → Option ℕ
minute_from None = None
minute_from (Some n) = cond (nat_lt (n / 100) 24 && nat_lt (n % 100) 60) (Some (60 * (n / 100) + n % 100)) None

-- seconds are below sixty
abbrev pub sixtieth : Option ℕ → Option ℕ
sixtieth None = None
sixtieth (Some n) = cond (nat_lt n 60) (Some n) None

-- a minute of the day and a second of that minute
abbrev pub joined : Option ℕ → Option ℕ → Option ℕ
joined None s = None
joined (Some m) None = None
joined (Some m) (Some s) = Some (60 * m + s)

-- a colon stands before the last two bytes
abbrev pub with_colon : List ℕ → Bool
with_colon v = nat_lt 2 (length v) && slice_index v (length v - 3) == 58

-- the second of the day that a value writes: one to four digits, then perhaps a colon and two digits
abbrev pub second_of : List ℕ → Option ℕ
second_of v =
    cond (with_colon v)
    (joined (minute_from (number (take (length v - 3) v))) (sixtieth (number (drop (length v - 2) v))))
    (joined (minute_from (number v)) (Some 0))

-- two digits
abbrev pub two_digits : ℕ → List ℕ
two_digits n = (48 + n / 10) ∷ (48 + n % 10) ∷ []

-- a second of the day as text: hour, minute, colon and second
abbrev pub clock_text : ℕ → List ℕ
clock_text p = two_digits (p / 3600) ++ (two_digits (p / 60 % 60) ++ (58 ∷ two_digits (p % 60)))
