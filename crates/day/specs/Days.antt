-- Days of the week: their names, and sets of them.
use Rattle.std.specs.Prelude.{ℕ, Bool, true, false, cond, not, ◌&&◌, List, map, replicate, Some, None, codes, Option, ◌==◌, nat_le, nat_lt, slice_index_or}
use Rattle.std.specs.List.{range_with_len, find}
use Rattle.std.specs.Str.{bytes_eq}
use Rattle.day.specs.declared.day.Day.{Day}
use Rattle.kind.specs.declared.comparison.Sign.{Sign}
use Rattle.kind.specs.declared.comparison.Sign.TheVariants.{Equal, NotEqual, AtLeast, AtMost}
use Rattle.kind.specs.Sense.{Sense, Least}
use Rattle.kind.specs.Taking.{Taking, became, not_mine, bad_value}

-- the names of the days, from Monday, day 0, to Sunday, day 6
abbrev pub day_name : ℕ → List ℕ
day_name d =
    cond (d == 0) (codes "Monday")
    (cond (d == 1) (codes "Tuesday")
    (cond (d == 2) (codes "Wednesday")
    (cond (d == 3) (codes "Thursday")
    (cond (d == 4) (codes "Friday")
    (cond (d == 5) (codes "Saturday") (codes "Sunday"))))))

-- the day of a name
abbrev pub day_of : List ℕ → Option ℕ
day_of v = find (λ d. bytes_eq v (day_name d)) (range_with_len 0 7)

-- a day stands to another as a sign says
abbrev pub stands_to : Sign → ℕ → ℕ → Bool
stands_to Equal p d = p == d
stands_to NotEqual p d = not (p == d)
stands_to AtLeast p d = nat_le d p
stands_to AtMost p d = nat_le p d

-- the seven days
abbrev pub week_day : ℕ → Bool
week_day p = nat_lt p 7

-- the days that a condition leaves
abbrev pub left : Day → ℕ → Bool
left c p = week_day p && slice_index_or c.days p false

-- of the days left, those that a comparison leaves
abbrev pub narrowed : Sign → ℕ → List Bool → List Bool
narrowed s d days = map (λ p. slice_index_or days p false && stands_to s p d) (range_with_len 0 7)

-- a comparison with a day narrows the set; another value is bad
abbrev pub compared : Day → Sign → Option ℕ → Taking Day
compared c s None = bad_value
compared c s (Some d) = became (record { days = narrowed s d c.days })

-- the kind of days: its word is `day`, and it gives the least common day
abbrev pub day_sense : Sense Day ℕ
day_sense = record {
  on_ground = week_day;
  holds = left;
  everywhere = record { days = replicate 7 true };
  taken = λ c word sign value. cond (bytes_eq word (codes "day")) (compared c sign (day_of value)) not_mine;
  gives = λ a b p. Least (left a) (left b) p;
}
