-- Windows of seconds of the day, and how their bounds are taken.
use Rattle.std.specs.Prelude.{◌≡◌, ℕ, Bool, cond, ◌&&◌, ◌||◌, Some, None, Ok, Err, codes, Option, Result, nat_le, nat_lt}
use Rattle.std.specs.Option.{unwrap_or}
use Rattle.std.specs.Str.{bytes_eq}
use Rattle.kind.specs.declared.comparison.Claim.{Claim}
use Rattle.kind.specs.declared.comparison.Claim.TheVariants.{Taken}
use Rattle.kind.specs.declared.comparison.Declined.{Declined}
use Rattle.kind.specs.declared.comparison.Declined.TheVariants.{Doubled}
use Rattle.clock.specs.declared.clock.Clock.{Clock}
use Rattle.kind.specs.declared.comparison.Sign.{Sign}
use Rattle.kind.specs.declared.comparison.Sign.TheVariants.{Equal, NotEqual, AtLeast, AtMost}
use Rattle.kind.specs.Sense.{Sense, Least}
use Rattle.clock.specs.Times.{second_of}
use Rattle.kind.specs.Taking.{Taking, became, not_mine, bad_value, doubled}

-- the first second of a window
abbrev pub from : Clock → ℕ
from c = unwrap_or c.lower 0

-- the last second of a window
abbrev pub to : Clock → ℕ
to c = unwrap_or c.upper 86399

-- a second lies between two others, both included; where the first is the later, the stretch runs past midnight
abbrev pub between : ℕ → ℕ → ℕ → Bool
between a b p = cond (nat_le a b) (nat_le a p && nat_le p b) (nat_le a p || nat_le p b)

-- the seconds of a day
abbrev pub second_of_day : ℕ → Bool
second_of_day p = nat_lt p 86400

-- the seconds in a window
abbrev pub in_window : Clock → ℕ → Bool
in_window c p = second_of_day p && between (from c) (to c) p

-- a lower bound is taken once
abbrev pub lower_bound : Clock → Option ℕ → ℕ → Taking Clock
lower_bound c None s = became (record { lower = Some s; upper = c.upper })
lower_bound c (Some t) s = doubled

-- an upper bound is taken once
abbrev pub upper_bound : Clock → Option ℕ → ℕ → Taking Clock
upper_bound c None s = became (record { lower = c.lower; upper = Some s })
upper_bound c (Some t) s = doubled

-- what is answered when a bound is to be set, and the bound afterwards
abbrev pub BoundSet : Option ℕ → ℕ → Result Claim Declined → Option ℕ → Type 0
BoundSet None s r b = (r ≡ Ok Taken) × (b ≡ Some s)
BoundSet (Some t) s r b = (r ≡ Err Doubled) × (b ≡ Some t)

-- `>=` gives the lower bound and `<=` the upper; other signs and bad values give none
abbrev pub bounded : Clock → Sign → Option ℕ → Taking Clock
bounded c s None = bad_value
bounded c Equal (Some n) = bad_value
bounded c NotEqual (Some n) = bad_value
bounded c AtLeast (Some n) = lower_bound c c.lower n
bounded c AtMost (Some n) = upper_bound c c.upper n

-- the kind of windows: its word is `time`, and it gives the least common second
abbrev pub clock_sense : Sense Clock ℕ
clock_sense = record {
  on_ground = second_of_day;
  holds = in_window;
  everywhere = record { lower = None; upper = None };
  taken = λ c word sign value. cond (bytes_eq word (codes "time")) (bounded c sign (second_of value)) not_mine;
  gives = λ a b p. Least (in_window a) (in_window b) p;
}
