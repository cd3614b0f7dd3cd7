-- The checker's own kind of condition, clock, then day, then address, and the laws that it keeps.
use Rattle.std.specs.Prelude.{◌≡◌, ℕ, ◌<◌, ◌≤◌, not, ◌&&◌, List, length, Some, None, slice_index}
use Rattle.address.specs.declared.address.Address.{Address}
use Rattle.address.specs.declared.block.Block.{Block}
use Rattle.address.specs.declared.entry.Entry.{Entry}
use Rattle.address.specs.declared.entry.Entry.TheVariants.{In, Out}
use Rattle.kind.specs.declared.both.Both.{Both}
use Rattle.clock.specs.declared.clock.Clock.{Clock}
use Rattle.kind.specs.declared.comparison.Sign.{Sign}
use Rattle.kind.specs.declared.comparison.Sign.TheVariants.{AtLeast, AtMost}
use Rattle.day.specs.declared.day.Day.{Day}
use Rattle.address.specs.Addresses.{in_set, added, address_sense}
use Rattle.address.specs.Blocks.{covers, block_of, WritesBlock}
use Rattle.address.specs.Entries.{agrees}
use Rattle.day.specs.Days.{left, stands_to, compared, day_name, day_of, day_sense}
use Rattle.address.specs.Labels.{address_text}
use Rattle.kind.specs.Pairs.{pair_sense}
use Rattle.kind.specs.Sense.{Sense, Laws, OneGiven}
use Rattle.kind.specs.Taking.{after}
use Rattle.clock.specs.Times.{second_of, WritesTime, clock_text}
use Rattle.clock.specs.Windows.{from, to, between, second_of_day, in_window, bounded, clock_sense}

-- the meaning of the pile
abbrev pub pile_sense : Sense (Both (Both Clock Day) Address) ((ℕ × ℕ) × List ℕ)
pile_sense = pair_sense (pair_sense clock_sense day_sense) address_sense

-- each of two statements follows from the other
abbrev pub Exactly : Type 0 → Type 0 → Type 0
Exactly A B = (A → B) × (B → A)

-- the laws of the pile
pub record PileLaws : Type 0 where
  -- it is a lawful kind
  pub lawful : Laws pile_sense
  -- two conditions have one given point at most
  pub one_given : OneGiven pile_sense
  -- a first lower bound moves the start of a window, a first upper bound its end
  pub starts_at : (c : Clock) (s p : ℕ) → c.lower ≡ None → in_window (after c (bounded c AtLeast (Some s))) p ≡ (second_of_day p && between s (to c) p)
  pub ends_at : (c : Clock) (s p : ℕ) → c.upper ≡ None → in_window (after c (bounded c AtMost (Some s))) p ≡ (second_of_day p && between (from c) s p)
  -- a value is read as a second of the day exactly when it writes that second
  pub times_read : (v : List ℕ) (s : ℕ) → Exactly (second_of v ≡ Some s) (WritesTime v s)
  -- the text of a second writes that second
  pub times_shown : (p : ℕ) → p < 86400 → WritesTime (clock_text p) p
  -- comparisons of days hold together
  pub days_together : (c : Day) (s : Sign) (d p : ℕ) → left (after c (compared c s (Some d))) p ≡ (left c p && stands_to s p d)
  -- a value is read as a day exactly when it is that day's name
  pub days_read : (v : List ℕ) (d : ℕ) → Exactly (day_of v ≡ Some d) ((d < 7) × (v ≡ day_name d))
  -- comparisons of addresses hold together, as long as there are at most eight
  pub addresses_together : (a : Address) (e : Entry) (p : List ℕ) → a.count < 8 → length a.slots ≡ 8 → in_set (after a (added a e)) p ≡ (in_set a p && agrees p e)
  -- where it is `==`, an address must be in the block, and where it is `!=`, outside of it
  pub addresses_in : (a : Address) (b : Block) (p : List ℕ) → a.count < 8 → length a.slots ≡ 8 → in_set (after a (added a (In b))) p ≡ (in_set a p && covers b p)
  pub addresses_out : (a : Address) (b : Block) (p : List ℕ) → a.count < 8 → length a.slots ≡ 8 → in_set (after a (added a (Out b))) p ≡ (in_set a p && not (covers b p))
  -- a value is read as a block exactly when it writes that block
  pub blocks_read : (v : List ℕ) (b : Block) → Exactly (block_of v ≡ Some b) (WritesBlock v b)
  -- the text of an address writes the block of that address alone
  pub addresses_shown : (p : List ℕ) → length p ≡ 4 → ((i : ℕ) → i < 4 → slice_index p i ≤ 255) → WritesBlock (address_text p) (record { depth = 4; parts = p })
