use Rattle.std.proofs.Common.{rules}
use Rattle.address.specs.declared.entry.Entry.TheVariants.{In, Out}
use Rattle.address.specs.Addresses.{address_sense}
use Rattle.day.specs.Days.{day_sense}
use Rattle.kind.specs.Pairs.{pair_sense}
use Rattle.clock.specs.Windows.{clock_sense}
use Rattle.pile.proofs.Dotted.{blocks_read}
use Rattle.pile.proofs.Names.{days_read}
use Rattle.pile.proofs.Pinned.{clock_once, day_once, address_once, pair_once}
use Rattle.pile.proofs.Shown.{times_shown, addresses_shown}
use Rattle.pile.proofs.Spelled.{times_read}
use Rattle.pile.proofs.Together.{starts_at, ends_at, days_together, addresses_together}
use Rattle.pile.proofs.pile.open_pile.Goals as goal

pub returns : goal.returns
returns c = record {
  whole = search rules;
  laws = record {
    lawful = c.pair-2.ensures.lawful;
    one_given = pair_once (pair_sense clock_sense day_sense) address_sense (pair_once clock_sense day_sense clock_once day_once) address_once;
    starts_at = starts_at;
    ends_at = ends_at;
    times_read = times_read;
    times_shown = times_shown;
    days_together = days_together;
    days_read = days_read;
    addresses_together = addresses_together;
    addresses_in = λ a b. addresses_together a (In b);
    addresses_out = λ a b. addresses_together a (Out b);
    blocks_read = blocks_read;
    addresses_shown = addresses_shown;
  };
}
