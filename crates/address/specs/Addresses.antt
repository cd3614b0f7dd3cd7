-- Sets of addresses, and the address given for two sets.
use Rattle.std.specs.Prelude.{◌≡◌, ℕ, ◌+◌, min, Bool, true, cond, List, ◌++◌, take, replicate, Some, None, codes, Option, nat_lt, slice_set}
use Rattle.std.specs.Str.{bytes_eq}
use Rattle.address.specs.declared.address.Address.{Address}
use Rattle.address.specs.declared.block.Block.{Block}
use Rattle.kind.specs.declared.comparison.Sign.{Sign}
use Rattle.kind.specs.declared.comparison.Sign.TheVariants.{Equal, NotEqual, AtLeast, AtMost}
use Rattle.address.specs.declared.entry.Entry.{Entry}
use Rattle.address.specs.declared.entry.Entry.TheVariants.{In, Out}
use Rattle.address.specs.Blocks.{everything, block_of}
use Rattle.address.specs.Choices.{Chosen}
use Rattle.address.specs.Entries.{all_agree}
use Rattle.kind.specs.Sense.{Sense}
use Rattle.kind.specs.Taking.{Taking, became, not_mine, bad_value}

-- the comparisons taken so far, eight at most
abbrev pub entries : Address → List Entry
entries a = take (min a.count 8) a.slots

-- the addresses in a set
abbrev pub in_set : Address → List ℕ → Bool
in_set a p = all_agree p (entries a)

-- the address given for two sets: the chosen one, which is in both
pub record Given (a b : Address) (p : List ℕ) : Type 0 where
  pub chosen : Chosen (entries a ++ entries b) p
  pub in_first : in_set a p ≡ true
  pub in_second : in_set b p ≡ true

-- one more comparison, up to eight
abbrev pub added : Address → Entry → Taking Address
added a e = cond (nat_lt a.count 8) (became (record { count = a.count + 1; slots = slice_set a.slots a.count e })) bad_value

-- `==` asks for a block and `!=` excludes one; other signs and bad values do neither
abbrev pub listed : Address → Sign → Option Block → Taking Address
listed a s None = bad_value
listed a Equal (Some b) = added a (In b)
listed a NotEqual (Some b) = added a (Out b)
listed a AtLeast (Some b) = bad_value
listed a AtMost (Some b) = bad_value

-- the kind of addresses: every four bytes are on the ground, and its word is `hostIP`
abbrev pub address_sense : Sense Address (List ℕ)
address_sense = record {
  on_ground = λ _. true;
  holds = in_set;
  everywhere = record { count = 0; slots = replicate 8 (In everything) };
  taken = λ a word sign value. cond (bytes_eq word (codes "hostIP")) (listed a sign (block_of value)) not_mine;
  gives = Given;
}
