-- Blocks of addresses: the addresses that a pattern of four parts stands for, and how a pattern is written.
use Rattle.std.specs.Prelude.{◌≡◌, ℕ, zero, suc, ◌+◌, ◌≤◌, Bool, true, false, cond, not, ◌&&◌, List, ◌∷◌, ◌++◌, length, take, drop, replicate, Some, None, codes, Option, ◌==◌, nat_le, nat_lt, slice_index, slice_set}
use Rattle.std.specs.List.{prefix_len, slice_get}
use Rattle.std.specs.Str.{bytes_eq}
use Rattle.address.specs.declared.block.Block.{Block}
use Rattle.kind.specs.Digits.{number, Writes}

-- the part of a block at a place: a number at the first ones, as many as its depth, and none where a star stands
abbrev pub part_at : Block → ℕ → Option ℕ
part_at b i = cond (nat_lt i b.depth) (slice_get b.parts i) None

-- a star fits each number, and a number itself alone
abbrev pub fits : Option ℕ → ℕ → Bool
fits None n = true
fits (Some m) n = m == n

-- at a part, a block has a star or the number of the address
abbrev pub at_part : Block → List ℕ → ℕ → Bool
at_part b p i = fits (part_at b i) (slice_index p i)

-- a block stands for the addresses that it fits at all four parts
abbrev pub covers : Block → List ℕ → Bool
covers b p = at_part b p 0 && (at_part b p 1 && (at_part b p 2 && at_part b p 3))

-- a part is a certain number
abbrev pub is_number : Option ℕ → ℕ → Bool
is_number None v = false
is_number (Some m) v = m == v

-- a block has a certain number at a part
abbrev pub names : Block → ℕ → ℕ → Bool
names b i v = is_number (part_at b i) v

-- the block of all addresses
abbrev pub everything : Block
everything = record { depth = 0; parts = replicate 4 0 }

-- a text writes a part of a block: a number up to 255 in one to three digits where the block is numbered, else a star
abbrev pub WritesPart : Option ℕ → List ℕ → Type 0
WritesPart None t = t ≡ codes "*"
WritesPart (Some n) t = Writes t n × (length t ≤ 3) × (n ≤ 255)

-- a block has four parts, and 0 in place of each star; only stars follow a star
pub record Tidy (b : Block) : Type 0 where
  pub four : length b.parts ≡ 4
  pub deep : b.depth ≤ 4
  pub blank : (i : ℕ) → b.depth ≤ i → slice_index b.parts i ≡ 0
  pub stars_last : (i : ℕ) → part_at b i ≡ None → part_at b (i + 1) ≡ None

-- a value writes a block: four parts joined by dots
pub record WritesBlock (v : List ℕ) (b : Block) : Type 0 where
  pub first : List ℕ
  pub second : List ℕ
  pub third : List ℕ
  pub fourth : List ℕ
  pub dotted : v ≡ first ++ (46 ∷ (second ++ (46 ∷ (third ++ (46 ∷ fourth)))))
  pub part_0 : WritesPart (part_at b 0) first
  pub part_1 : WritesPart (part_at b 1) second
  pub part_2 : WritesPart (part_at b 2) third
  pub part_3 : WritesPart (part_at b 3) fourth
  pub tidy : Tidy b

-- goes on from what was read, if anything was
abbrev pub onward : {X Y : Type 0} → Option X → (X → Option Y) → Option Y
onward None go = None
onward (Some x) go = go x

-- a number of a part is at most 255
abbrev pub byte_from : Option ℕ → Option ℕ
byte_from None = None
byte_from (Some n) = cond (nat_le n 255) (Some n) None

-- the number up to 255 that one to three digits write
abbrev pub byte_of : List ℕ → Option ℕ
byte_of t = cond (nat_lt 3 (length t)) None (byte_from (number t))

-- a block with a number at a place where its first star stands: only stars follow a star
abbrev pub with_number : Block → ℕ → ℕ → Option Block
with_number b i n = cond (b.depth == i) (Some (record { depth = i + 1; parts = slice_set b.parts i n })) None

-- a block with the part that a text writes at a place: a star, as stands there so far, or a number
abbrev pub with_text : Block → ℕ → List ℕ → Option Block
with_text b i t = cond (bytes_eq t (codes "*")) (Some b) (onward (byte_of t) (with_number b i))

-- a byte is not a dot
abbrev pub no_dot : ℕ → Bool
no_dot c = not (c == 46)

-- the text before the first dot, and the text after it
abbrev pub cut : List ℕ → Option (List ℕ × List ℕ)
cut t = cond (nat_lt (prefix_len no_dot t) (length t)) (Some (take (prefix_len no_dot t) t, drop (prefix_len no_dot t + 1) t)) None

-- the parts from a place on: n of them with a dot after each, then the last
abbrev pub block_from : ℕ → ℕ → Block → List ℕ → Option Block
block_from zero i b t = with_text b i t
block_from (suc n) i b t = onward (cut t) (λ c. onward (with_text b i c.0) (λ d. block_from n (i + 1) d c.1))

-- the block that a value writes: four parts joined by dots
abbrev pub block_of : List ℕ → Option Block
block_of t = block_from 3 0 everything t
