-- A path that touches a port, written into a buffer.
use Rattle.std.specs.Prelude.{◌≡◌, ℕ, ◌+◌, ◌<◌, ◌≤◌, Bool, true, false, cond, ◌&&◌, ◌⊎◌, List, [], ◌∷◌, ◌++◌, length, drop, Some, None, Option, ◌==◌, nat_lt, slice_set}
use Rattle.std.specs.List.{find, list_any}
use Rattle.site.specs.declared.parts.Link.{Link}
use Rattle.paths.specs.declared.pattern.Item.{Item}
use Rattle.paths.specs.declared.pattern.Item.TheVariants.{Node, Star}
use Rattle.paths.specs.declared.ports.Port.{Port}
use Rattle.paths.specs.Paths.{In, Own, Touches}
use Rattle.paths.specs.Digits.{has}
use Rattle.paths.specs.Walks.{Walk}

-- whether a link is among some
abbrev pub among : ℕ → List ℕ → Bool
among i js = list_any (λ j. j == i) js

-- what is still to be met after a link
abbrev pub without : Option ℕ → ℕ → Option ℕ
without None i = None
without (Some j) i = cond (i == j) None (Some j)

-- whether nothing is to be met any more after some links
abbrev pub met_by : Option ℕ → List ℕ → Bool
met_by None is = true
met_by (Some i) is = among i is

-- whether a walk takes the link that is to be met, if one is, and the position `last` is live after it
abbrev pub hit : ℕ → Option ℕ → Walk → Bool
hit last unmet w = has w.live last && met_by unmet w.links

-- the first such walk
unfoldable pub first_hit : ℕ → Option ℕ → List Walk → Option Walk
first_hit last unmet ws = find (hit last unmet) ws

-- a buffer with some nodes written into it from the place d on
unfoldable pub written : ℕ → List ℕ → List ℕ → List ℕ
written d [] out = out
written d (n ∷ ns) out = slice_set (written (d + 1) ns out) d n

-- the answer, and the buffer, where a walk is to be written from its node of number k on
abbrev pub Drawn : ℕ → ℕ → Option Walk → List ℕ → Option ℕ → List ℕ → Type 0
Drawn k d None out r kept = (r ≡ None) × (kept ≡ out)
Drawn k d (Some w) out r kept = (r ≡ Some (d + length (drop k w.nodes))) × (kept ≡ written d (drop k w.nodes) out)

-- whether a pattern stands for one of c nodes alone
abbrev pub stands_alone : List Item → ℕ → ℕ → Bool
stands_alone [] c n = false
stands_alone (Star ∷ is) c n = false
stands_alone (Node m ∷ []) c n = m == n && nat_lt n c
stands_alone (Node m ∷ i ∷ is) c n = false

-- no path of the pattern touches the port
abbrev pub Untouched : List Link → ℕ → Port → List Item → Type 0
Untouched ls c q p = (path : List ℕ) → Own ls c p path → Touches ls path q → ⊥

-- the buffer is too short, or no path of the patterns touches the port
abbrev pub NoRoute : List Link → ℕ → List (List Item) → Port → List ℕ → Type 0
NoRoute ls c ps q out = (length out < 48) ⊎ ((p : List Item) → In p ps → Untouched ls c q p)

-- a path of one of the patterns that touches the port stands at the front of the buffer, and what is behind it is kept
pub record Routed (ls : List Link) (c : ℕ) (ps : List (List Item)) (q : Port) (out : List ℕ) (len : ℕ) (kept : List ℕ) : Type 0 where
  pub room : 48 ≤ length out
  pub path : List ℕ
  pub pattern : List Item
  pub there : In pattern ps
  pub own : Own ls c pattern path
  pub touches : Touches ls path q
  pub size : len ≡ length path
  pub short : length path ≤ 48
  pub front : kept ≡ path ++ drop (length path) out
