-- The text of a site sheet: comments with the counts, a line for each declaration, comments with the links of each node.
use Rattle.std.specs.Prelude.{◌≡◌, ℕ, cond, List, [], ◌++◌, length, codes, decimal, slice_index, slice_index_or, Option}
use Rattle.std.specs.List.{flat_map, enumerate_from}
use Rattle.std.specs.Option.{option_map, unwrap_or}
use Rattle.fixed.specs.declared.naming.Name.{Name}
use Rattle.fixed.specs.Names.{spelling}
use Rattle.site.specs.declared.parts.Link.{Link}
use Rattle.site.specs.declared.parts.Reading.{Reading}
use Rattle.site.specs.Fields.{word_of}
use Rattle.site.specs.Links.{ends, far_end}
use Rattle.site.specs.Plans.{Plan, reading_on}

-- a text after x was written at its end
pub record Appended (was x now : List ℕ) : Type 0 where
  pub is : now ≡ was ++ x

-- what an optional name spells; nothing for none
abbrev pub shown : Option Name → List ℕ
shown o = unwrap_or (option_map spelling o) []

-- a text for each element, told its number, from i on
abbrev pub each_from : {X : Type 0} → (ℕ → X → List ℕ) → ℕ → List X → List ℕ
each_from text i xs = flat_map (λ p. text p.0 p.1) (enumerate_from i xs)

-- how many of what, and what follows
abbrev pub count : ℕ → List ℕ → List ℕ
count n what = decimal n ++ what

abbrev pub counts : Plan → List ℕ
counts s =
    codes "# " ++ (count (length s.nodes) (codes " nodes, ") ++ (count (length s.links) (codes " links, ")
    ++ (count (length s.classes) (codes " classes, ") ++ count (length s.users) (codes " users\n"))))

-- a word and a name
abbrev pub name_line : List ℕ → List ℕ → List ℕ
name_line word name = word ++ (name ++ codes "\n")

-- the name of a node
abbrev pub name_at : Plan → ℕ → List ℕ
name_at s n = slice_index_or s.nodes n []

abbrev pub link_line : Plan → Link → List ℕ
link_line s l = codes "link " ++ (name_at s l.a ++ (codes " " ++ (name_at s l.b ++ codes "\n")))

abbrev pub user_line : Plan → ℕ → List ℕ → List ℕ
user_line s i name = codes "user " ++ (name ++ (codes " " ++ count (slice_index s.ranks i) (codes "\n")))

abbrev pub reading_line : Reading → List ℕ
reading_line r = codes "reading " ++ (word_of r ++ codes "\n")

-- a link of the node n, with the node at its far end
abbrev pub link_note : Plan → ℕ → ℕ → Link → List ℕ
link_note s n i l =
    cond (ends l n) (codes " " ++ (count i (codes " (") ++ (name_at s (far_end l n) ++ codes ")"))) []

abbrev pub node_note : Plan → ℕ → List ℕ → List ℕ
node_note s n name = codes "# links of " ++ (name ++ (codes ":" ++ (each_from (link_note s n) 0 s.links ++ codes "\n")))

-- the whole sheet
abbrev pub sheet_of : Plan → List ℕ
sheet_of s =
    counts s
    ++ (flat_map (name_line (codes "node ")) s.nodes
    ++ (flat_map (link_line s) s.links
    ++ (flat_map (name_line (codes "class ")) s.classes
    ++ (each_from (user_line s) 0 s.users
    ++ (reading_line (reading_on s)
    ++ each_from (node_note s) 0 s.nodes)))))
