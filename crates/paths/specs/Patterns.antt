-- What a pattern stands for.
use Rattle.std.specs.Prelude.{◌≡◌, ℕ, ◌≤◌, Bool, true, List, [], ◌∷◌, ◌++◌, length, Some, None, Option}
use Rattle.std.specs.List.{list_any}
use Rattle.fixed.specs.Items.{items}
use Rattle.paths.specs.declared.pattern.Item.{Item}
use Rattle.paths.specs.declared.pattern.Item.TheVariants.{Node, Star}
use Rattle.paths.specs.declared.pattern.Pattern.{Pattern}
use Rattle.paths.specs.Live.{is_star}

-- the items of a pattern, first to last
abbrev pub items_of : Pattern → List Item
items_of p = items p.items

-- a list that is a front and a back
pub record Split (P Q : List ℕ → Type 0) (ns : List ℕ) : Type 0 where
  pub front : List ℕ
  pub back : List ℕ
  pub whole : ns ≡ front ++ back
  pub first : P front
  pub rest : Q back

-- a node stands for itself, and a star for any number of nodes
abbrev pub Block : Item → List ℕ → Type 0
Block (Node m) ns = ns ≡ m ∷ []
Block Star ns = Unit {0}

-- the nodes are one block after another, one for each item
abbrev pub Blocks : List Item → List ℕ → Type 0
Blocks [] ns = ns ≡ []
Blocks (i ∷ is) ns = Split (Block i) (Blocks is) ns

-- whether there is a star among the items
abbrev pub starred : List Item → Bool
starred is = list_any is_star is

-- a pattern stands for nodes: with a star, for two or more
pub record Stands (is : List Item) (ns : List ℕ) : Type 0 where
  pub blocks : Blocks is ns
  pub two : starred is ≡ true → 2 ≤ length ns

-- the node that is the whole pattern, where it is one node
abbrev pub lone : List Item → Option ℕ
lone [] = None
lone (Star ∷ is) = None
lone (Node m ∷ []) = Some m
lone (Node m ∷ i ∷ is) = None
