-- A tree with the number of each of its nodes, and what each node's words are (docs/LAYOUT.md; an inner node's stand in nodes/specs).
-- Assumes nothing: these are definitions.
use Rattle.std.specs.Prelude.{ℕ, ◌/◌, ◌%◌, ◌^◌, List, [], ◌∷◌, ◌++◌}
use Rattle.std.proofs.Math.Option.{Option, none, some}
use Rattle.nodes.specs.declared.node.Node.{Node}
use Rattle.nodes.specs.Nodes.{inner_node}
use Rattle.rules.specs.State.{Entry}
use Rattle.rules.specs.Tree.{Tree, newest, oldest, no_tombstone}

-- R19: a leaf: its number and its entry; an inner node: its number, height and least number covered, and its subtrees
pub data Plan : Type 0 where
  leaf : ℕ → Entry → Plan
  node : ℕ → ℕ → ℕ → Plan → Plan → Plan

-- R32: the tree without the numbers
abbrev pub tree_in : Plan → Tree
tree_in (leaf i e) = Tree.leaf e
tree_in (node i h low l r) = Tree.node h low (tree_in l) (tree_in r)

-- R19: the number of the root
abbrev pub number : Plan → ℕ
number (leaf i e) = i
number (node i h low l r) = i

-- R19: all numbers
abbrev pub numbers : Plan → List ℕ
numbers (leaf i e) = i ∷ []
numbers (node i h low l r) = i ∷ (numbers l ++ numbers r)

-- R19: the word that says that there is no node
abbrev pub no_node : ℕ
no_node = 4294967295

-- R19: the height of a free node, which no node of a tree has
abbrev pub free_height : ℕ
free_height = 4294967295

-- R19: a leaf's words
abbrev pub leaf_node : ℕ → ℕ → Option ℕ → Node
leaf_node k w (some x) = record { height = 0; low = k; newest = w; oldest = no_tombstone; left = x / 2 ^ 32; right = x % 2 ^ 32; kind = 1; spare = 0 }
leaf_node k w none = record { height = 0; low = k; newest = w; oldest = w; left = 0; right = 0; kind = 2; spare = 0 }

-- R19: a free node's words: the next free node, and how many free nodes there are from it on
abbrev pub free_node : ℕ → ℕ → Node
free_node next rank = record { height = free_height; low = next; newest = rank; oldest = 0; left = 0; right = 0; kind = 0; spare = 0 }

-- R19: what stands at the root
abbrev pub root_node : Plan → Node
root_node (leaf i e) = leaf_node e.key e.position e.payload
root_node (node i h low l r) =
    inner_node h low (newest (tree_in (node i h low l r))) (oldest (tree_in (node i h low l r))) (number l) (number r)
