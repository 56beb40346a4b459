-- What a pool means. An arrangement is a state, which node holds what, and the order of the free nodes; a pool is its image if every
-- byte is as docs/LAYOUT.md says. A pool is fit if it is the image of an arrangement.
-- Assumes nothing: these are definitions.
use Rattle.std.specs.Prelude.{ℕ, suc, ◌+◌, ◌*◌, ◌≤◌, ◌<◌, ◌≡◌, length, get_or}
use mathlib.Core.List.{List, [], ◌∷◌, ◌++◌, Memᴰ as Mem}
use Rattle.std.proofs.Math.Option.{Option, none, some}
use Rattle.words.specs.Word.{Bytes}
use Rattle.nodes.specs.declared.header.Header.{Header}
use Rattle.nodes.specs.Nodes.{node_at, header_at}
use Rattle.rules.specs.State.{State, Lawful}
use Rattle.rules.specs.Tree.{Tree, empty, tree_of, entries}
use Rattle.pool.specs.Plan.{Plan, leaf, node, tree_in, number, numbers, no_node, free_node, root_node}

-- R19: the limits, the position, the tree if a key is kept, and the free nodes in their order
pub record Arrangement : Type 0 where
  pub N : ℕ
  pub Z : ℕ
  pub p : ℕ
  pub tree : Option Plan
  pub free : List ℕ

-- R32: the tree, empty if no key is kept
abbrev pub tree_or : Option Plan → Tree
tree_or none = empty
tree_or (some T) = tree_in T

-- R19: the number of the root, none if no key is kept
abbrev pub root_or : Option Plan → ℕ
root_or none = no_node
root_or (some T) = number T

-- R19: the numbers of the tree's nodes
abbrev pub numbers_or : Option Plan → List ℕ
numbers_or none = []
numbers_or (some T) = numbers T

-- R19: the state that an arrangement is of
abbrev pub state_of : Arrangement → State
state_of A = record { N = A.N; Z = A.Z; p = A.p; kept = entries (tree_or A.tree) }

-- R19: no number stands twice
abbrev pub Distinct : List ℕ → Type 0
Distinct [] = Unit
Distinct (i ∷ is) = (Mem i is → ⊥) × Distinct is

-- R19: each is below a number
abbrev pub AllBelow : ℕ → List ℕ → Type 0
AllBelow n [] = Unit
AllBelow n (i ∷ is) = (i < n) × AllBelow n is

-- R19: the state is lawful (R17), the tree is the tree of its entries (R32), and tree and free nodes together are all nodes, each once
pub record Arranged (A : Arrangement) : Type 0 where
  pub lawful : Lawful (state_of A)
  pub shape : tree_or A.tree ≡ tree_of 32 0 (state_of A).kept
  pub below : AllBelow (2 * A.N) (numbers_or A.tree ++ A.free)
  pub distinct : Distinct (numbers_or A.tree ++ A.free)
  pub all : length (numbers_or A.tree ++ A.free) ≡ 2 * A.N

-- R19: the bytes hold each node of a tree
abbrev pub Holds : List ℕ → Plan → Type 0
Holds m (leaf i e) = node_at m i ≡ root_node (leaf i e)
Holds m (node i h low l r) = (node_at m i ≡ root_node (node i h low l r)) × Holds m l × Holds m r

-- R19: the same where there may be no tree
abbrev pub HoldsTree : List ℕ → Option Plan → Type 0
HoldsTree m none = Unit
HoldsTree m (some T) = Holds m T

-- R19: the first of the free nodes
abbrev pub first_of : List ℕ → ℕ
first_of [] = no_node
first_of (i ∷ is) = i

-- R19: the bytes hold each free node, linked in order, each with its rank
abbrev pub HoldsFree : List ℕ → List ℕ → Type 0
HoldsFree m [] = Unit
HoldsFree m (i ∷ is) = (node_at m i ≡ free_node (first_of is) (suc (length is))) × HoldsFree m is

-- R19: "EMP1", the mark of this layout
abbrev pub layout_mark : ℕ
layout_mark = 0x454D5031

-- R19: the header's words
abbrev pub header_of : Arrangement → Header
header_of A =
    record {
      mark = layout_mark;
      limit = A.N;
      zone = A.Z;
      position = A.p;
      kept = length (state_of A).kept;
      root = root_or A.tree;
      free = first_of A.free;
    }

-- R19: the bytes are the image of the arrangement, every byte of them
pub record Image (m : List ℕ) (A : Arrangement) : Type 0 where
  pub arranged : Arranged A
  pub size : length m ≡ 64 + 64 * A.N
  pub bytes : Bytes m
  pub header : header_at m ≡ header_of A
  pub zeros : (k : ℕ) → 28 ≤ k → k < 64 → get_or m k 0 ≡ 0
  pub tree : HoldsTree m A.tree
  pub free : HoldsFree m A.free

-- R19: a pool is fit if it is the image of an arrangement
pub record Fit (m : List ℕ) : Type 0 where
  pub arrangement : Arrangement
  pub image : Image m arrangement
