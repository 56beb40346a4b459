-- What the recursions over a tree in the bytes start from, and what they leave behind.
-- Assumes nothing: these are definitions.
use Rattle.std.specs.Prelude as Code
use Rattle.std.specs.Prelude.{ℕ, ◌+◌, ◌≤◌, ◌<◌, ◌≡◌, length, Some, None}
use Rattle.std.proofs.Math.Option.{Option, none, some}
use mathlib.Core.List.{List, ◌++◌, Memᴰ as Mem}
use Rattle.words.specs.Word.{Bytes}
use Rattle.nodes.specs.Nodes.{base, put_node}
use Rattle.rules.specs.Tree.{Tree, empty, entries}
use Rattle.rules.specs.Lists.{keep}
use Rattle.pool.specs.Plan.{Plan, tree_in, number, numbers, free_node}
use Rattle.pool.specs.Subtree.{height_of}
use Rattle.pool.specs.Image.{Distinct, AllBelow, Holds, HoldsTree, HoldsFree, first_of}
use Rattle.pool.specs.Frame.{Frame}
use Rattle.drop.specs.declared.tombstones.FreeNodes.{FreeNodes}
use Rattle.drop.specs.declared.tombstones.Left.{Left}
use Rattle.drop.specs.Old.{old}
use Rattle.drop.specs.Drop.{drop_plan, freed}

-- heights fall from each node to its subtrees
abbrev pub Falling : Tree → Type 0
Falling empty = Unit
Falling (Tree.leaf e) = Unit
Falling (Tree.node h low l r) = (height_of l < h) × (height_of r < h) × Falling l × Falling r

-- the bytes hold a tree whose numbers are below n
pub record StandsBelow (m : List ℕ) (n : ℕ) (T : Plan) : Type 0 where
  pub small : n ≤ 131072
  pub room : base n ≤ length m
  pub holds : Holds m T
  pub falling : Falling (tree_in T)
  pub below : AllBelow n (numbers T)
  pub few : length (entries (tree_in T)) ≤ 65536

-- some tree stands at node i
pub record Standing (m : List ℕ) (i : ℕ) : Type 0 where
  pub count : ℕ
  pub tree : Plan
  pub at : number tree ≡ i
  pub stands : StandsBelow m count tree

-- r is k, or most where k is more
pub record UpTo (most k r : ℕ) : Type 0 where
  pub at_most : r ≤ most
  pub counted : r ≤ k
  pub all : r < most → r ≡ k

-- r is the number of old tombstones of whatever tree stands at node i, or most where there are more
abbrev pub Counted : List ℕ → ℕ → ℕ → ℕ → ℕ → Type 0
Counted m i limit most r = (n : ℕ) (T : Plan) → number T ≡ i → StandsBelow m n T → UpTo most (length (keep (old limit) (entries (tree_in T)))) r

-- the number of a tree's root, if there is a tree
abbrev pub root_of : Option Plan → Code.Option ℕ
root_of none = None
root_of (some T) = Some (number T)

-- the free nodes as the functions hand them on
abbrev pub free_of : List ℕ → FreeNodes
free_of F = record { first = first_of F; count = length F }

-- node i has come to the front of the free nodes
pub record FreedNode (m : List ℕ) (i : ℕ) (f : FreeNodes) (m' : List ℕ) (f' : FreeNodes) : Type 0 where
  pub bytes_are : m' ≡ put_node m i (free_node f.first (f.count + 1))
  pub is : f' ≡ record { first = i; count = f.count + 1 }

-- the bytes hold a tree and free nodes, apart from each other
pub record Spot (m : List ℕ) (n : ℕ) (T : Plan) (F : List ℕ) : Type 0 where
  pub small : n ≤ 131072
  pub room : base n ≤ length m
  pub bytes : Bytes m
  pub holds : Holds m T
  pub falling : Falling (tree_in T)
  pub free : HoldsFree m F
  pub below : AllBelow n (numbers T ++ F)
  pub distinct : Distinct (numbers T ++ F)
  pub fewer : length (numbers T ++ F) ≤ n

-- some tree stands at node i, beside the free nodes f
pub record DropReady (m : List ℕ) (i : ℕ) (f : FreeNodes) : Type 0 where
  pub count : ℕ
  pub tree : Plan
  pub list : List ℕ
  pub at : number tree ≡ i
  pub beside : free_of list ≡ f
  pub spot : Spot m count tree list

-- what is left of the tree, told by its root and the free nodes then
pub record Dropped (m : List ℕ) (limit : ℕ) (T : Plan) (F : List ℕ) (m' : List ℕ) (r : Left) : Type 0 where
  pub holds : HoldsTree m' (drop_plan limit T)
  pub free : HoldsFree m' (freed limit T F)
  pub is : r ≡ record { root = root_of (drop_plan limit T); free = free_of (freed limit T F) }
  pub frame : Frame m m' (λ j. Mem j (numbers T))
  pub bytes : Bytes m'

-- so for whatever tree stands at node i, and whatever free nodes
abbrev pub Drops : List ℕ → ℕ → ℕ → FreeNodes → List ℕ → Left → Type 0
Drops m i limit f m' r = (n : ℕ) (T : Plan) (F : List ℕ) → number T ≡ i → free_of F ≡ f → Spot m n T F → Dropped m limit T F m' r
