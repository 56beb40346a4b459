-- A subtree of a fit pool, as the functions that go down the tree meet it: its root's number is all that they are handed.
-- Assumes nothing: these are definitions.
use Rattle.std.specs.Prelude.{ℕ, ◌+◌, ◌*◌, ◌^◌, ◌≤◌, ◌≡◌, List, length}
use Rattle.nodes.specs.Nodes.{node_at}
use Rattle.rules.specs.Tree.{Tree, empty}
use Rattle.rules.specs.Shape.{Canonical}
use Rattle.pool.specs.Plan.{Plan, tree_in, number, numbers}
use Rattle.pool.specs.Image.{AllBelow, Holds}

-- the height of a tree's root: 0 at a leaf
abbrev pub height_of : Tree → ℕ
height_of empty = 0
height_of (Tree.leaf e) = 0
height_of (Tree.node h low l r) = h

-- the bytes hold the tree T at node i, within the pool; its nodes stand where keys first differ
pub record StandsAt (m : List ℕ) (i : ℕ) (T : Plan) : Type 0 where
  pub root : number T ≡ i
  pub holds : Holds m T
  pub nodes : ℕ
  pub limit : nodes ≤ 131072
  pub room : 64 + 32 * nodes ≤ length m
  pub inside : AllBelow nodes (numbers T)
  pub few : length (numbers T) ≤ 131072
  pub canonical : Canonical 32 0 (tree_in T)

-- some tree stands at node i
pub record Rooted (m : List ℕ) (i : ℕ) : Type 0 where
  pub plan : Plan
  pub stands : StandsAt m i plan

-- the least number that node i covers, and one past the last
abbrev pub start_at : List ℕ → ℕ → ℕ
start_at m i = (node_at m i).low

abbrev pub end_at : List ℕ → ℕ → ℕ
end_at m i = (node_at m i).low + 2 ^ (node_at m i).height
