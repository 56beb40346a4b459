-- What the descent of a put asks of the pool, and what it leaves.
-- Assumes nothing: these are definitions.
use Rattle.std.specs.Prelude.{ℕ, ◌+◌, ◌-◌, ◌*◌, ◌≤◌, ◌<◌, ◌≡◌, not, List, length}
use Rattle.words.specs.Word.{Bytes}
use Rattle.nodes.specs.declared.node.Node.{Node}
use Rattle.nodes.specs.Nodes.{base}
use Rattle.nodes.specs.Laws.{NodeFits}
use Rattle.rules.specs.State.{Entry}
use Rattle.pool.specs.Plan.{Plan, leaf, node, number, numbers, leaf_node}
use Rattle.pool.specs.Image.{Holds}
use Rattle.pool.specs.Times.{times}
use Rattle.pool.specs.Frame.{Frame}
use Rattle.put.specs.declared.tree.AfterPut.{AfterPut}
use Rattle.put.specs.Storing.{has, put_plan}

-- an entry's leaf
abbrev pub leaf_of : Entry → Node
leaf_of e = leaf_node e.key e.position e.payload

-- heights are at most top, and fall
abbrev pub Falls : ℕ → Plan → Type 0
Falls top (leaf i x) = Unit
Falls top (node i h low l r) = (0 < h) × (h ≤ top) × Falls (h - 1) l × Falls (h - 1) r

-- the most bytes that a pool has
abbrev pub most : ℕ
most = 64 + 64 * 65536

-- the pool m holds the tree T; the nodes of the tree with e stored lie in the pool, each once
pub record Place (m : List ℕ) (T : Plan) (e : Entry) (a b : ℕ) : Type 0 where
  pub bytes : Bytes m
  pub size : length m ≤ most
  pub holds : Holds m T
  pub falls : Falls 32 T
  pub inside : (j : ℕ) → 1 ≤ times j (numbers (put_plan a b e T)) → base j + 32 ≤ length m
  pub once : (j : ℕ) → times j (numbers (put_plan a b e T)) ≤ 1
  pub leaf_fits : NodeFits (leaf_of e)

-- what storing e leaves: the tree with e stored, and every byte outside its nodes
pub record Done (m : List ℕ) (T : Plan) (e : Entry) (a b : ℕ) (m' : List ℕ) (r : AfterPut) : Type 0 where
  pub bytes : Bytes m'
  pub holds : Holds m' (put_plan a b e T)
  pub root_is : r.root ≡ number (put_plan a b e T)
  pub new_is : r.new ≡ not (has e.key T)
  pub frame : Frame m m' (λ j. 1 ≤ times j (numbers (put_plan a b e T)))

-- node i is the root of a tree in which the leaf can be stored
pub record PutReady (m : List ℕ) (i : ℕ) (l : Node) (a b : ℕ) : Type 0 where
  pub tree : Plan
  pub entry : Entry
  pub at : number tree ≡ i
  pub is : l ≡ leaf_of entry
  pub place : Place m tree entry a b

-- every tree at i has the leaf stored in it
abbrev pub Puts : List ℕ → ℕ → Node → ℕ → ℕ → List ℕ → AfterPut → Type 0
Puts m i l a b m' r = (T : Plan) (e : Entry) → number T ≡ i → l ≡ leaf_of e → Place m T e a b → Done m T e a b m' r
