-- The new inner node above a leaf and a tree: its words are the root's of both, and fit.
-- Assumes nothing.
use Prim.Native.Nat.{ℕ, ◌*◌, ◌/◌, ◌^◌, ◌<◌, max, min}
use mathlib.Core.Path.{◌≡◌, refl}
use mathlib.Core.Bool.{Bool, true, false}
use native.Mathlib.Omega.{arith}
use native.Mathlib.Nat.{div-mul-le_self}
use lib.Dec.{ltb}
use Rattle.bits.specs.Bits.{part_height}
use Rattle.bits.proofs.Part.{part_most}
use Rattle.nodes.specs.declared.node.Node.{Node}
use Rattle.nodes.specs.Nodes.{inner_node}
use Rattle.nodes.specs.Laws.{NodeFits}
use Rattle.std.specs.Prelude.{if◌then◌else◌}
use Rattle.rules.specs.State.{Entry, is_live}
use Rattle.rules.specs.Tree.{newest, oldest, first, no_tombstone}
use Rattle.pool.specs.Plan.{Plan, leaf, node, tree_in, number, root_node}
use Rattle.pool.proofs.Words.{leaf_low, leaf_newest, leaf_oldest, root_low, root_newest, root_oldest, inner_fits}
use Rattle.put.specs.Storing.{beside}
use Rattle.put.specs.Writes.{fork_node}
use Rattle.put.specs.Places.{leaf_of}

-- an entry's leaf has its key and its position
pub entry_low : (e : Entry) → (leaf_of e).low ≡ e.key
entry_low e = leaf_low e.key e.position e.payload

pub entry_newest : (e : Entry) → (leaf_of e).newest ≡ e.position
entry_newest e = leaf_newest e.key e.position e.payload

-- THE NEW INNER NODE

max_swap : (x y : ℕ) → max x y ≡ max y x
max_swap x y = omega arith

min_swap : (x y : ℕ) → min x y ≡ min y x
min_swap x y = omega arith

-- its words are those of the tree beside the leaf
pub fork_node_lem : (a b : ℕ) (e : Entry) (T : Plan) → fork_node (number T) (root_node T) (leaf_of e) b ≡ root_node (beside a b e T)
unfolding newest oldest
fork_node_lem a b e T =
    rw (root_low T, root_newest T, root_oldest T, entry_low e, leaf_newest e.key e.position e.payload, leaf_oldest e.key e.position e.payload)
    (go (ltb e.key (first (tree_in T))))
  where
    h : ℕ
    h = part_height (first (tree_in T)) e.key

    low : ℕ
    low = e.key / 2 ^ h * 2 ^ h

    new : ℕ
    new = max e.position (newest (tree_in T))

    last : ℕ
    last = if is_live e.payload then no_tombstone else e.position

    go : (s : Bool) → (if s then inner_node h low new (min last (oldest (tree_in T))) b (number T) else inner_node h low new (min last (oldest (tree_in T))) (number T) b)
        ≡ root_node (if s then node a h low (leaf b e) T else node a h low T (leaf b e))
    go true = refl
    go false = rw (max_swap e.position (newest (tree_in T)), min_swap last (oldest (tree_in T)))

-- FITTING WORDS

-- the new inner node fits above a leaf and a node that fit
pub fork_fits : (i b : ℕ) (n l : Node) → NodeFits n → NodeFits l → i < 2 ^ 32 → b < 2 ^ 32 → NodeFits (fork_node i n l b)
fork_fits i b n l f g u v = go (ltb l.low n.low)
  where
    h : ℕ
    h = part_height n.low l.low

    low : ℕ
    low = l.low / 2 ^ h * 2 ^ h

    new : ℕ
    new = max l.newest n.newest

    old : ℕ
    old = min l.oldest n.oldest

    h_fits : h < 2 ^ 32
    h_fits = omega (arith, part_most n.low l.low)

    low_fits : low < 2 ^ 32
    low_fits = omega (arith, div-mul-le_self l.low (2 ^ h), g.1.0)

    new_fits : new < 2 ^ 32
    new_fits = omega (arith, f.1.1.0, g.1.1.0)

    old_fits : old < 2 ^ 32
    old_fits = omega (arith, f.1.1.1.0, g.1.1.1.0)

    go : (s : Bool) → NodeFits (if s then inner_node h low new old b i else inner_node h low new old i b)
    go true = inner_fits h_fits low_fits new_fits old_fits v u
    go false = inner_fits h_fits low_fits new_fits old_fits u v
