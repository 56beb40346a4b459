-- What the words of a tree's root say of the tree. A node that is mended above two trees holds the tree of both: its newest and oldest
-- are those that its children's words say.
-- Assumes nothing.
use Prim.Native.Nat.{ℕ, ◌+◌, ◌^◌, max, min, ◌≤◌, ◌<◌}
use native.Mathlib.Omega.{arith}
use mathlib.Core.Path.{◌≡◌, refl, sym, ap, subst, ◌∙◌}
use mathlib.Core.List.{List, Memᴰ as Mem}
use mathlib.Core.Option.{Option, none, some}
use lib.ListN.{length}
use Rattle.words.specs.Word.{Bytes}
use Rattle.std.specs.Prelude.{if◌then◌else◌}
use Rattle.nodes.specs.declared.node.Node.{Node}
use Rattle.nodes.specs.Nodes.{base, node_at, put_node, inner_node}
use Rattle.nodes.specs.Mended.{mended}
use Rattle.nodes.specs.Laws.{NodeFits, node_put, node_apart, node_fits}
use Rattle.rules.specs.State.{is_live}
use Rattle.rules.specs.Tree.{newest, oldest, first, no_tombstone}
use Rattle.pool.specs.Plan.{Plan, leaf, node, tree_in, number, numbers, leaf_node, root_node}
use Rattle.pool.specs.Subtree.{height_of}
use Rattle.pool.specs.Image.{Holds}
use Rattle.pool.proofs.Frame.{holds_frame, root_holds}

-- A LEAF, LIVE OR NOT

pub leaf_height : (k w : ℕ) (o : Option ℕ) → (leaf_node k w o).height ≡ 0
leaf_height k w none = refl
leaf_height k w (some x) = refl

pub leaf_low : (k w : ℕ) (o : Option ℕ) → (leaf_node k w o).low ≡ k
leaf_low k w none = refl
leaf_low k w (some x) = refl

pub leaf_newest : (k w : ℕ) (o : Option ℕ) → (leaf_node k w o).newest ≡ w
leaf_newest k w none = refl
leaf_newest k w (some x) = refl

pub leaf_oldest : (k w : ℕ) (o : Option ℕ) → (leaf_node k w o).oldest ≡ (if is_live o then no_tombstone else w)
leaf_oldest k w none = refl
leaf_oldest k w (some x) = refl

-- THE ROOT

pub root_height : (T : Plan) → (root_node T).height ≡ height_of (tree_in T)
root_height (leaf i x) = leaf_height x.key x.position x.payload
root_height (node i h low l r) = refl

pub root_low : (T : Plan) → (root_node T).low ≡ first (tree_in T)
root_low (leaf i x) = leaf_low x.key x.position x.payload
root_low (node i h low l r) = refl

pub root_newest : (T : Plan) → (root_node T).newest ≡ newest (tree_in T)
unfolding newest
root_newest (leaf i x) = leaf_newest x.key x.position x.payload
root_newest (node i h low l r) = refl

pub root_oldest : (T : Plan) → (root_node T).oldest ≡ oldest (tree_in T)
unfolding oldest
root_oldest (leaf i x) = leaf_oldest x.key x.position x.payload
root_oldest (node i h low l r) = refl

-- as the bytes hold it
pub newest_held : (m : List ℕ) (T : Plan) → Holds m T → (node_at m (number T)).newest ≡ newest (tree_in T)
newest_held m T q = ap (λ (x : Node). x.newest) (root_holds T m q) ∙ root_newest T

pub oldest_held : (m : List ℕ) (T : Plan) → Holds m T → (node_at m (number T)).oldest ≡ oldest (tree_in T)
oldest_held m T q = ap (λ (x : Node). x.oldest) (root_holds T m q) ∙ root_oldest T

-- A NODE ABOVE TWO TREES

-- an inner node fits if each of its words does
pub inner_fits : {h low new old l r : ℕ} → h < 2 ^ 32 → low < 2 ^ 32 → new < 2 ^ 32 → old < 2 ^ 32 → l < 2 ^ 32 → r < 2 ^ 32 → NodeFits (inner_node h low new old l r)
inner_fits a b c d e f = (a, (b, (c, (d, (e, (f, (omega arith, (omega arith, tt))))))))

-- a tree without node i stays when node i is written
beside_held : (m : List ℕ) (i : ℕ) (x : Node) (T : Plan) → Holds m T → (Mem i (numbers T) → ⊥) → Holds (put_node m i x) T
beside_held m i x T q f = holds_frame T m (put_node m i x) q (λ j s. node_apart m i j x (λ e. f (subst (λ (k : ℕ). Mem k (numbers T)) (sym e) s)))

-- node i stands above two trees, with the larger newest and the smaller oldest
pub mended_holds : (m : List ℕ) (i h low : ℕ) (l r : Plan) → base i + 32 ≤ length m → Bytes m → Holds m l → Holds m r → h < 2 ^ 32 → low < 2 ^ 32
    → number l < 2 ^ 32 → number r < 2 ^ 32 → (Mem i (numbers l) → ⊥) → (Mem i (numbers r) → ⊥) → Holds (mended m i h low (number l) (number r)) (node i h low l r)
unfolding mended newest oldest
mended_holds m i h low l r room b p q hs ls us ws il ir =
    let fits_l = node_fits m (number l) b in
    let fits_r = node_fits m (number r) b in
    let x : Node = inner_node h low (max (node_at m (number l)).newest (node_at m (number r)).newest) (min (node_at m (number l)).oldest (node_at m (number r)).oldest) (number l) (number r) in
    let fits : NodeFits x = inner_fits hs ls (omega (arith, fits_l.1.1.0, fits_r.1.1.0)) (omega (arith, fits_l.1.1.1.0, fits_r.1.1.1.0)) us ws in
    let is : x ≡ root_node (node i h low l r) = rw (newest_held m l p, newest_held m r q, oldest_held m l p, oldest_held m r q) in
    (node_put m i x room fits ∙ is, beside_held m i x l p il, beside_held m i x r q ir)
