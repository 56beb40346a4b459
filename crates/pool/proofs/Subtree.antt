-- Going down a fit pool's tree: what the words of a node say of the subtree there, and that its children stand lower, each in its half.
-- The idea: a canonical tree with an inner root is two canonical halves of the root's cover.
-- Assumes nothing.
use Prim.Native.Nat.{ℕ, suc, ◌+◌, ◌-◌, ◌*◌, ◌^◌, ◌≤◌, ◌<◌}
use native.Mathlib.Omega.{arith}
use mathlib.Core.Path.{◌≡◌, refl, sym, ap, subst, ◌∙◌}
use mathlib.Core.List.{List, [], ◌∷◌, ◌++◌}
use mathlib.Core.Option.{Option, none, some}
use lib.ListN.{length, length-append}
use Rattle.nodes.specs.declared.node.Node.{Node}
use Rattle.nodes.specs.Nodes.{node_at}
use Rattle.rules.specs.State.{Entry}
use Rattle.rules.specs.Tree.{Tree, newest}
use Rattle.rules.specs.Tree as rules
use Rattle.rules.specs.Shape.{Canonical, two, on_left, on_right}
use Rattle.rules.specs.Shape as trees
use Rattle.pool.specs.Plan.{Plan, leaf, node, tree_in, numbers, leaf_node, root_node}
use Rattle.pool.specs.Image.{AllBelow}
use Rattle.pool.proofs.Frame.{root_holds}
use Rattle.pool.proofs.Words.{leaf_height}
use Rattle.pool.specs.Subtree.{StandsAt, Rooted, start_at, end_at}

-- HALVES

-- an inner root of a tree in L .. L + 2 ^ H − 1: the halves of its cover hold its subtrees
pub record Halved (H L h low : ℕ) (l r : Tree) : Type 0 where
  pub k : ℕ
  pub height : h ≡ suc k
  pub high : h ≤ H
  pub start : L ≤ low
  pub stop : low + 2 ^ h ≤ L + 2 ^ H
  pub left : Canonical k low l
  pub right : Canonical k (low + 2 ^ k) r
  pub left_in_lem : Canonical H L l
  pub right_in : Canonical H L r

-- a canonical tree with an inner root is two canonical halves
pub halved : {H L h low : ℕ} {l r : Tree} → Canonical H L (rules.node h low l r) → Halved H L h low l r
halved (two {h = k} {low = low} a b f g) = record {
  k = k;
  height = refl;
  high = omega arith;
  start = omega arith;
  stop = omega arith;
  left = f;
  right = g;
  left_in_lem = on_left f;
  right_in = on_right g;
}
halved (on_left {h = H} {low = L} f) =
    let x = halved f in
    record {
      k = x.k;
      height = x.height;
      high = omega (arith, x.high);
      start = x.start;
      stop = omega (arith, x.stop);
      left = x.left;
      right = x.right;
      left_in_lem = on_left x.left_in_lem;
      right_in = on_left x.right_in;
    }
halved (on_right {h = H} {low = L} f) =
    let x = halved f in
    record {
      k = x.k;
      height = x.height;
      high = omega (arith, x.high);
      start = omega (arith, x.start);
      stop = omega (arith, x.stop);
      left = x.left;
      right = x.right;
      left_in_lem = on_right x.left_in_lem;
      right_in = on_right x.right_in;
    }

-- what a node covers lies in L .. L + 2 ^ H − 1
pub record Spans (H L : ℕ) (n : Node) : Type 0 where
  pub high : n.height ≤ H
  pub start : L ≤ n.low
  pub stop : n.low + 2 ^ n.height ≤ L + 2 ^ H

-- a leaf covers its key
pub leaf_spans : {H L : ℕ} {e : Entry} → Canonical H L (rules.leaf e) → (o : Option ℕ) → Spans H L (leaf_node e.key e.position o)
leaf_spans (trees.one a b) none = record { high = omega arith; start = a; stop = omega arith }
leaf_spans (trees.one a b) (some x) = record { high = omega arith; start = a; stop = omega arith }
leaf_spans (on_left {h = H} {low = L} f) none = let x = leaf_spans f none in record { high = omega arith; start = x.start; stop = omega (arith, x.stop) }
leaf_spans (on_left {h = H} {low = L} f) (some y) = let x = leaf_spans f none in record { high = omega arith; start = x.start; stop = omega (arith, x.stop) }
leaf_spans (on_right {h = H} {low = L} f) none = let x = leaf_spans f none in record { high = omega arith; start = omega (arith, x.start); stop = omega (arith, x.stop) }
leaf_spans (on_right {h = H} {low = L} f) (some y) = let x = leaf_spans f none in record { high = omega arith; start = omega (arith, x.start); stop = omega (arith, x.stop) }

-- the root of a tree covers nothing outside the tree's range
pub root_spans : {H L : ℕ} (T : Plan) → Canonical H L (tree_in T) → Spans H L (root_node T)
root_spans (leaf i e) f = leaf_spans f e.payload
root_spans (node i h low l r) f = let x = halved f in record { high = x.high; start = x.start; stop = x.stop }

-- THE WORDS OF A NODE

-- node i is as the tree there says
pub node_reads : {m : List ℕ} {i : ℕ} (T : Plan) → StandsAt m i T → node_at m i ≡ root_node T
node_reads {m} {i} T s = subst (λ (x : ℕ). node_at m x ≡ root_node T) s.root (root_holds T m s.holds)

-- THE CHILDREN

-- what is below a number in two lists is so in each
pub below_left : (n : ℕ) (xs ys : List ℕ) → AllBelow n (xs ++ ys) → AllBelow n xs
below_left n [] ys a = tt
below_left n (x ∷ xs) ys a = (a.0, below_left n xs ys a.1)

pub below_right : (n : ℕ) (xs ys : List ℕ) → AllBelow n (xs ++ ys) → AllBelow n ys
below_right n [] ys a = a
below_right n (x ∷ xs) ys a = below_right n xs ys a.1

module _ {m : List ℕ} {i j h low : ℕ} {l r : Plan} (s : StandsAt m i (node j h low l r)) where
  -- the words of the node
  words : node_at m i ≡ root_node (node j h low l r)
  words = node_reads (node j h low l r) s

  -- its left subtree stands at its left child, its right one at its right child
  pub stands_left : StandsAt m (node_at m i).left l
  stands_left = record {
    root = sym (ap (λ (n : Node). n.left) words);
    holds = s.holds.1;
    nodes = s.nodes;
    limit = s.limit;
    room = s.room;
    inside = below_left s.nodes (numbers l) (numbers r) s.inside.1;
    few = omega (arith, s.few, length-append (numbers l) (numbers r));
    canonical = (halved s.canonical).left_in_lem;
  }

  pub stands_right : StandsAt m (node_at m i).right r
  stands_right = record {
    root = sym (ap (λ (n : Node). n.right) words);
    holds = s.holds.2;
    nodes = s.nodes;
    limit = s.limit;
    room = s.room;
    inside = below_right s.nodes (numbers l) (numbers r) s.inside.1;
    few = omega (arith, s.few, length-append (numbers l) (numbers r));
    canonical = (halved s.canonical).right_in;
  }

-- an inner node of a fit pool: its children stand lower, each in its half of what the node covers
pub record Inner (m : List ℕ) (i : ℕ) : Type 0 where
  pub left : Rooted m (node_at m i).left
  pub right : Rooted m (node_at m i).right
  pub lower_left : (node_at m (node_at m i).left).height < (node_at m i).height
  pub lower_right : (node_at m (node_at m i).right).height < (node_at m i).height
  pub left_from : start_at m i ≤ start_at m (node_at m i).left
  pub left_to : end_at m (node_at m i).left ≤ start_at m i + 2 ^ ((node_at m i).height - 1)
  pub right_from : start_at m i + 2 ^ ((node_at m i).height - 1) ≤ start_at m (node_at m i).right
  pub right_to : end_at m (node_at m i).right ≤ end_at m i

-- a node of a fit pool's tree whose height is not 0 is an inner one
pub inner : {m : List ℕ} {i : ℕ} → Rooted m i → ((node_at m i).height ≡ 0 → ⊥) → Inner m i
inner {m} {i} w up = go w.plan w.stands
  where
    go : (T : Plan) → StandsAt m i T → Inner m i
    go (leaf j e) s = absurd (up (ap (λ (n : Node). n.height) (node_reads (leaf j e) s) ∙ leaf_height e.key e.position e.payload))
    go (node j h low l r) s =
        let x = halved s.canonical in
        let n = node_reads (node j h low l r) s in
        let h' = ap (λ (n : Node). n.height) n in
        let low' = ap (λ (n : Node). n.low) n in
        let a = subst (λ (n : Node). Spans x.k low n) (sym (node_reads l (stands_left s))) (root_spans l x.left) in
        let b = subst (λ (n : Node). Spans x.k (low + 2 ^ x.k) n) (sym (node_reads r (stands_right s))) (root_spans r x.right) in
        let p = ap (λ (y : ℕ). 2 ^ y) (h' ∙ x.height) in
        let q : 2 ^ ((node_at m i).height - 1) ≡ 2 ^ x.k = ap (λ (y : ℕ). 2 ^ y) (omega (arith, x.height)) in
        record {
          left = record { plan = l; stands = stands_left s };
          right = record { plan = r; stands = stands_right s };
          lower_left = omega (arith, a.high, x.height, h');
          lower_right = omega (arith, b.high, x.height, h');
          left_from = omega (arith, a.start, low');
          left_to = omega (arith, a.stop, low', q);
          right_from = omega (arith, b.start, low', q);
          right_to = omega (arith, b.stop, low', p);
        }

-- ANY NODE

-- it lies within the pool
pub rooted_within : {m : List ℕ} {i : ℕ} → Rooted m i → 64 + 32 * i + 32 ≤ length m
rooted_within {m} {i} w = go w.plan w.stands
  where
    go : (T : Plan) → StandsAt m i T → 64 + 32 * i + 32 ≤ length m
    go (leaf j e) s = omega (arith, s.root, s.room, s.inside.0)
    go (node j h low l r) s = omega (arith, s.root, s.room, s.inside.0)

-- its height is at most 32, and it covers 32-bit numbers
pub rooted_spans : {m : List ℕ} {i : ℕ} → Rooted m i → Spans 32 0 (node_at m i)
rooted_spans {m} {i} w = subst (λ (n : Node). Spans 32 0 n) (sym (node_reads w.plan w.stands)) (root_spans w.plan w.stands.canonical)
