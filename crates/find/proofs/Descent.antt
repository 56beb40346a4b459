-- What the descent knows at each node: at a leaf its words are its entry, at an inner node the key lies in one half.
-- Assumes nothing.
use Prim.Native.Nat.{ℕ, ◌+◌, ◌-◌, ◌*◌, ◌/◌, ◌%◌, ◌^◌, ◌≤◌, ◌<◌}
use native.Mathlib.Omega.{arith}
use mathlib.Core.Path.{◌≡◌, sym, ap, subst, ◌∙◌}
use mathlib.Core.List.{List, [], ◌∷◌}
use mathlib.Core.Option.{Option, none, some}
use lib.Dec.{eqb}
use Rattle.nodes.specs.declared.node.Node.{Node}
use Rattle.nodes.specs.declared.header.Header.{Header}
use Rattle.nodes.specs.Nodes.{node_at, header_at}
use Rattle.rules.specs.State.{Entry}
use Rattle.rules.specs.Tree.{entries}
use Rattle.rules.proofs.Tests.{is_true, yes_eq, no_eq}
use Rattle.rules.proofs.Trees.{canonical_rising}
use Rattle.pool.specs.Plan.{Plan, leaf, node, tree_in, leaf_node, no_node}
use Rattle.pool.specs.Image.{Arrangement, Image, Fit, state_of}
use Rattle.pool.specs.Subtree.{StandsAt, Rooted}
use Rattle.pool.proofs.Words.{leaf_height, leaf_low}
use Rattle.pool.proofs.Subtree.{halved, node_reads, stands_left, stands_right, inner, rooted_spans}
use Rattle.pool.proofs.Root.{no_root, some_root, root_rooted}
use Rattle.find.specs.declared.Found.{Found}
use Rattle.find.specs.declared.Found.TheVariants.{Absent, Live, Tombstone}
use Rattle.find.specs.Found.{found_at, found_in}
use Rattle.find.proofs.Lookup.{found_left, found_right}

-- AT A LEAF

-- a leaf of another key
pub leaf_other : (k : ℕ) (n : Node) → (n.low ≡ k → ⊥) → (e : Entry) → n ≡ leaf_node e.key e.position e.payload → Absent ≡ found_in k (e ∷ [])
unfolding found_in
leaf_other k n d e q =
    let low : n.low ≡ e.key = ap (λ (x : Node). x.low) q ∙ leaf_low e.key e.position e.payload in
    rw (no_eq {a = e.key} {b = k} (λ z. d (low ∙ z)))

-- a leaf of this key
leaf_key : (k : ℕ) (e : Entry) → e.key ≡ k → found_at e.position e.payload ≡ found_in k (e ∷ [])
unfolding found_in
leaf_key k e q = rw (is_true (eqb e.key k) (yes_eq q))

-- a tombstone
pub leaf_dead : (k : ℕ) (n : Node) → n.low ≡ k → n.kind ≡ 2 → (e : Entry) → n ≡ leaf_node e.key e.position e.payload → Tombstone n.newest ≡ found_in k (e ∷ [])
leaf_dead k n s d e q = go e.payload q ∙ leaf_key k e (sym low ∙ s)
  where
    low : n.low ≡ e.key
    low = ap (λ (x : Node). x.low) q ∙ leaf_low e.key e.position e.payload

    go : (o : Option ℕ) → n ≡ leaf_node e.key e.position o → Tombstone n.newest ≡ found_at e.position o
    go none z = ap Tombstone (ap (λ (x : Node). x.newest) z)
    go (some y) z = absurd (omega (arith, ap (λ (x : Node). x.kind) z))

-- a live key, whose payload is its two halves
pub leaf_live : (k : ℕ) (n : Node) (x : ℕ) → n.low ≡ k → (n.kind ≡ 2 → ⊥) → x ≡ n.left * 2 ^ 32 + n.right
    → (e : Entry) → n ≡ leaf_node e.key e.position e.payload → Live x n.newest ≡ found_in k (e ∷ [])
leaf_live k n x s d p e q = go e.payload q ∙ leaf_key k e (sym low ∙ s)
  where
    low : n.low ≡ e.key
    low = ap (λ (x : Node). x.low) q ∙ leaf_low e.key e.position e.payload

    go : (o : Option ℕ) → n ≡ leaf_node e.key e.position o → Live x n.newest ≡ found_at e.position o
    go none z = absurd (d (ap (λ (x : Node). x.kind) z))
    go (some y) z =
        let a : n.left ≡ y / 2 ^ 32 = ap (λ (x : Node). x.left) z in
        let b : n.right ≡ y % 2 ^ 32 = ap (λ (x : Node). x.right) z in
        let w : n.newest ≡ e.position = ap (λ (x : Node). x.newest) z in
        let whole : x ≡ y = omega arith in
        rw (whole, w)

-- ON THE WAY DOWN

-- r is what the tree at node i says of the key
abbrev pub Answers : List ℕ → ℕ → ℕ → Found → Type 0
Answers m i k r = (T : Plan) → StandsAt m i T → r ≡ found_in k (entries (tree_in T))

-- an inner node splits at one of 32 bits
pub inner_height : (m : List ℕ) (i : ℕ) (n : Node) → n ≡ node_at m i → (n.height ≡ 0 → ⊥) → Rooted m i → (1 ≤ n.height) × (n.height ≤ 32)
inner_height m i n e up w = omega (arith, up, (rooted_spans w).high, ap (λ (x : Node). x.height) e)

module _ (m : List ℕ) (i k : ℕ) (n : Node) (e : n ≡ node_at m i) where
  -- at height 0 the leaf's answer is the tree's
  pub at_bottom : (r : Found) → n.height ≡ 0 → ((x : Entry) → n ≡ leaf_node x.key x.position x.payload → r ≡ found_in k (x ∷ [])) → Answers m i k r
  unfolding entries
  at_bottom r z f (leaf j x) s = f x (e ∙ node_reads (leaf j x) s)
  at_bottom r z f (node j h low a b) s =
      let y = halved s.canonical in
      absurd (omega (arith, ap (λ (x : Node). x.height) (e ∙ node_reads (node j h low a b) s), y.height))

  module _ (up : n.height ≡ 0 → ⊥) where
    -- the node is an inner one
    up' : (node_at m i).height ≡ 0 → ⊥
    up' z = up (ap (λ (x : Node). x.height) e ∙ z)

    -- the calls for the children, which stand lower
    pub go_left : (q : ℕ) → (node_at m i).height ≡ q → Rooted m i → ((node_at m n.left).height < q) × Rooted m n.left
    go_left q h w = let x = inner w up' in rw (e, ← h) (x.lower_left, x.left)

    pub go_right : (q : ℕ) → (node_at m i).height ≡ q → Rooted m i → ((node_at m n.right).height < q) × Rooted m n.right
    go_right q h w = let x = inner w up' in rw (e, ← h) (x.lower_right, x.right)

    -- a key below the middle: the left child's answer is the tree's; any other: the right child's
    pub from_left : (r : Found) → k < n.low + 2 ^ (n.height - 1) → Answers m n.left k r → Answers m i k r
    unfolding entries
    from_left r l f (leaf j x) s = absurd (up' (ap (λ (x : Node). x.height) (node_reads (leaf j x) s) ∙ leaf_height x.key x.position x.payload))
    from_left r l f (node j h low a b) s =
        let y = halved s.canonical in
        let z = e ∙ node_reads (node j h low a b) s in
        let p : 2 ^ (n.height - 1) ≡ 2 ^ y.k = ap (λ (x : ℕ). 2 ^ x) (omega (arith, ap (λ (x : Node). x.height) z, y.height)) in
        f a (rw e (stands_left s)) ∙ found_left k (entries (tree_in a)) (omega (arith, ap (λ (x : Node). x.low) z)) (canonical_rising y.right)

    pub from_right : (r : Found) → n.low + 2 ^ (n.height - 1) ≤ k → Answers m n.right k r → Answers m i k r
    unfolding entries
    from_right r l f (leaf j x) s = absurd (up' (ap (λ (x : Node). x.height) (node_reads (leaf j x) s) ∙ leaf_height x.key x.position x.payload))
    from_right r l f (node j h low a b) s =
        let y = halved s.canonical in
        let z = e ∙ node_reads (node j h low a b) s in
        let p : 2 ^ (n.height - 1) ≡ 2 ^ y.k = ap (λ (x : ℕ). 2 ^ x) (omega (arith, ap (λ (x : Node). x.height) z, y.height)) in
        f b (rw e (stands_right s)) ∙ found_right k (entries (tree_in b)) (omega (arith, ap (λ (x : Node). x.low) z)) (canonical_rising y.left)

-- AT THE ROOT

module _ (m : List ℕ) (k : ℕ) (h : Header) (e : h ≡ header_at m) where
  -- the root's number
  root_is : h.root ≡ (header_at m).root
  root_is = ap (λ (x : Header). x.root) e

  -- no key is kept
  pub at_none : h.root ≡ no_node → (A : Arrangement) → Image m A → Absent ≡ found_in k (state_of A).kept
  unfolding found_in entries
  at_none z A x = rw (no_root x (sym root_is ∙ z))

  -- the whole tree's answer is the pool's
  pub at_root : (r : Found) → (h.root ≡ no_node → ⊥) → Answers m h.root k r → (A : Arrangement) → Image m A → r ≡ found_in k (state_of A).kept
  at_root r d f A x =
      let y = some_root x (λ z. d (root_is ∙ z)) in
      rw y.1 (f y.0 (subst (λ (j : ℕ). StandsAt m j y.0) (sym root_is) y.2))

-- the call for the whole tree
pub root_there : (m : List ℕ) (h : Header) → h ≡ header_at m → (h.root ≡ no_node → ⊥) → Fit m → Rooted m h.root
root_there m h e d f =
    let q = ap (λ (x : Header). x.root) e in
    subst (λ (j : ℕ). Rooted m j) (sym q) (root_rooted f (λ z. d (q ∙ z)))
