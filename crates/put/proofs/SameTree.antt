-- Two arrangements of one pool have the same state: a pool's words say which tree it holds.
-- Assumes nothing.
use Prim.Native.Nat.{ℕ, ◌-◌, ◌*◌, ◌≤◌, ◌<◌}
use mathlib.Core.Path.{◌≡◌, refl, sym, ap, ◌∙◌, subst}
use mathlib.Core.List.{List, ◌++◌}
use mathlib.Core.Option.{Option, none, some}
use native.Mathlib.Omega.{arith}
use Rattle.nodes.specs.declared.node.Node.{Node}
use Rattle.nodes.specs.declared.header.Header.{Header}
use Rattle.nodes.specs.Nodes.{node_at}
use Rattle.rules.specs.State.{Entry}
use Rattle.rules.specs.Tree as Trees
use Rattle.rules.specs.Tree.{entries}
use Rattle.rules.specs.Shape.{Canonical}
use Rattle.pool.specs.Plan.{Plan, leaf, node, tree_in, number, numbers, leaf_node}
use Rattle.pool.specs.Image.{Arrangement, Image, header_of, Holds, HoldsTree, AllBelow, tree_or, root_or, numbers_or, state_of}
use Rattle.put.specs.Places.{Falls}
use Rattle.pool.proofs.Words.{root_height}
use Rattle.put.proofs.Roots.{entry_low, entry_newest}
use Rattle.put.proofs.Shape.{root_of}
use Rattle.put.proofs.Arranging.{arranged_canonical}

-- HEIGHTS FALL

-- the heights of a canonical tree fall
pub canonical_falls : (T : Plan) {top from : ℕ} → Canonical top from (tree_in T) → Falls top T
canonical_falls (leaf i x) g = tt
canonical_falls (node i h low l r) g =
    let q = root_of g in
    let p : q.half ≡ h - 1 = omega (arith, q.is) in
    (omega (arith, q.is), q.high, subst (λ (z : ℕ). Falls z l) p (canonical_falls l q.left), subst (λ (z : ℕ). Falls z r) p (canonical_falls r q.right))

-- ONE TREE

-- a leaf's words say its payload, and its entry
payload_same : (k w k' w' : ℕ) (o o' : Option ℕ) → leaf_node k w o ≡ leaf_node k' w' o' → o ≡ o'
payload_same k w k' w' none none q = refl
payload_same k w k' w' none (some y) q = absurd (omega (arith, ap (λ (n : Node). n.kind) q))
payload_same k w k' w' (some x) none q = absurd (omega (arith, ap (λ (n : Node). n.kind) q))
payload_same k w k' w' (some x) (some y) q =
    ap (λ (z : ℕ). some z) (omega (arith, ap (λ (n : Node). n.left) q, ap (λ (n : Node). n.right) q))

leaf_same : (x y : Entry) → leaf_node x.key x.position x.payload ≡ leaf_node y.key y.position y.payload → x ≡ y
leaf_same x y q =
    let k : x.key ≡ y.key = sym (entry_low x) ∙ ap (λ (n : Node). n.low) q ∙ entry_low y in
    let w : x.position ≡ y.position = sym (entry_newest x) ∙ ap (λ (n : Node). n.newest) q ∙ entry_newest y in
    let o : x.payload ≡ y.payload = payload_same x.key x.position y.key y.position x.payload y.payload q in
    λ t. record { key = k t; position = w t; payload = o t }

-- two trees at one node are one
pub same_tree : (m : List ℕ) (s t : ℕ) (T U : Plan) → Falls s T → Falls t U → Holds m T → Holds m U → number T ≡ number U → tree_in T ≡ tree_in U
same_tree m s t (leaf i x) (leaf j y) f g p q e = ap (λ (z : Entry). Trees.leaf z) (leaf_same x y (sym p ∙ ap (λ (z : ℕ). node_at m z) e ∙ q))
same_tree m s t (leaf i x) (node j h low l r) f g p q e =
    absurd (omega (arith, g.0, root_height (leaf i x), ap (λ (n : Node). n.height) (sym p ∙ ap (λ (z : ℕ). node_at m z) e ∙ q.0)))
same_tree m s t (node j h low l r) (leaf i x) f g p q e =
    absurd (omega (arith, f.0, root_height (leaf i x), ap (λ (n : Node). n.height) (sym q ∙ ap (λ (z : ℕ). node_at m z) (sym e) ∙ p.0)))
same_tree m s t (node i h low l r) (node j h' low' l' r') f g p q e =
    let w = sym p.0 ∙ ap (λ (z : ℕ). node_at m z) e ∙ q.0 in
    let on_left = same_tree m (h - 1) (h' - 1) l l' f.2 g.2 p.1 q.1 (ap (λ (n : Node). n.left) w) in
    let on_right = same_tree m (h - 1) (h' - 1) r r' f.3 g.3 p.2 q.2 (ap (λ (n : Node). n.right) w) in
    let hs : h ≡ h' = ap (λ (n : Node). n.height) w in
    let ls : low ≡ low' = ap (λ (n : Node). n.low) w in
    λ z. Trees.node (hs z) (ls z) (on_left z) (on_right z)

-- ONE STATE

pub first_below : (n : ℕ) (T : Plan) (is : List ℕ) → AllBelow n (numbers T ++ is) → number T < n
first_below n (leaf i x) is b = b.0
first_below n (node i h low l r) is b = b.0

same_or : (m : List ℕ) (n : ℕ) (o u : Option Plan) (is js : List ℕ) → n ≤ 131072 → AllBelow n (numbers_or o ++ is) → AllBelow n (numbers_or u ++ js)
    → Canonical 32 0 (tree_or o) → Canonical 32 0 (tree_or u) → HoldsTree m o → HoldsTree m u → root_or o ≡ root_or u → tree_or o ≡ tree_or u
same_or m n none none is js l a b c d p q e = refl
same_or m n none (some U) is js l a b c d p q e = absurd (omega (arith, first_below n U js b))
same_or m n (some T) none is js l a b c d p q e = absurd (omega (arith, first_below n T is a))
same_or m n (some T) (some U) is js l a b c d p q e = same_tree m 32 32 T U (canonical_falls T c) (canonical_falls U d) p q e

-- two arrangements of one pool agree on N, p and what is kept
module _ (m : List ℕ) (A B : Arrangement) (a : Image m A) (b : Image m B) where
  header_same : {C : Type 0} (f : Header → C) → f (header_of A) ≡ f (header_of B)
  header_same f = ap f (sym a.header ∙ b.header)

  pub same_N : A.N ≡ B.N
  same_N = header_same (λ (h : Header). h.limit)

  pub same_p : A.p ≡ B.p
  same_p = header_same (λ (h : Header). h.position)

  pub same_kept : (state_of A).kept ≡ (state_of B).kept
  same_kept = ap entries (same_or m (2 * A.N) A.tree B.tree A.free B.free (omega (arith, a.arranged.lawful.limit_N.1)) a.arranged.below
      (rw same_N b.arranged.below) (arranged_canonical A a.arranged) (arranged_canonical B b.arranged) a.tree b.tree (header_same (λ (h : Header). h.root)))
