-- A pool is the image of one arrangement: each node's words tell what stands there.
-- Assumes nothing.
use Prim.Native.Nat.{ℕ, ◌*◌, ◌<◌}
use mathlib.Core.Path.{◌≡◌, refl, sym, ap, ◌∙◌, subst}
use mathlib.Core.List.Memᴰ.{append_left as in_left}
use mathlib.Core.List.{List, [], ◌∷◌, ◌++◌}
use mathlib.Core.Option.{Option, none, some}
use native.Mathlib.Omega.{arith}
use lib.ListN.{length, length-append}
use Rattle.nodes.specs.declared.node.Node.{Node}
use Rattle.nodes.specs.declared.header.Header.{Header}
use Rattle.nodes.specs.Nodes.{node_at}
use Rattle.rules.specs.State.{Entry}
use Rattle.rules.proofs.Trees.{tree_of_canonical}
use Rattle.pool.specs.Plan.{Plan, leaf, node, number, leaf_node}
use Rattle.pool.specs.Image.{Arrangement, tree_or, root_or, numbers_or, Arranged, AllBelow, Holds, HoldsTree, HoldsFree, first_of, header_of, Image}
use Rattle.pool.proofs.Numbers.{below_mem}
use Rattle.pool.proofs.Frame.{root_in}
use Rattle.pool.proofs.Placed.{Placed, at_leaf, at_node, canonical_placed}
use Rattle.pool.proofs.Apart.{leaf_height}

-- ONE ARRANGEMENT

payload_same : (k w k' w' : ℕ) (o o' : Option ℕ) → leaf_node k w o ≡ leaf_node k' w' o' → o ≡ o'
payload_same k w k' w' none none e = refl
payload_same k w k' w' none (some y) e = absurd (omega (arith, ap (λ (n : Node). n.kind) e))
payload_same k w k' w' (some x) none e = absurd (omega (arith, ap (λ (n : Node). n.kind) e))
payload_same k w k' w' (some x) (some y) e = let s : x ≡ y = omega (arith, ap (λ (n : Node). n.left) e, ap (λ (n : Node). n.right) e) in ap {B = Option ℕ} some s

key_same : (k w k' w' : ℕ) (o o' : Option ℕ) → leaf_node k w o ≡ leaf_node k' w' o' → (k ≡ k') × (w ≡ w')
key_same k w k' w' none none e = (ap (λ (n : Node). n.low) e, ap (λ (n : Node). n.newest) e)
key_same k w k' w' none (some y) e = absurd (omega (arith, ap (λ (n : Node). n.kind) e))
key_same k w k' w' (some x) none e = absurd (omega (arith, ap (λ (n : Node). n.kind) e))
key_same k w k' w' (some x) (some y) e = (ap (λ (n : Node). n.low) e, ap (λ (n : Node). n.newest) e)

entry_same : (e e' : Entry) → leaf_node e.key e.position e.payload ≡ leaf_node e'.key e'.position e'.payload → e ≡ e'
entry_same e e' q =
    let a = key_same e.key e.position e'.key e'.position e.payload e'.payload q in
    let b = payload_same e.key e.position e'.key e'.position e.payload e'.payload q in
    λ k. record { key = a.0 k; position = a.1 k; payload = b k }

module _ (m : List ℕ) where
  at_same : {i j : ℕ} → i ≡ j → node_at m i ≡ node_at m j
  at_same e = ap (node_at m) e

  -- bytes hold one tree at a node
  pub plan_same : {from to from' to' : ℕ} {P Q : Plan} → Placed from to P → Placed from' to' Q → Holds m P → Holds m Q → number P ≡ number Q → P ≡ Q
  plan_same (at_leaf {i = i} {e = e} a b) (at_leaf {i = j} {e = e'} c d) p q s =
      let x = entry_same e e' (sym p ∙ at_same s ∙ q) in
      λ k. leaf (s k) (x k)
  plan_same (at_leaf {e = e} a b) (at_node c d z pl pr) p q s =
      absurd (omega (arith, ap (λ (n : Node). n.height) (sym p ∙ at_same s ∙ q.0), leaf_height e.key e.position e.payload))
  plan_same (at_node a b z pl pr) (at_leaf {e = e} c d) p q s =
      absurd (omega (arith, ap (λ (n : Node). n.height) (sym p.0 ∙ at_same s ∙ q), leaf_height e.key e.position e.payload))
  plan_same (at_node {l = l} {r = r} a b z pl pr) (at_node {l = l'} {r = r'} c d z' pl' pr') p q s =
      let w = sym p.0 ∙ at_same s ∙ q.0 in
      let x = plan_same pl pl' p.1 q.1 (ap (λ (n : Node). n.left) w) in
      let y = plan_same pr pr' p.2 q.2 (ap (λ (n : Node). n.right) w) in
      let h = ap (λ (n : Node). n.height) w in
      let low = ap (λ (n : Node). n.low) w in
      λ k. node (s k) (h k) (low k) (x k) (y k)

  free_same : (F G : List ℕ) → HoldsFree m F → HoldsFree m G → first_of F ≡ first_of G → length F ≡ length G → F ≡ G
  free_same [] [] p q s e = refl
  free_same [] (j ∷ js) p q s e = absurd (omega arith)
  free_same (i ∷ is) [] p q s e = absurd (omega arith)
  free_same (i ∷ is) (j ∷ js) p q s e =
      let x = free_same is js p.1 q.1 (ap (λ (n : Node). n.low) (sym p.0 ∙ at_same s ∙ q.0)) (omega arith) in
      λ k. s k ∷ x k

-- the tree of an arrangement stands in all 32-bit numbers
pub arranged_placed : (A : Arrangement) → Arranged A → (P : Plan) → A.tree ≡ some P → Placed 0 4294967296 P
arranged_placed A a P e = canonical_placed (tree_of_canonical 32 0 a.lawful.rising) 0 (omega arith) P (ap tree_or (sym e) ∙ a.shape)

-- the root's number is none that says "none"
root_low : (m : List ℕ) (B : Arrangement) → Image m B → (Q : Plan) → B.tree ≡ some Q → number Q < 131073
root_low m B b Q f =
    let below = subst (λ (t : Option Plan). AllBelow (2 * B.N) (numbers_or t ++ B.free)) f b.arranged.below in
    omega (arith, b.arranged.lawful.limit_N.1, below_mem below (in_left B.free (root_in Q)))

tree_same : (m : List ℕ) (A B : Arrangement) → Image m A → Image m B → (s t : Option Plan) → A.tree ≡ s → B.tree ≡ t → root_or s ≡ root_or t → s ≡ t
tree_same m A B a b none none e f q = refl
tree_same m A B a b none (some Q) e f q = absurd (omega (arith, q, root_low m B b Q f))
tree_same m A B a b (some P) none e f q = absurd (omega (arith, q, root_low m A a P e))
tree_same m A B a b (some P) (some Q) e f q =
    ap {B = Option Plan} some
    (plan_same m (arranged_placed A a.arranged P e) (arranged_placed B b.arranged Q f) (subst (λ (t : Option Plan). HoldsTree m t) e a.tree) (subst (λ (t : Option Plan). HoldsTree m t) f b.tree) q)

-- a pool means one arrangement
pub one_arrangement : (m : List ℕ) (A B : Arrangement) → Image m A → Image m B → A ≡ B
one_arrangement m A B a b =
    let h : header_of A ≡ header_of B = sym a.header ∙ b.header in
    let n = ap (λ (x : Header). x.limit) h in
    let z = ap (λ (x : Header). x.zone) h in
    let p = ap (λ (x : Header). x.position) h in
    let t = tree_same m A B a b A.tree B.tree refl refl (ap (λ (x : Header). x.root) h) in
    let c = ap (λ (x : Option Plan). length (numbers_or x)) t in
    let f = free_same m A.free B.free a.free b.free (ap (λ (x : Header). x.free) h)
    (omega (arith, n, c, a.arranged.all, b.arranged.all, length-append (numbers_or A.tree) A.free, length-append (numbers_or B.tree) B.free)) in
    λ k. record { N = n k; Z = z k; p = p k; tree = t k; free = f k }
