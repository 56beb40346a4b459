-- What a root's kind tells: whether it is a tombstone, a live key or an inner node.
-- Assumes nothing.
use Prim.Native.Nat.{ℕ}
use native.Mathlib.Omega.{arith}
use mathlib.Core.Path.{◌≡◌, refl, ap}
use mathlib.Core.Logic.{◌≢◌}
use mathlib.Core.Bool.{Bool, true, false}
use mathlib.Core.Option.{Option, none, some}
use Rattle.rules.specs.State.{Entry, is_live}
use Rattle.pool.specs.Plan.{Plan, leaf, node, number, leaf_node, root_node}

-- THE THREE KINDS

-- a leaf that is live or not
pub record IsLeaf (i : ℕ) (T : Plan) (live : Bool) : Type 0 where
  pub entry : Entry
  pub is : T ≡ leaf i entry
  pub payload : is_live entry.payload ≡ live

-- an inner node and its sides
pub record IsInner (i : ℕ) (T : Plan) : Type 0 where
  pub height : ℕ
  pub low : ℕ
  pub left : Plan
  pub right : Plan
  pub is : T ≡ node i height low left right

-- kind 2 is a tombstone
dead_kind : (k w : ℕ) (x : Option ℕ) → (leaf_node k w x).kind ≡ 2 → is_live x ≡ false
dead_kind k w none q = refl
dead_kind k w (some x) q = absurd (omega arith)

-- kind 1 is a live key
live_kind : (k w : ℕ) (x : Option ℕ) → (leaf_node k w x).kind ≡ 1 → is_live x ≡ true
live_kind k w none q = absurd (omega arith)
live_kind k w (some x) q = refl

-- a leaf is one or the other
leaf_kind : (k w : ℕ) (x : Option ℕ) → (leaf_node k w x).kind ≢ 1 → (leaf_node k w x).kind ≢ 2 → ⊥
leaf_kind k w none a b = b refl
leaf_kind k w (some x) a b = a refl

-- a tree whose root has kind 2
pub as_tombstone : (i : ℕ) (T : Plan) → number T ≡ i → (root_node T).kind ≡ 2 → IsLeaf i T false
as_tombstone i (leaf j e) at q = record { entry = e; is = ap (λ (j : ℕ). leaf j e) at; payload = dead_kind e.key e.position e.payload q }
as_tombstone i (node j h low l r) at q = absurd (omega arith)

-- a tree whose root has kind 1
pub as_live : (i : ℕ) (T : Plan) → number T ≡ i → (root_node T).kind ≡ 1 → IsLeaf i T true
as_live i (leaf j e) at q = record { entry = e; is = ap (λ (j : ℕ). leaf j e) at; payload = live_kind e.key e.position e.payload q }
as_live i (node j h low l r) at q = absurd (omega arith)

-- a tree whose root has neither
pub as_inner : (i : ℕ) (T : Plan) → number T ≡ i → (root_node T).kind ≢ 1 → (root_node T).kind ≢ 2 → IsInner i T
as_inner i (leaf j e) at a b = absurd (leaf_kind e.key e.position e.payload a b)
as_inner i (node j h low l r) at a b = record { height = h; low = low; left = l; right = r; is = ap (λ (j : ℕ). node j h low l r) at }
