-- A node comes to the front of the free nodes; what else the bytes hold stays.
-- Assumes nothing.
use Prim.Native.Nat.{ℕ, suc, ◌+◌, ◌^◌, ◌≤◌, ◌<◌}
use native.Mathlib.Omega.{arith}
use mathlib.Core.Path.{◌≡◌, sym, ap, subst, ◌∙◌}
use mathlib.Core.List.{List, ◌∷◌, Memᴰ as Mem}
use mathlib.Core.Option.{Option}
use lib.ListN.{length}
use Rattle.nodes.specs.declared.node.Node.{Node}
use Rattle.nodes.specs.Nodes.{base, put_node}
use Rattle.nodes.specs.Laws.{node_put, node_apart}
use Rattle.pool.specs.Plan.{Plan, free_node}
use Rattle.pool.specs.Image.{HoldsTree, HoldsFree, first_of, numbers_or}
use Rattle.pool.proofs.Frame.{tree_frame, free_frame}
use Rattle.drop.specs.declared.tombstones.FreeNodes.{FreeNodes}
use Rattle.drop.specs.Spot.{free_of}

-- node i is written: a tree and free nodes without it are as they were
pub put_tree : (m : List ℕ) (i : ℕ) (x : Node) (X : Option Plan) → HoldsTree m X → (Mem i (numbers_or X) → ⊥) → HoldsTree (put_node m i x) X
put_tree m i x X q f = tree_frame X m (put_node m i x) q (λ j s. node_apart m i j x (λ e. f (subst (λ (k : ℕ). Mem k (numbers_or X)) (sym e) s)))

-- so are the free nodes
pub put_free : (m : List ℕ) (i : ℕ) (x : Node) (F : List ℕ) → HoldsFree m F → (Mem i F → ⊥) → HoldsFree (put_node m i x) F
put_free m i x F q f = free_frame F m (put_node m i x) q (λ j s. node_apart m i j x (λ e. f (subst (λ (k : ℕ). Mem k F) (sym e) s)))

-- node i comes to the front of the free nodes
pub push_free : (m : List ℕ) (i : ℕ) (f : FreeNodes) (F : List ℕ) → base i + 32 ≤ length m → free_of F ≡ f → f.first < 2 ^ 32 → f.count + 1 < 2 ^ 32
    → HoldsFree m F → (Mem i F → ⊥) → HoldsFree (put_node m i (free_node f.first (f.count + 1))) (i ∷ F)
push_free m i f F room p a b h d = (
  node_put m i (free_node f.first (f.count + 1)) room (omega arith, (a, (b, (omega arith, (omega arith, (omega arith, (omega arith, (omega arith, tt))))))))
      ∙ two f.first (first_of F) (f.count + 1) (suc (length F)) (sym (ap (λ (x : FreeNodes). x.first) p)) (omega (arith, ap (λ (x : FreeNodes). x.count) p)),
  put_free m i (free_node f.first (f.count + 1)) F h d,
)
  where
    two : (f f' k k' : ℕ) → f ≡ f' → k ≡ k' → free_node f k ≡ free_node f' k'
    two f f' k k' a b = rw (a, b)
