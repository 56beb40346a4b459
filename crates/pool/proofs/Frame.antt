-- What a pool holds depends only on the bytes of the nodes concerned: bytes that agree there hold the same tree and the same free nodes.
-- Assumes nothing.
use Prim.Native.Nat.{ℕ, ◌+◌, ◌≤◌, ◌<◌}
use mathlib.Core.Path.{◌≡◌, refl, ◌∙◌}
use mathlib.Core.Logic.{inl, inr, ◌≢◌}
use mathlib.Core.Option.{Option, none, some}
use mathlib.Core.List.Memᴰ.{append_left as in_left}
use mathlib.Core.List.Memᴰ.{append_right as in_right}
use mathlib.Core.List.Memᴰ.{head as here}
use mathlib.Core.List.Memᴰ.{tail as there}
use mathlib.Core.List.{List, [], ◌∷◌, Memᴰ as Mem}
use native.Mathlib.Omega.{arith}
use native.Mathlib.Decide.{dec_lt}
use lib.ListN.{get_or}
use Rattle.nodes.specs.declared.node.Node.{Node}
use Rattle.nodes.specs.Nodes.{base, node_at, put_node, header_at}
use Rattle.nodes.specs.Laws.{length_node, byte_node, node_same}
use Rattle.pool.specs.Frame.{Clear, Frame}
use Rattle.pool.specs.Plan.{Plan, leaf, node, numbers, number, root_node}
use Rattle.pool.specs.Image.{Holds, HoldsTree, HoldsFree, numbers_or}

pub clear : (i j k : ℕ) → i ≢ j → base j ≤ k → k < base j + 32 → Clear k i
clear i j k d p q = elim (dec_lt i j) [ yes l ↦ inr (omega arith) | no g ↦ inl (omega arith) ]

pub frame_none : (m : List ℕ) (S : ℕ → Type 0) → Frame m m S
frame_none m S = record { length_kept = refl; kept = λ k f. refl }

pub frame_put : (m : List ℕ) (i : ℕ) (n : Node) → Frame m (put_node m i n) (λ j. j ≡ i)
frame_put m i n = record { length_kept = length_node m i n; kept = λ k f. byte_node m i n k (f i refl) }

pub frame_widen : {m m' : List ℕ} {S S' : ℕ → Type 0} → Frame m m' S → ((j : ℕ) → S j → S' j) → Frame m m' S'
frame_widen f g = record { length_kept = f.length_kept; kept = λ k h. f.kept k (λ j s. h j (g j s)) }

pub frame_then : {m m' m'' : List ℕ} {S : ℕ → Type 0} → Frame m m' S → Frame m' m'' S → Frame m m'' S
frame_then f g = record { length_kept = g.length_kept ∙ f.length_kept; kept = λ k h. g.kept k h ∙ f.kept k h }

-- a node outside the frame's set is as it was
pub frame_node : {m m' : List ℕ} {S : ℕ → Type 0} → Frame m m' S → (j : ℕ) → ((i : ℕ) → S i → i ≢ j) → node_at m' j ≡ node_at m j
frame_node {m} {m'} f j h = node_same m m' j (λ k p q. f.kept k (λ i s. clear i j k (h i s) p q))

-- the header's bytes, and the zeros behind it
pub frame_front : {m m' : List ℕ} {S : ℕ → Type 0} → Frame m m' S → (k : ℕ) → k < 64 → get_or m' k 0 ≡ get_or m k 0
frame_front f k h = f.kept k (λ j s. inl (omega arith))

pub frame_header : {m m' : List ℕ} {S : ℕ → Type 0} → Frame m m' S → header_at m' ≡ header_at m
frame_header {m} {m'} f = Rattle.nodes.specs.Laws.header_same m m' (λ k h. frame_front f k (omega arith))

-- memory that agrees on a tree's nodes holds that tree
pub holds_frame : (T : Plan) (m m' : List ℕ) → Holds m T → ((j : ℕ) → Mem j (numbers T) → node_at m' j ≡ node_at m j) → Holds m' T
holds_frame (leaf i e) m m' q f = f i (here refl) ∙ q
holds_frame (node i h low l r) m m' q f =
    (f i (here refl) ∙ q.0, holds_frame l m m' q.1 (λ j s. f j (there (in_left (numbers r) s))), holds_frame r m m' q.2 (λ j s. f j (there (in_right (numbers l) s))))

-- the same if there is a tree
pub tree_frame : (X : Option Plan) (m m' : List ℕ) → HoldsTree m X → ((j : ℕ) → Mem j (numbers_or X) → node_at m' j ≡ node_at m j) → HoldsTree m' X
tree_frame none m m' q f = tt
tree_frame (some T) m m' q f = holds_frame T m m' q f

-- and on the free nodes, those
pub free_frame : (is : List ℕ) (m m' : List ℕ) → HoldsFree m is → ((j : ℕ) → Mem j is → node_at m' j ≡ node_at m j) → HoldsFree m' is
free_frame [] m m' q f = tt
free_frame (i ∷ is) m m' q f = (f i (here refl) ∙ q.0, free_frame is m m' q.1 (λ j s. f j (there s)))

-- what stands at a tree's root
pub root_holds : (T : Plan) (m : List ℕ) → Holds m T → node_at m (number T) ≡ root_node T
root_holds (leaf i e) m q = q
root_holds (node i h low l r) m q = q.0

pub root_in : (T : Plan) → Mem (number T) (numbers T)
root_in (leaf i e) = here refl
root_in (node i h low l r) = here refl
