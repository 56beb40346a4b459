-- The steps of a put: each takes a pool that holds a tree to one that holds the tree with the entry stored.
-- Assumes nothing.
use Prim.Native.Nat.{ℕ, ◌+◌, ◌*◌, ◌/◌, ◌^◌, ◌≤◌, ◌<◌}
use mathlib.Core.Path.{◌≡◌, refl, sym, ap, ◌∙◌}
use mathlib.Core.Bool.{Bool, true, false}
use mathlib.Core.Logic.{◌≢◌}
use mathlib.Core.List.{List, [], ◌∷◌, Memᴰ as Mem}
use native.Mathlib.Omega.{arith}
use lib.ListN.{length}
use lib.Dec.{eqb, ltb}
use borrow.Author.Tests.{eq-eqb}
use Rattle.bits.specs.Bits.{part_height}
use Rattle.nodes.specs.Nodes.{base, node_at, put_node}
use Rattle.nodes.specs.Laws.{NodeFits, node_fits, node_put, node_apart, bytes_node, length_node}
use Rattle.std.specs.Prelude.{if◌then◌else◌}
use Rattle.rules.specs.State.{Entry}
use Rattle.rules.specs.Tree.{first}
use Rattle.pool.specs.Plan.{Plan, leaf, node, tree_in, number, numbers, root_node}
use Rattle.pool.specs.Subtree.{height_of}
use Rattle.pool.specs.Image.{Holds}
use Rattle.pool.specs.Times.{bit, times}
use Rattle.pool.proofs.Numbers.{times_append, times_same, mem_times}
use Rattle.pool.proofs.Frame.{frame_put, frame_widen, frame_then, holds_frame, root_holds, root_in}
use Rattle.put.specs.Storing.{covered, has, beside, put_plan}
use Rattle.put.specs.Writes.{fork_node, split_mem}
use Rattle.put.specs.Places.{leaf_of, Falls, Place, Done}
use Rattle.put.proofs.Counts.{taken, times_put}
use Rattle.put.proofs.Roots.{fork_node_lem, fork_fits}

-- NUMBERS AND PLACES

pub times_node : (j i h low : ℕ) (l r : Plan) → times j (numbers (node i h low l r)) ≡ bit (eqb j i) + times j (numbers l) + times j (numbers r)
unfolding times
times_node j i h low l r = omega (arith, times_append j (numbers l) (numbers r))

pub bit_same : (j i : ℕ) → j ≡ i → bit (eqb j i) ≡ 1
bit_same j i q = ap bit (eq-eqb j i q)

-- a node of the tree is one of the tree with e stored
pub still_in : (a b : ℕ) (e : Entry) (T : Plan) (j : ℕ) → 1 ≤ times j (numbers T) → 1 ≤ times j (numbers (put_plan a b e T))
still_in a b e T j h = omega (arith, times_put a b e j T)

-- the root is a node of its tree
pub root_counted : (T : Plan) → 1 ≤ times (number T) (numbers T)
root_counted T = mem_times (root_in T)

-- a node in the pool has a small number
pub small : {m : List ℕ} {T : Plan} {e : Entry} {a b : ℕ} → Place m T e a b → (j : ℕ) → base j + 32 ≤ length m → j < 4294967296
small p j h = omega (arith, p.size)

-- heights that fall from t on fall from above t on
pub falls_up : (T : Plan) (t u : ℕ) → t ≤ u → Falls t T → Falls u T
falls_up (leaf i x) t u h f = tt
falls_up (node i k low l r) t u h f = (f.0, omega (arith, f.1), f.2, f.3)

-- A LEAF OF THE KEY

-- the leaf is written over
pub leaf_step : (m : List ℕ) (i : ℕ) (x e : Entry) (a b : ℕ) → Place m (leaf i x) e a b → covered x.key 0 e.key ≡ true
    → Done m (leaf i x) e a b (put_node m i (leaf_of e)) (record { root = i; new = false })
unfolding put_plan has times
leaf_step m i x e a b p c = record {
  bytes = bytes_node m i (leaf_of e) p.bytes;
  holds = rw c (node_put m i (leaf_of e) (p.inside i (rw c (omega (arith, bit_same i i refl)))) p.leaf_fits);
  root_is = rw c;
  new_is = rw c;
  frame = rw c (frame_widen (frame_put m i (leaf_of e)) (λ j s. omega (arith, bit_same j i s)));
}

-- A KEY THAT THE TREE DOES NOT COVER

put_beside : (a b : ℕ) (e : Entry) (T : Plan) → covered (first (tree_in T)) (height_of (tree_in T)) e.key ≡ false → put_plan a b e T ≡ beside a b e T
unfolding put_plan
put_beside a b e (leaf i x) c = rw c
put_beside a b e (node i h low l r) c = rw c

-- a tree has no key that it does not cover
pub has_not : (e : Entry) (T : Plan) → covered (first (tree_in T)) (height_of (tree_in T)) e.key ≡ false → has e.key T ≡ false
unfolding has
has_not e (leaf i x) c = c
has_not e (node i h low l r) c = rw c

beside_root : (a b : ℕ) (e : Entry) (T : Plan) → a ≡ number (beside a b e T)
beside_root a b e T = go (ltb e.key (first (tree_in T)))
  where
    h : ℕ
    h = part_height (first (tree_in T)) e.key

    go : (s : Bool) → a ≡ number (if s then node a h (e.key / 2 ^ h * 2 ^ h) (leaf b e) T else node a h (e.key / 2 ^ h * 2 ^ h) T (leaf b e))
    go true = refl
    go false = refl

holds_beside : (m : List ℕ) (a b : ℕ) (e : Entry) (T : Plan) → node_at m a ≡ root_node (beside a b e T) → node_at m b ≡ leaf_of e → Holds m T → Holds m (beside a b e T)
holds_beside m a b e T p q r = go (ltb e.key (first (tree_in T))) p
  where
    h : ℕ
    h = part_height (first (tree_in T)) e.key

    low : ℕ
    low = e.key / 2 ^ h * 2 ^ h

    go : (s : Bool) → node_at m a ≡ root_node (if s then node a h low (leaf b e) T else node a h low T (leaf b e)) → Holds m (if s then node a h low (leaf b e) T else node a h low T (leaf b e))
    go true p = (p, q, r)
    go false p = (p, r, q)

module _ (m : List ℕ) (T : Plan) (e : Entry) (a b : ℕ) (p : Place m T e a b) (n : has e.key T ≡ false) where
  count_new : (j : ℕ) → times j (numbers (put_plan a b e T)) ≡ times j (numbers T) + times j (a ∷ b ∷ [])
  count_new j = times_put a b e j T ∙ ap (λ (x : Bool). times j (numbers T) + times j (taken x a b)) n

  a_in : 1 ≤ times a (a ∷ b ∷ [])
  a_in = omega (arith, times_same a (b ∷ []))

  b_in : 1 ≤ times b (a ∷ b ∷ [])
  unfolding times
  b_in = omega (arith, bit_same b b refl)

  -- both lie in the pool
  pub room_a : base a + 32 ≤ length m
  room_a = p.inside a (omega (arith, count_new a, a_in))

  pub room_b : base b + 32 ≤ length m
  room_b = p.inside b (omega (arith, count_new b, b_in))

  a_not_b : a ≢ b
  unfolding times
  a_not_b q = omega (arith, p.once a, count_new a, bit_same a a refl, bit_same a b q)

  -- the two are no nodes of the tree
  a_apart : (j : ℕ) → Mem j (numbers T) → a ≢ j
  a_apart j s q = omega (arith, p.once a, count_new a, a_in, mem_times s, ap (λ (z : ℕ). times z (numbers T)) q)

  b_apart : (j : ℕ) → Mem j (numbers T) → b ≢ j
  b_apart j s q = omega (arith, p.once b, count_new b, b_in, mem_times s, ap (λ (z : ℕ). times z (numbers T)) q)

  fork_put : List ℕ
  fork_put = put_node (put_node m b (leaf_of e)) a (fork_node (number T) (root_node T) (leaf_of e) b)

  root_fits : NodeFits (root_node T)
  root_fits = rw (sym (root_holds T m p.holds)) (node_fits m (number T) p.bytes)

  number_fits : number T < 4294967296
  number_fits = small p (number T) (p.inside (number T) (still_in a b e T (number T) (root_counted T)))

  at_a : node_at fork_put a ≡ root_node (beside a b e T)
  unfolding fork_put
  at_a =
      node_put (put_node m b (leaf_of e)) a (fork_node (number T) (root_node T) (leaf_of e) b) (rw length_node room_a)
      (fork_fits (number T) b (root_node T) (leaf_of e) root_fits p.leaf_fits number_fits (small p b room_b))
      ∙ fork_node_lem a b e T

  at_b : node_at fork_put b ≡ leaf_of e
  unfolding fork_put
  at_b = node_apart (put_node m b (leaf_of e)) a b _ a_not_b ∙ node_put m b (leaf_of e) room_b p.leaf_fits

  at_tree : Holds fork_put T
  unfolding fork_put
  at_tree = holds_frame T m _ p.holds (λ j s. node_apart (put_node m b (leaf_of e)) a j _ (a_apart j s) ∙ node_apart m b j (leaf_of e) (b_apart j s))

  -- the leaf and the inner node are written
  pub split_step : covered (first (tree_in T)) (height_of (tree_in T)) e.key ≡ false → Done m T e a b (split_mem m (number T) (root_node T) (leaf_of e) a b) (record { root = a; new = true })
  unfolding split_mem fork_put
  split_step c = record {
    bytes = bytes_node _ a _ (bytes_node m b _ p.bytes);
    holds = rw (put_beside a b e T c) (holds_beside fork_put a b e T at_a at_b at_tree);
    root_is = rw (put_beside a b e T c) (beside_root a b e T);
    new_is = rw n;
    frame = frame_then
        (frame_widen (frame_put m b (leaf_of e)) (λ j s. omega (arith, count_new j, b_in, ap (λ (z : ℕ). times z (a ∷ b ∷ [])) s)))
        (frame_widen (frame_put _ a _) (λ j s. omega (arith, count_new j, a_in, ap (λ (z : ℕ). times z (a ∷ b ∷ [])) s)));
  }
