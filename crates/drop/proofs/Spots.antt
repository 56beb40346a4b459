-- What the recursion of the drop starts from: facts of the numbers, a tree in which nothing is old, an old leaf, and each child's turn.
-- Assumes nothing.
use Prim.Native.Nat.{ℕ, suc, ◌+◌, ◌^◌, ◌≤◌, ◌<◌}
use native.Mathlib.Omega.{arith}
use mathlib.Core.Path.{◌≡◌, refl, ap, subst, subst⁻¹}
use mathlib.Core.Logic.{◌≢◌}
use mathlib.Core.Bool.{true}
use mathlib.Core.List.Memᴰ.{append_left as in_left}
use mathlib.Core.List.Memᴰ.{head as here}
use mathlib.Core.List.{List, [], ◌∷◌, ◌++◌, Memᴰ as Mem}
use mathlib.Core.Option.{Option, some}
use Rattle.std.specs.Prelude.{Some, None}
use lib.ListN.{length, length-append}
use Rattle.nodes.specs.Nodes.{base, put_node}
use Rattle.nodes.specs.Laws.{bytes_node}
use Rattle.rules.specs.State.{Entry}
use Rattle.pool.specs.Plan.{Plan, leaf, node, number, numbers, free_node}
use Rattle.pool.specs.Image.{AllBelow, HoldsTree, HoldsFree, first_of}
use Rattle.pool.specs.Times.{times}
use Rattle.pool.proofs.Numbers.{times_append, times_same, distinct_times, times_distinct, below_times, times_below, below_part, mem_times, below_mem}
use Rattle.pool.proofs.Frame.{frame_none, frame_put, frame_widen, frame_node, holds_frame}
use Rattle.pool.proofs.Headers.{first_small}
use Rattle.drop.specs.declared.tombstones.FreeNodes.{FreeNodes}
use Rattle.drop.specs.declared.tombstones.Left.{Left}
use Rattle.drop.specs.Old.{old}
use Rattle.drop.specs.Drop.{drop_plan, freed}
use Rattle.drop.specs.Spot.{free_of, Spot, Dropped}
use Rattle.drop.proofs.Plans.{drop_times, drop-length}
use Rattle.drop.proofs.Moves.{push_free}

-- WHAT A SPOT SAYS OF NUMBERS

module _ {m : List ℕ} {n : ℕ} {T : Plan} {F : List ℕ} (q : Spot m n T F) where
  -- each number stands once, in the tree or among the free ones
  pub once : (j : ℕ) → times j (numbers T) + times j F ≤ 1
  once j = omega (arith, distinct_times (numbers T ++ F) q.distinct j, times_append j (numbers T) F)

  -- the tree's numbers are below n
  pub tree_below : {j : ℕ} → Mem j (numbers T) → j < n
  tree_below s = below_mem q.below (in_left F s)

  -- its nodes lie in the bytes
  pub tree_room : {j : ℕ} → Mem j (numbers T) → base j + 32 ≤ length m
  tree_room s = omega (arith, tree_below s, q.room)

  -- tree and free nodes are at most n
  pub fits_in : length (numbers T) + length F ≤ n
  fits_in = omega (arith, q.fewer, length-append (numbers T) F)

  -- the free numbers are below n
  free_below : AllBelow n F
  free_below = below_part n (numbers T ++ F) F (λ j. omega (arith, times_append j (numbers T) F)) q.below

  -- the first of them fits a word
  pub free_small : first_of F < 2 ^ 32
  free_small = first_small n F q.small free_below

-- NOTHING IS OLD

-- all is left as it is
pub drop_same : {m : List ℕ} {n : ℕ} {T : Plan} {F : List ℕ} (limit i : ℕ) (f : FreeNodes) → Spot m n T F → number T ≡ i → free_of F ≡ f
    → drop_plan limit T ≡ some T → freed limit T F ≡ F → Dropped m limit T F m (record { root = Some i; free = f })
drop_same {m} {T = T} {F = F} limit i f q at beside a b = record {
  holds = subst⁻¹ (λ (X : Option Plan). HoldsTree m X) a q.holds;
  free = subst⁻¹ (λ (G : List ℕ). HoldsFree m G) b q.free;
  is = rw (a, b, at, beside);
  frame = frame_none m (λ j. Mem j (numbers T));
  bytes = q.bytes;
}

-- AN OLD LEAF

-- it comes to the front of the free nodes, and nothing is left
pub drop_leaf : {m : List ℕ} {n : ℕ} {i : ℕ} {e : Entry} {F : List ℕ} (limit : ℕ) (f : FreeNodes) → Spot m n (leaf i e) F → free_of F ≡ f
    → old limit e ≡ true → Dropped m limit (leaf i e) F (put_node m i (free_node f.first (f.count + 1))) (record { root = None; free = record { first = i; count = f.count + 1 } })
unfolding drop_plan freed
drop_leaf {m} {n} {i} {e} {F} limit f q beside o =
    let c : length F ≡ f.count = ap (λ (x : FreeNodes). x.count) beside in
    let more : f.count + 1 ≡ suc (length F) = omega arith in
    record {
      holds = rw o tt;
      free = rw o (push_free m i f F (tree_room q (here refl)) beside (subst (λ (x : FreeNodes). x.first < 2 ^ 32) beside (free_small q)) (omega (arith, fits_in q, q.small)) q.free
          (λ s. omega (arith, once q i, mem_times s, times_same i [])));
      is = rw (o, more);
      frame = frame_widen (frame_put m i (free_node f.first (f.count + 1))) (λ j s. here s);
      bytes = bytes_node m i (free_node f.first (f.count + 1)) q.bytes;
    }

-- AN INNER NODE

module _ (m : List ℕ) (n i h low : ℕ) (l r : Plan) (F : List ℕ) (q : Spot m n (node i h low l r) F) where
  -- the node, its sides and the free nodes: each number once
  pub counts : (j : ℕ) → times j (i ∷ []) + times j (numbers l) + times j (numbers r) + times j F ≤ 1
  counts j = omega (arith, once q j, times_append j (i ∷ []) (numbers l ++ numbers r), times_append j (numbers l) (numbers r))

  -- at most n in all
  pub nodes_in : suc (length (numbers l)) + length (numbers r) + length F ≤ n
  nodes_in = omega (arith, fits_in q, length-append (numbers l) (numbers r))

  -- all below n
  pub below_all : (j : ℕ) → n ≤ j → times j (numbers l) + times j (numbers r) + times j F ≡ 0
  below_all j g = omega (arith, below_times n (numbers (node i h low l r) ++ F) q.below j g, times_append j (numbers (node i h low l r)) F, times_append j (i ∷ []) (numbers l ++ numbers r), times_append j (numbers l) (numbers r))

  -- no node is on both sides
  pub apart : {j k : ℕ} → Mem j (numbers l) → Mem k (numbers r) → j ≢ k
  apart {j} {k} s t e = omega (arith, counts j, mem_times s, mem_times (subst⁻¹ (λ (z : ℕ). Mem z (numbers r)) e t))

  -- the left child's turn
  pub left_spot : Spot m n l F
  left_spot = record {
    small = q.small;
    room = q.room;
    bytes = q.bytes;
    holds = q.holds.1;
    falling = q.falling.2;
    free = q.free;
    below = times_below n (numbers l ++ F) (λ j g. omega (arith, below_all j g, times_append j (numbers l) F));
    distinct = times_distinct (numbers l ++ F) (λ j. omega (arith, counts j, times_append j (numbers l) F));
    fewer = omega (arith, nodes_in, length-append (numbers l) F);
  }

  module _ (limit : ℕ) (m1 : List ℕ) (r1 : Left) (d1 : Dropped m limit l F m1 r1) where
    -- then the right child's
    pub right_spot : Spot m1 n r (freed limit l F)
    right_spot = record {
      small = q.small;
      room = omega (arith, q.room, d1.frame.length_kept);
      bytes = d1.bytes;
      holds = holds_frame r m m1 q.holds.2 (λ j s. frame_node d1.frame j (λ k t. apart t s));
      falling = q.falling.3;
      free = d1.free;
      below = times_below n (numbers r ++ freed limit l F) (λ j g. omega (arith, below_all j g, times_append j (numbers r) (freed limit l F), drop_times j limit l F));
      distinct = times_distinct (numbers r ++ freed limit l F) (λ j. omega (arith, counts j, times_append j (numbers r) (freed limit l F), drop_times j limit l F));
      fewer = omega (arith, nodes_in, length-append (numbers r) (freed limit l F), drop-length limit l F);
    }
