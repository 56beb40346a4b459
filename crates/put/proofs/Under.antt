-- The way back: a node above a subtree in which the entry was stored, with newest and oldest mended.
-- Assumes nothing.
use Prim.Native.Nat.{ℕ, ◌+◌, ◌-◌, ◌^◌, ◌≤◌, ◌<◌}
use mathlib.Core.Path.{◌≡◌, refl, sym, ap, ◌∙◌, subst}
use mathlib.Core.Bool.{true, false}
use mathlib.Core.List.{List}
use native.Mathlib.Omega.{arith}
use lib.ListN.{length}
use lib.Dec.{eqb}
use Rattle.nodes.specs.declared.node.Node.{Node}
use Rattle.nodes.specs.Nodes.{base}
use Rattle.nodes.specs.Mended.{mended}
use Rattle.nodes.specs.Laws.{node_fits, bytes_node}
use Rattle.rules.specs.State.{Entry}
use Rattle.pool.specs.Plan.{Plan, node, number, numbers}
use Rattle.pool.specs.Image.{Holds}
use Rattle.pool.specs.Times.{bit, times}
use Rattle.pool.proofs.Numbers.{mem_times}
use Rattle.pool.specs.Frame.{Frame}
use Rattle.pool.proofs.Frame.{frame_put, frame_widen, frame_then, frame_node, holds_frame}
use Rattle.pool.proofs.Words.{mended_holds}
use Rattle.put.specs.declared.tree.AfterPut.{AfterPut}
use Rattle.put.specs.Storing.{covered, has, put_plan}
use Rattle.put.specs.Places.{Place, Done}
use Rattle.put.proofs.Steps.{times_node, bit_same, still_in, root_counted, small, falls_up}

-- a tree whose nodes were not written is as it was
pub other_holds : (O S : Plan) (m m1 : List ℕ) → Holds m O → Frame m m1 (λ j. 1 ≤ times j (numbers S)) → ((j : ℕ) → times j (numbers S) + times j (numbers O) ≤ 1) → Holds m1 O
other_holds O S m m1 q f once =
    holds_frame O m m1 q (λ j s. frame_node f j (λ k t d. omega (arith, once j, mem_times s, ap (λ (z : ℕ). times z (numbers S)) d)))

module _ (m : List ℕ) (i h low : ℕ) (l r : Plan) (e : Entry) (a b : ℕ) (p : Place m (node i h low l r) e a b) (c : covered low h e.key ≡ true) where
  room_i : base i + 32 ≤ length m
  room_i = p.inside i (still_in a b e (node i h low l r) i (root_counted (node i h low l r)))

  words_fit : (h < 2 ^ 32) × (low < 2 ^ 32)
  words_fit =
      let f = node_fits m i p.bytes in
      let q = p.holds.0 in
      (omega (arith, f.0, ap (λ (n : Node). n.height) q), omega (arith, f.1.0, ap (λ (n : Node). n.low) q))

  -- on the left
  module _ (d : covered low (h - 1) e.key ≡ true) where
    put_left : put_plan a b e (node i h low l r) ≡ node i h low (put_plan a b e l) r
    unfolding put_plan
    put_left = rw (c, d)

    has_left : has e.key (node i h low l r) ≡ has e.key l
    unfolding has
    has_left = rw (c, d)

    count_left : (j : ℕ) → times j (numbers (put_plan a b e (node i h low l r))) ≡ bit (eqb j i) + times j (numbers (put_plan a b e l)) + times j (numbers r)
    count_left j = ap (λ (P : Plan). times j (numbers P)) put_left ∙ times_node j i h low (put_plan a b e l) r

    -- what the descent asks of the subtree
    pub place_left : Place m l e a b
    place_left = record {
      bytes = p.bytes;
      size = p.size;
      holds = p.holds.1;
      falls = falls_up l (h - 1) 32 (omega (arith, p.falls.1)) p.falls.2;
      inside = λ j s. p.inside j (omega (arith, count_left j));
      once = λ j. omega (arith, p.once j, count_left j);
      leaf_fits = p.leaf_fits;
    }

    -- the numbers of the roots
    pub left_rooms : (base i + 32 ≤ length m) × (base (number (put_plan a b e l)) + 32 ≤ length m) × (base (number r) + 32 ≤ length m)
    left_rooms = (
      room_i,
      p.inside (number (put_plan a b e l)) (omega (arith, count_left (number (put_plan a b e l)), root_counted (put_plan a b e l))),
      p.inside (number r) (omega (arith, count_left (number r), root_counted r)),
    )

    -- the node above the stored subtree
    pub left_step : (m1 : List ℕ) (s : AfterPut) → Done m l e a b m1 s
        → Done m (node i h low l r) e a b (mended m1 i h low s.root (number r)) (record { root = i; new = s.new })
    unfolding mended
    left_step m1 s q =
        let rooms = left_rooms in
        let len = q.frame.length_kept in
        let above = count_left i in
        let most = p.once i in
        let self = bit_same i i refl in
        record {
          bytes = bytes_node m1 i _ q.bytes;
          holds = rw put_left (subst (λ (x : ℕ). Holds (mended m1 i h low x (number r)) (node i h low (put_plan a b e l) r)) (sym q.root_is) (mended_holds m1 i h low (put_plan a b e l) r (omega (arith, rooms.0)) q.bytes q.holds
              (other_holds r (put_plan a b e l) m m1 p.holds.2 q.frame (λ j. omega (arith, p.once j, count_left j)))
              words_fit.0 words_fit.1 (small p _ rooms.1) (small p _ rooms.2) (λ t. omega (arith, mem_times t)) (λ t. omega (arith, mem_times t))));
          root_is = rw put_left;
          new_is = rw has_left q.new_is;
          frame = frame_then (frame_widen q.frame (λ j t. omega (arith, count_left j))) (frame_widen (frame_put m1 i _) (λ j t. omega (arith, count_left j, bit_same j i t)));
        }

  -- on the right
  module _ (d : covered low (h - 1) e.key ≡ false) where
    put_right : put_plan a b e (node i h low l r) ≡ node i h low l (put_plan a b e r)
    unfolding put_plan
    put_right = rw (c, d)

    has_right : has e.key (node i h low l r) ≡ has e.key r
    unfolding has
    has_right = rw (c, d)

    count_right : (j : ℕ) → times j (numbers (put_plan a b e (node i h low l r))) ≡ bit (eqb j i) + times j (numbers l) + times j (numbers (put_plan a b e r))
    count_right j = ap (λ (P : Plan). times j (numbers P)) put_right ∙ times_node j i h low l (put_plan a b e r)

    -- what the descent asks of the subtree
    pub place_right : Place m r e a b
    place_right = record {
      bytes = p.bytes;
      size = p.size;
      holds = p.holds.2;
      falls = falls_up r (h - 1) 32 (omega (arith, p.falls.1)) p.falls.3;
      inside = λ j s. p.inside j (omega (arith, count_right j));
      once = λ j. omega (arith, p.once j, count_right j);
      leaf_fits = p.leaf_fits;
    }

    -- the numbers of the roots
    pub right_rooms : (base i + 32 ≤ length m) × (base (number l) + 32 ≤ length m) × (base (number (put_plan a b e r)) + 32 ≤ length m)
    right_rooms = (
      room_i,
      p.inside (number l) (omega (arith, count_right (number l), root_counted l)),
      p.inside (number (put_plan a b e r)) (omega (arith, count_right (number (put_plan a b e r)), root_counted (put_plan a b e r))),
    )

    -- the node above the stored subtree
    pub right_step : (m1 : List ℕ) (s : AfterPut) → Done m r e a b m1 s
        → Done m (node i h low l r) e a b (mended m1 i h low (number l) s.root) (record { root = i; new = s.new })
    unfolding mended
    right_step m1 s q =
        let rooms = right_rooms in
        let len = q.frame.length_kept in
        let above = count_right i in
        let most = p.once i in
        let self = bit_same i i refl in
        record {
          bytes = bytes_node m1 i _ q.bytes;
          holds = rw put_right (subst (λ (x : ℕ). Holds (mended m1 i h low (number l) x) (node i h low l (put_plan a b e r))) (sym q.root_is) (mended_holds m1 i h low l (put_plan a b e r) (omega (arith, rooms.0)) q.bytes
              (other_holds l (put_plan a b e r) m m1 p.holds.1 q.frame (λ j. omega (arith, p.once j, count_right j)))
              q.holds words_fit.0 words_fit.1 (small p _ rooms.1) (small p _ rooms.2) (λ t. omega (arith, mem_times t)) (λ t. omega (arith, mem_times t))));
          root_is = rw put_right;
          new_is = rw has_right q.new_is;
          frame = frame_then (frame_widen q.frame (λ j t. omega (arith, count_right j))) (frame_widen (frame_put m1 i _) (λ j t. omega (arith, count_right j, bit_same j i t)));
        }
