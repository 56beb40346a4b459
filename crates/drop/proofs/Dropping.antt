-- The drop at an inner node, once both children had their turn: a side has gone and the node goes too, or the node stays above what is left.
-- Assumes nothing.
use Prim.Native.Nat.{ℕ, suc, ◌+◌, ◌^◌, ◌≤◌, ◌<◌}
use native.Mathlib.Omega.{arith}
use mathlib.Core.Path.{◌≡◌, refl, sym, ap, subst, subst⁻¹, subst₂, ◌∙◌}
use mathlib.Core.List.Memᴰ.{append_left as in_left}
use mathlib.Core.List.Memᴰ.{append_right as in_right}
use mathlib.Core.List.Memᴰ.{head as here}
use mathlib.Core.List.Memᴰ.{tail as there}
use mathlib.Core.List.{List, [], ◌∷◌, Memᴰ as Mem}
use mathlib.Core.Option.{Option, none, some}
use lib.ListN.{length}
use Rattle.std.specs.Prelude.{Some, None}
use Rattle.std.proofs.lemmas.Option.{none-some, same_Some}
use Rattle.nodes.specs.declared.node.Node.{Node}
use Rattle.nodes.specs.Nodes.{base, put_node}
use Rattle.nodes.specs.Mended.{mended}
use Rattle.nodes.specs.Laws.{bytes_node, node_fits}
use Rattle.pool.specs.Plan.{Plan, node, number, numbers, free_node}
use Rattle.pool.specs.Image.{HoldsTree, numbers_or}
use Rattle.pool.specs.Times.{times}
use Rattle.pool.proofs.Numbers.{times_same, times_below, mem_times}
use Rattle.pool.specs.Frame.{Frame}
use Rattle.pool.proofs.Frame.{frame_put, frame_widen, frame_then, frame_node, tree_frame, root_in}
use Rattle.pool.proofs.Words.{mended_holds}
use Rattle.pool.proofs.Headers.{first_small}
use Rattle.drop.specs.declared.tombstones.FreeNodes.{FreeNodes}
use Rattle.drop.specs.declared.tombstones.Left.{Left}
use Rattle.drop.specs.Drop.{join_plan, join_free, drop_plan, freed}
use Rattle.drop.specs.Spot.{root_of, free_of, Spot, Dropped}
use Rattle.drop.proofs.Plans.{drop_times, drop-length, left_mem}
use Rattle.drop.proofs.Moves.{put_tree, put_free, push_free}
use Rattle.drop.proofs.Spots.{tree_below, counts, nodes_in, below_all, apart}

-- no root is told where nothing is left
no_root : (X : Option Plan) → root_of X ≡ None → X ≡ none
no_root none e = refl
no_root (some U) e = absurd (none-some (number U) (sym e))

-- else the root of what is left
a_root : (X : Option Plan) (k : ℕ) → root_of X ≡ Some k → (U : Plan) × (X ≡ some U) × (number U ≡ k)
a_root none k e = absurd (none-some k e)
a_root (some U) k e = (U, refl, same_Some (number U) k e)

-- a side beside which nothing is left
join_none : (i h low : ℕ) (A : Option Plan) → join_plan i h low A none ≡ A
join_none i h low none = refl
join_none i h low (some a) = refl

free_none : (i : ℕ) (A : Option Plan) (F : List ℕ) → join_free i A none F ≡ i ∷ F
free_none i none F = refl
free_none i (some a) F = refl

module _ (m : List ℕ) (n i h low : ℕ) (l r : Plan) (F : List ℕ) (q : Spot m n (node i h low l r) F) (limit : ℕ) (m1 : List ℕ) (r1 : Left)
    (d1 : Dropped m limit l F m1 r1) (m2 : List ℕ) (r2 : Left) (d2 : Dropped m1 limit r (freed limit l F) m2 r2) where
  -- each number once, all below n, as at the start
  once_each : (j : ℕ) → times j (i ∷ []) + times j (numbers l) + times j (numbers r) + times j F ≤ 1
  once_each = counts m n i h low l r F q

  -- and all below n
  none_beyond : (j : ℕ) → n ≤ j → times j (numbers l) + times j (numbers r) + times j F ≡ 0
  none_beyond = below_all m n i h low l r F q

  -- the free nodes after both turns
  abbrev all_free : List ℕ
  all_free = freed limit r (freed limit l F)

  -- the right child's turn left the left side alone
  left_holds : HoldsTree m2 (drop_plan limit l)
  left_holds = tree_frame (drop_plan limit l) m1 m2 d1.holds (λ j s. frame_node d2.frame j (λ k t e. apart m n i h low l r F q (left_mem limit l s) t (sym e)))

  -- both turns touched only nodes of the tree
  whole : Frame m m2 (λ j. Mem j (numbers (node i h low l r)))
  whole = frame_then (frame_widen d1.frame (λ j s. there (in_left (numbers r) s))) (frame_widen d2.frame (λ j s. there (in_right (numbers l) s)))

  -- nodes lie in the bytes as before
  room_after : {j : ℕ} → j < n → base j + 32 ≤ length m2
  room_after b = omega (arith, q.room, whole.length_kept)

  -- node i is one of the pool's
  i_below : i < n
  i_below = tree_below q (here refl)

  -- a free number was in the tree or free before
  free_counts : (j : ℕ) → times j all_free ≤ times j (numbers l) + times j (numbers r) + times j F
  free_counts j = omega (arith, drop_times j limit r (freed limit l F), drop_times j limit l F)

  -- node i is not free
  not_free : Mem i all_free → ⊥
  not_free s = omega (arith, once_each i, free_counts i, mem_times s, times_same i [])

  -- nor in what is left of the left side
  not_left : Mem i (numbers_or (drop_plan limit l)) → ⊥
  not_left s = omega (arith, once_each i, mem_times (left_mem limit l s), times_same i [])

  -- nor of the right side
  not_right : Mem i (numbers_or (drop_plan limit r)) → ⊥
  not_right s = omega (arith, once_each i, mem_times (left_mem limit r s), times_same i [])

  -- these are they
  free_is : free_of all_free ≡ r2.free
  free_is = sym (ap (λ (x : Left). x.free) d2.is)

  -- there is room for one more rank
  count_small : r2.free.count + 1 ≤ n
  count_small = omega (arith, ap (λ (x : FreeNodes). x.count) free_is, drop-length limit r (freed limit l F), drop-length limit l F, nodes_in m n i h low l r F q)

  -- the first free node's number fits a word
  first_fits : r2.free.first < 2 ^ 32
  first_fits = subst (λ (x : FreeNodes). x.first < 2 ^ 32) free_is
      (first_small n all_free q.small (times_below n all_free (λ j g. omega (arith, free_counts j, none_beyond j g))))

  -- node i can be freed
  pub free_asks : (base i + 32 ≤ length m2) × (r2.free.count + 1 < 2 ^ 32)
  free_asks = (room_after i_below, omega (arith, count_small, q.small))

  -- the pool with node i freed, and the free nodes then
  abbrev freed_too : List ℕ
  freed_too = put_node m2 i (free_node r2.free.first (r2.free.count + 1))

  abbrev one_more : FreeNodes
  one_more = record { first = i; count = r2.free.count + 1 }

  -- a side has gone: node i goes too, and what is left is the other side
  gone : (A B : Option Plan) → drop_plan limit l ≡ A → drop_plan limit r ≡ B → (X : Option Plan) → join_plan i h low A B ≡ X → join_free i A B all_free ≡ i ∷ all_free
      → HoldsTree m2 X → (Mem i (numbers_or X) → ⊥) → Dropped m limit (node i h low l r) F freed_too (record { root = root_of X; free = one_more })
  unfolding drop_plan freed
  gone A B a b X x g p d =
      let more : r2.free.count + 1 ≡ suc (length all_free) = omega (arith, ap (λ (x : FreeNodes). x.count) free_is) in
      record {
        holds = rw (a, b, x) (put_tree m2 i (free_node r2.free.first (r2.free.count + 1)) X p d);
        free = rw (a, b, g) (push_free m2 i r2.free all_free (room_after i_below) free_is first_fits (omega (arith, count_small, q.small)) d2.free not_free);
        is = rw (a, b, x, g, more);
        frame = frame_then whole (frame_widen (frame_put m2 i (free_node r2.free.first (r2.free.count + 1))) (λ j s. here s));
        bytes = bytes_node m2 i (free_node r2.free.first (r2.free.count + 1)) d2.bytes;
      }

  -- the root of what is left is one of the pool's nodes
  root_below : (S : Plan) → ((j : ℕ) → Mem j (numbers S) → j < n) → (U : Plan) → drop_plan limit S ≡ some U → number U < n
  root_below S f U e = f (number U) (left_mem limit S (subst⁻¹ (λ (X : Option Plan). Mem (number U) (numbers_or X)) e (root_in U)))

  -- the numbers of the left side are below n
  left_below : (j : ℕ) → Mem j (numbers l) → j < n
  left_below j s = tree_below q (there (in_left (numbers r) s))

  -- and those of the right side
  right_below : (j : ℕ) → Mem j (numbers r) → j < n
  right_below j s = tree_below q (there (in_right (numbers l) s))

  -- the left side has gone: the right side is left
  pub left_gone : r1.root ≡ None → Dropped m limit (node i h low l r) F freed_too (record { root = r2.root; free = one_more })
  left_gone z =
      let a = no_root (drop_plan limit l) (sym (ap (λ (x : Left). x.root) d1.is) ∙ z) in
      rw (ap (λ (x : Left). x.root) d2.is) (gone none (drop_plan limit r) a refl (drop_plan limit r) refl refl d2.holds not_right)

  -- the right side has gone: the left side is left
  pub right_gone : r2.root ≡ None → Dropped m limit (node i h low l r) F freed_too (record { root = r1.root; free = one_more })
  right_gone z =
      let b = no_root (drop_plan limit r) (sym (ap (λ (x : Left). x.root) d2.is) ∙ z) in
      let A = drop_plan limit l in
      rw (ap (λ (x : Left). x.root) d1.is) (gone A none refl b A (join_none i h low A) (free_none i A all_free) left_holds not_left)

  -- both sides stay
  module _ (U W : Plan) (a : drop_plan limit l ≡ some U) (b : drop_plan limit r ≡ some W) where
    -- node i stands above what is left of them
    stay : Dropped m limit (node i h low l r) F (mended m2 i h low (number U) (number W)) (record { root = Some i; free = r2.free })
    unfolding drop_plan freed mended
    stay =
        let fits = node_fits m i q.bytes in
        let hs : h < 2 ^ 32 = subst (λ (x : Node). x.height < 2 ^ 32) q.holds.0 fits.0 in
        let ls : low < 2 ^ 32 = subst (λ (x : Node). x.low < 2 ^ 32) q.holds.0 fits.1.0 in
        let us : number U < 2 ^ 32 = omega (arith, root_below l left_below U a, q.small) in
        let ws : number W < 2 ^ 32 = omega (arith, root_below r right_below W b, q.small) in
        record {
          holds = rw (a, b) (mended_holds m2 i h low U W (room_after i_below) d2.bytes
              (subst (λ (X : Option Plan). HoldsTree m2 X) a left_holds) (subst (λ (X : Option Plan). HoldsTree m2 X) b d2.holds) hs ls us ws
              (λ s. not_left (subst⁻¹ (λ (X : Option Plan). Mem i (numbers_or X)) a s)) (λ s. not_right (subst⁻¹ (λ (X : Option Plan). Mem i (numbers_or X)) b s)));
          free = rw (a, b) (put_free m2 i _ all_free d2.free not_free);
          is = rw (a, b, free_is);
          frame = frame_then whole (frame_widen (frame_put m2 i _) (λ j s. here s));
          bytes = bytes_node m2 i _ d2.bytes;
        }

  -- as the code tells it, by the two roots
  module _ (left right : ℕ) (a : r1.root ≡ Some left) (b : r2.root ≡ Some right) where
    left_is : (U : Plan) × (drop_plan limit l ≡ some U) × (number U ≡ left)
    left_is = a_root (drop_plan limit l) left (sym (ap (λ (x : Left). x.root) d1.is) ∙ a)

    right_is : (U : Plan) × (drop_plan limit r ≡ some U) × (number U ≡ right)
    right_is = a_root (drop_plan limit r) right (sym (ap (λ (x : Left). x.root) d2.is) ∙ b)

    -- the three nodes lie in the bytes
    pub mend_asks : (base i + 32 ≤ length m2) × (base left + 32 ≤ length m2) × (base right + 32 ≤ length m2)
    mend_asks =
        let x = left_is in
        let y = right_is in
        (room_after i_below, room_after (subst (λ (j : ℕ). j < n) x.2 (root_below l left_below x.0 x.1)), room_after (subst (λ (j : ℕ). j < n) y.2 (root_below r right_below y.0 y.1)))

    pub both_stay : Dropped m limit (node i h low l r) F (mended m2 i h low left right) (record { root = Some i; free = r2.free })
    both_stay =
        let x = left_is in
        let y = right_is in
        subst₂ (λ (j k : ℕ). Dropped m limit (node i h low l r) F (mended m2 i h low j k) (record { root = Some i; free = r2.free })) x.2 y.2 (stay x.0 y.0 x.1 y.1)
