-- What the places of `drop_below` ask, from what its calls ensure.
-- Assumes nothing.
use Prim.Native.Nat.{ℕ, ◌+◌, ◌^◌, ◌≤◌, ◌<◌}
use native.Mathlib.Omega.{arith}
use mathlib.Core.Path.{◌≡◌, sym, ap, subst, ◌∙◌}
use mathlib.Core.Logic.{◌≢◌}
use mathlib.Core.List.{List}
use mathlib.Core.Option.{some}
use lib.ListN.{length}
use Rattle.std.specs.Prelude as Code
use Rattle.std.specs.Prelude.{Some, None}
use Rattle.nodes.specs.declared.node.Node.{Node}
use Rattle.nodes.specs.Nodes.{base, node_at, put_node}
use Rattle.nodes.specs.Mended.{mended}
use Rattle.rules.specs.Tree.{oldest}
use Rattle.pool.specs.Plan.{Plan, leaf, node, tree_in, number, root_node, free_node}
use Rattle.pool.specs.Subtree.{height_of}
use Rattle.pool.proofs.Frame.{root_holds, root_in}
use Rattle.pool.proofs.Words.{root_height, root_oldest}
use Rattle.drop.specs.declared.tombstones.FreeNodes.{FreeNodes}
use Rattle.drop.specs.declared.tombstones.Left.{Left}
use Rattle.drop.specs.Drop.{drop_plan, freed}
use Rattle.drop.specs.Spot.{free_of, FreedNode, Spot, DropReady, Dropped, Drops}
use Rattle.drop.proofs.Olds.{live_stays, tombstone_old}
use Rattle.drop.proofs.Plans.{drop_none, freed_none}
use Rattle.drop.proofs.Roots.{as_tombstone, as_live, as_inner}
use Rattle.drop.proofs.Spots.{tree_room, fits_in, drop_same, drop_leaf, left_spot, right_spot}
use Rattle.drop.proofs.Dropping.{free_asks, left_gone, right_gone, mend_asks, both_stay}

-- node i lies in the bytes
pub ready_room : (m : List ℕ) (i : ℕ) (f : FreeNodes) → DropReady m i f → base i + 32 ≤ length m
ready_room m i f g = subst (λ (j : ℕ). base j + 32 ≤ length m) g.at (tree_room g.spot (root_in g.tree))

-- and can be freed
pub ready_asks : (m : List ℕ) (i : ℕ) (f : FreeNodes) → DropReady m i f → (base i + 32 ≤ length m) × (f.count + 1 < 2 ^ 32)
ready_asks m i f g = (ready_room m i f g, omega (arith, ap (λ (x : FreeNodes). x.count) g.beside, fits_in g.spot, g.spot.small))

-- node i was freed last
after_freed : {m m' : List ℕ} {T : Plan} {F : List ℕ} {limit i : ℕ} {f : FreeNodes} {m'' : List ℕ} {f' : FreeNodes} {root : Code.Option ℕ} → FreedNode m' i f m'' f'
    → Dropped m limit T F (put_node m' i (free_node f.first (f.count + 1))) (record { root = root; free = record { first = i; count = f.count + 1 } })
    → Dropped m limit T F m'' (record { root = root; free = f' })
after_freed g d = rw (g.bytes_are, g.is) d

module _ (m : List ℕ) (i limit : ℕ) (f : FreeNodes) (x : Node) (a : x ≡ node_at m i) where
  -- the node read is the tree's root
  word_of : {n : ℕ} {T : Plan} {F : List ℕ} → number T ≡ i → Spot m n T F → x ≡ root_node T
  word_of {T = T} at q = a ∙ ap (λ (j : ℕ). node_at m j) (sym at) ∙ root_holds T m q.holds

  -- EACH RETURN AT A LEAF, OR WHERE NOTHING IS OLD

  -- the oldest tombstone is above the limit: all is left as it is
  pub keep_young_tree : limit < x.oldest → Drops m i limit f m (record { root = Some i; free = f })
  keep_young_tree h n T F at beside q =
      let o : limit < oldest (tree_in T) = omega (arith, root_oldest T, ap (λ (y : Node). y.oldest) (word_of at q)) in
      drop_same limit i f q at beside (drop_none limit T o) (freed_none limit T F o)

  -- a live key stays
  pub keep_live : x.kind ≡ 1 → Drops m i limit f m (record { root = Some i; free = f })
  unfolding drop_plan freed
  keep_live z n T F at beside q =
      let o = as_live i T at (ap (λ (y : Node). y.kind) (sym (word_of at q)) ∙ z) in
      let p : drop_plan limit T ≡ some T = rw (o.is, live_stays limit o.entry o.payload) in
      let g : freed limit T F ≡ F = rw (o.is, live_stays limit o.entry o.payload) in
      drop_same limit i f q at beside p g

  -- a tombstone at or below the limit goes
  pub drop_tombstone : x.oldest ≤ limit → x.kind ≡ 2 → (m' : List ℕ) (f' : FreeNodes) → FreedNode m i f m' f' → Drops m i limit f m' (record { root = None; free = f' })
  unfolding oldest
  drop_tombstone h z m' f' g n T F at beside q =
      let o = as_tombstone i T at (ap (λ (y : Node). y.kind) (sym (word_of at q)) ∙ z) in
      let w : oldest (tree_in T) ≡ o.entry.position = ap (λ (T : Plan). oldest (tree_in T)) o.is ∙ rw o.payload in
      let v : x.oldest ≡ oldest (tree_in T) = ap (λ (y : Node). y.oldest) (word_of at q) ∙ root_oldest T in
      let s : Spot m n (leaf i o.entry) F = subst (λ (T : Plan). Spot m n T F) o.is q in
      rw o.is (after_freed g (drop_leaf limit f s beside (tombstone_old limit o.entry o.payload (omega arith))))

  -- AN INNER NODE

  module _ (p : x.kind ≢ 1) (z : x.kind ≢ 2) where
    -- an inner node's sides, with what was known of the whole
    record Opened (n : ℕ) (T : Plan) (F : List ℕ) : Type 0 where
      pub height : ℕ
      pub low : ℕ
      pub left : Plan
      pub right : Plan
      pub is : T ≡ node i height low left right
      pub spot : Spot m n (node i height low left right) F
      pub word : x ≡ root_node (node i height low left right)

    -- every tree at node i is of this form
    opened : (n : ℕ) (T : Plan) (F : List ℕ) → number T ≡ i → Spot m n T F → Opened n T F
    opened n T F at q =
        let w = word_of at q in
        let o = as_inner i T at (λ e. p (ap (λ (y : Node). y.kind) w ∙ e)) (λ e. z (ap (λ (y : Node). y.kind) w ∙ e)) in
        record {
          height = o.height;
          low = o.low;
          left = o.left;
          right = o.right;
          is = o.is;
          spot = subst (λ (T : Plan). Spot m n T F) o.is q;
          word = w ∙ ap root_node o.is;
        }

    -- a side is lower than the node
    falls : {n : ℕ} {T : Plan} {F : List ℕ} (o : Opened n T F) (S : Plan) (m' : List ℕ) (j t : ℕ) → (node_at m i).height ≡ t → height_of (tree_in S) < o.height
        → number S ≡ j → node_at m' (number S) ≡ root_node S → (node_at m' j).height < t
    falls o S m' j t u l e b =
        let lower : (node_at m' j).height ≡ height_of (tree_in S) = ap (λ (j : ℕ). (node_at m' j).height) (sym e) ∙ ap (λ (y : Node). y.height) b ∙ root_height S in
        let high : (node_at m i).height ≡ o.height = ap (λ (y : Node). y.height) (sym a ∙ o.word) in
        omega arith

    -- the left child's turn
    pub asks_left : DropReady m i f → (t : ℕ) → (node_at m i).height ≡ t → ((node_at m x.left).height < t) × DropReady m x.left f
    asks_left g t u =
        let o = opened g.count g.tree g.list g.at g.spot in
        let s = left_spot m g.count i o.height o.low o.left o.right g.list o.spot in
        let at : number o.left ≡ x.left = ap (λ (y : Node). y.left) (sym o.word) in (
          falls o o.left m x.left t u o.spot.falling.0 at (root_holds o.left m s.holds),
          record { count = g.count; tree = o.left; list = g.list; at = at; beside = g.beside; spot = s },
        )

    module _ (m1 : List ℕ) (r1 : Left) (d1 : Drops m x.left limit f m1 r1) where
      -- what the left child's turn left behind
      one : {n : ℕ} {T : Plan} {F : List ℕ} (o : Opened n T F) → free_of F ≡ f → Dropped m limit o.left F m1 r1
      one {n} {T} {F} o beside =
          d1 n o.left F (ap (λ (y : Node). y.left) (sym o.word)) beside (left_spot m n i o.height o.low o.left o.right F o.spot)

      -- then the right child's
      pub asks_right : DropReady m i f → (t : ℕ) → (node_at m i).height ≡ t → ((node_at m1 x.right).height < t) × DropReady m1 x.right r1.free
      asks_right g t u =
          let o = opened g.count g.tree g.list g.at g.spot in
          let d = one o g.beside in
          let s = right_spot m g.count i o.height o.low o.left o.right g.list o.spot limit m1 r1 d in
          let at : number o.right ≡ x.right = ap (λ (y : Node). y.right) (sym o.word) in (
            falls o o.right m1 x.right t u o.spot.falling.1 at (root_holds o.right m1 s.holds),
            record { count = g.count; tree = o.right; list = freed limit o.left g.list; at = at; beside = sym (ap (λ (y : Left). y.free) d.is); spot = s },
          )

      module _ (m2 : List ℕ) (r2 : Left) (d2 : Drops m1 x.right limit r1.free m2 r2) where
        -- what the right child's turn left behind
        two : {n : ℕ} {T : Plan} {F : List ℕ} (o : Opened n T F) → free_of F ≡ f → Dropped m1 limit o.right (freed limit o.left F) m2 r2
        two {n} {T} {F} o beside =
            let d = one o beside in
            d2 n o.right (freed limit o.left F) (ap (λ (y : Node). y.right) (sym o.word)) (sym (ap (λ (y : Left). y.free) d.is))
            (right_spot m n i o.height o.low o.left o.right F o.spot limit m1 r1 d)

        -- node i can be freed
        pub asks_free : DropReady m i f → (base i + 32 ≤ length m2) × (r2.free.count + 1 < 2 ^ 32)
        asks_free g =
            let o = opened g.count g.tree g.list g.at g.spot in
            free_asks m g.count i o.height o.low o.left o.right g.list o.spot limit m1 r1 (one o g.beside) m2 r2 (two o g.beside)

        -- node i can be mended
        pub asks_mend : DropReady m i f → (left right : ℕ) → r1.root ≡ Some left → r2.root ≡ Some right
            → (base i + 32 ≤ length m2) × (base left + 32 ≤ length m2) × (base right + 32 ≤ length m2)
        asks_mend g left right y z =
            let o = opened g.count g.tree g.list g.at g.spot in
            mend_asks m g.count i o.height o.low o.left o.right g.list o.spot limit m1 r1 (one o g.beside) m2 r2 (two o g.beside) left right y z

        -- the left side has gone
        pub drop_left : r1.root ≡ None → (m' : List ℕ) (f' : FreeNodes) → FreedNode m2 i r2.free m' f' → Drops m i limit f m' (record { root = r2.root; free = f' })
        drop_left y m' f' g n T F at beside q =
            let o = opened n T F at q in
            rw o.is (after_freed g (left_gone m n i o.height o.low o.left o.right F o.spot limit m1 r1 (one o beside) m2 r2 (two o beside) y))

        -- the right side has gone
        pub drop_right : r2.root ≡ None → (m' : List ℕ) (f' : FreeNodes) → FreedNode m2 i r2.free m' f' → Drops m i limit f m' (record { root = r1.root; free = f' })
        drop_right y m' f' g n T F at beside q =
            let o = opened n T F at q in
            rw o.is (after_freed g (right_gone m n i o.height o.low o.left o.right F o.spot limit m1 r1 (one o beside) m2 r2 (two o beside) y))

        -- neither side has gone
        pub drop_none_of_two : (left right : ℕ) → r1.root ≡ Some left → r2.root ≡ Some right → (m' : List ℕ) → m' ≡ mended m2 i x.height x.low left right
            → Drops m i limit f m' (record { root = Some i; free = r2.free })
        drop_none_of_two left right y z m' e n T F at beside q =
            let o = opened n T F at q in
            let w : mended m2 i x.height x.low left right ≡ mended m2 i o.height o.low left right = ap (λ (y : Node). mended m2 i y.height y.low left right) o.word in
            rw (o.is, e ∙ w) (both_stay m n i o.height o.low o.left o.right F o.spot limit m1 r1 (one o beside) m2 r2 (two o beside) left right y z)
