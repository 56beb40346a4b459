-- What the search knows at each return and at each call of itself. One law for each, over what the code has at hand there.
-- Assumes nothing.
use Prim.Native.Nat.{ℕ, ◌+◌, ◌^◌, ◌≤◌, ◌<◌}
use native.Mathlib.Omega.{arith}
use mathlib.Core.Path.{◌≡◌, sym, ap, subst, ◌∙◌}
use mathlib.Core.Bool.{Bool, true, false, not, ◌||◌}
use mathlib.Core.List.{List}
use mathlib.Core.Logic.{∥∥₁_elim}
use Rattle.std.proofs.Props.{props}
use lib.ListN.{length}
use Rattle.std.specs.Prelude.{Some, None}
use Rattle.std.specs.Option.{is_some}
use borrow.Author.Tests.{not-true, not-false}
use Rattle.nodes.specs.declared.node.Node.{Node}
use Rattle.nodes.specs.Nodes.{node_at}
use Rattle.rules.specs.Footprint.{meets}
use Rattle.rules.specs.Tree.{Walked, walk}
use Rattle.pool.specs.Plan.{Plan, leaf, node, tree_in, root_node}
use Rattle.pool.specs.Subtree.{StandsAt, Rooted, start_at}
use Rattle.pool.proofs.Words.{leaf_height}
use Rattle.pool.proofs.Subtree.{node_reads, stands_left, stands_right, Inner, inner, rooted_spans}
use Rattle.conflict_search.specs.declared.cursor.Cursors.{Cursors}
use Rattle.conflict_search.specs.declared.search.Progress.{Progress}
use Rattle.conflict_search.specs.Sorted.{Sorted, footprint}
use Rattle.conflict_search.specs.Cursor.{Passed, Reached, below_at}
use Rattle.conflict_search.specs.Search.{SearchReady, SearchedBelow}
use Rattle.conflict_search.specs.Conflict.{leaves_of, first_hit}
use Rattle.conflict_search.proofs.Hit.{no_some, walk_tells}
use Rattle.conflict_search.proofs.Meeting.{passed_on, passed_more, cursors_meet}
use Rattle.conflict_search.proofs.Trees.{meets_root, stop_old, stop_away, hit_leaf, walk_left, walk_right, few_nodes}

-- the looks are few: each node is looked at once at most
pub few_looks : {m : List ℕ} {i s : ℕ} {keys lows highs : List ℕ} {from : Cursors} {r : Progress}
    → Rooted m i → SearchedBelow m i s keys lows highs from r → r.looks ≤ 131072
few_looks {s = s} {keys = keys} {lows = lows} {highs = highs} w x =
    omega (arith, x.looks w.plan w.stands, few_nodes s (footprint keys lows highs) w.plan, w.stands.few)

-- a height is at most 32
pub height_in : {m : List ℕ} {i : ℕ} {n : Node} {keys lows highs : List ℕ} {from : Cursors} → n ≡ node_at m i → SearchReady m i keys lows highs from → n.height ≤ 32
height_in e w = omega (arith, (rooted_spans w.rooted).high, ap (λ (x : Node). x.height) e)

module _ {m : List ℕ} {i : ℕ} {n : Node} (e : n ≡ node_at m i) (s : ℕ) {keys lows highs : List ℕ} {from : Cursors} (w : SearchReady m i keys lows highs from) where
  -- the node's words are those of any tree that stands there
  start_is : n.low ≡ start_at m i
  start_is = ap (λ (x : Node). x.low) e

  reads : (T : Plan) → StandsAt m i T → n ≡ root_node T
  reads T st = e ∙ node_reads T st

  -- the walk stopped at once
  stopped : {p c : ℕ} → ((T : Plan) → StandsAt m i T → walk s (footprint keys lows highs) (tree_in T) ≡ record { found = false; looks = 1 })
      → from.point ≤ p → from.scan ≤ c → p ≤ length keys → c ≤ length highs → Passed keys p (start_at m i) → Passed highs c (start_at m i)
      → SearchedBelow m i s keys lows highs from (record { leaf = None; looks = 1; cursors = record { point = p; scan = c } })
  stopped {p} {c} f a b a' b' u v = record {
    leaf = λ T st. sym (no_some (first_hit s (footprint keys lows highs) (leaves_of T)) (sym (walk_tells s (footprint keys lows highs) T st) ∙ ap (λ (x : Walked). x.found) (f T st)));
    looks = λ T st. sym (ap (λ (x : Walked). x.looks) (f T st));
    point_on = a;
    scan_on = b;
    point_in = a';
    scan_in = b';
    points = passed_more keys (omega arith) u;
    scans = passed_more highs (omega arith) v;
  }

  -- newest is not above s
  pub at_old : n.newest ≤ s → SearchedBelow m i s keys lows highs from (record { leaf = None; looks = 1; cursors = from })
  at_old h = stopped (λ T st. stop_old s (footprint keys lows highs) T (omega (arith, ap (λ (x : Node). x.newest) (reads T st))))
      (omega arith) (omega arith) w.point_in w.scan_in w.points w.scans

  module _ (so : ∥ Sorted keys lows highs ∥₁) {p c t : ℕ} {b : Bool} (x : Reached keys from.point n.low p) (y : Reached highs from.scan n.low c)
      (z : t ≡ n.low + 2 ^ n.height) (u : b ≡ below_at keys p t || below_at lows c t) where
    -- the cursors have passed what lies before the cover
    points_passed : Passed keys p n.low
    points_passed = passed_on (passed_more keys (omega (arith, start_is)) w.points) x

    scans_passed : Passed highs c n.low
    scans_passed = passed_on (passed_more highs (omega (arith, start_is)) w.scans) y

    -- the test at the cursors is the test of what the node covers
    tested : (T : Plan) → StandsAt m i T → b ≡ meets_root (footprint keys lows highs) T
    tested T st = subst (λ (y : Node). b ≡ meets (footprint keys lows highs) y.low (y.low + 2 ^ y.height)) (reads T st)
        (u ∙ ap (λ (k : ℕ). below_at keys p k || below_at lows c k) z
        ∙ ∥∥₁_elim so (Prim.hlevel props) (λ s. cursors_meet n.low (n.low + 2 ^ n.height) s (passed_more keys (omega (arith, start_is)) w.points) (passed_more highs (omega (arith, start_is)) w.scans) x y))

    -- nothing lies in the cover
    pub at_away : not b ≡ true → SearchedBelow m i s keys lows highs from (record { leaf = None; looks = 1; cursors = record { point = p; scan = c } })
    at_away h = stopped (λ T st. stop_away s (footprint keys lows highs) T (sym (tested T st) ∙ not-true b h))
        x.on y.on x.within y.within (passed_more keys (omega (arith, start_is)) points_passed) (passed_more highs (omega (arith, start_is)) scans_passed)

    module _ (new : s < n.newest) (h : not b ≡ false) where
      -- any tree there is newer than s, and something lies in its cover
      newer : (T : Plan) → StandsAt m i T → s < (root_node T).newest
      newer T st = omega (arith, ap (λ (x : Node). x.newest) (reads T st))

      touching : (T : Plan) → StandsAt m i T → meets_root (footprint keys lows highs) T ≡ true
      touching T st = sym (tested T st) ∙ not-false b h

      -- a leaf that is not stopped at
      pub at_leaf : n.height ≡ 0 → SearchedBelow m i s keys lows highs from (record { leaf = Some i; looks = 1; cursors = record { point = p; scan = c } })
      at_leaf q = record {
        leaf = λ T st. (at T st).0;
        looks = λ T st. (at T st).1;
        point_on = x.on;
        scan_on = y.on;
        point_in = x.within;
        scan_in = y.within;
        points = passed_more keys (omega (arith, start_is)) points_passed;
        scans = passed_more highs (omega (arith, start_is)) scans_passed;
      }
        where
          at : (T : Plan) → StandsAt m i T → (Some i ≡ first_hit s (footprint keys lows highs) (leaves_of T)) × (1 ≡ (walk s (footprint keys lows highs) (tree_in T)).looks)
          at T st = hit_leaf s (footprint keys lows highs) T st (sym (ap (λ (x : Node). x.height) (reads T st)) ∙ q) (newer T st) (touching T st)

      module _ (up : n.height ≡ 0 → ⊥) where
        -- the node is an inner one
        kids : Inner m i
        kids = inner w.rooted (λ q. up (ap (λ (x : Node). x.height) e ∙ q))

        left_is : n.left ≡ (node_at m i).left
        left_is = ap (λ (x : Node). x.left) e

        right_is : n.right ≡ (node_at m i).right
        right_is = ap (λ (x : Node). x.right) e

        -- the call for the left child
        pub ready_left : SearchReady m n.left keys lows highs (record { point = p; scan = c })
        ready_left = subst (λ (j : ℕ). SearchReady m j keys lows highs (record { point = p; scan = c })) (sym left_is) (record {
          rooted = kids.left;
          point_in = x.within;
          scan_in = y.within;
          points = passed_more keys (omega (arith, start_is, kids.left_from)) points_passed;
          scans = passed_more highs (omega (arith, start_is, kids.left_from)) scans_passed;
        })

        pub down_left : (q : ℕ) → (node_at m i).height ≡ q → ((node_at m n.left).height < q) × SearchReady m n.left keys lows highs (record { point = p; scan = c })
        down_left q g = (subst (λ (j : ℕ). (node_at m j).height < q) (sym left_is) (omega (arith, kids.lower_left)), ready_left)

        module _ {a : Progress} (ra : SearchedBelow m n.left s keys lows highs (record { point = p; scan = c }) a) where
          left_done : SearchedBelow m (node_at m i).left s keys lows highs (record { point = p; scan = c }) a
          left_done = subst (λ (j : ℕ). SearchedBelow m j s keys lows highs (record { point = p; scan = c }) a) left_is ra

          -- the conflict was found on the left
          pub at_left : is_some a.leaf ≡ true → SearchedBelow m i s keys lows highs from (record { leaf = a.leaf; looks = a.looks + 1; cursors = a.cursors })
          at_left d = record {
            leaf = λ T st. (go T st).0;
            looks = λ T st. (go T st).1;
            point_on = omega (arith, x.on, left_done.point_on);
            scan_on = omega (arith, y.on, left_done.scan_on);
            point_in = left_done.point_in;
            scan_in = left_done.scan_in;
            points = passed_more keys (omega (arith, kids.left_to, kids.right_from, kids.right_to)) left_done.points;
            scans = passed_more highs (omega (arith, kids.left_to, kids.right_from, kids.right_to)) left_done.scans;
          }
            where
              go : (T : Plan) → StandsAt m i T → (a.leaf ≡ first_hit s (footprint keys lows highs) (leaves_of T)) × (a.looks + 1 ≡ (walk s (footprint keys lows highs) (tree_in T)).looks)
              go (leaf j v) st = absurd (up (ap (λ (x : Node). x.height) (reads (leaf j v) st) ∙ leaf_height v.key v.position v.payload))
              go (node j k low l r) st = walk_left s (footprint keys lows highs) st (newer (node j k low l r) st) (touching (node j k low l r) st)
                  (left_done.leaf l (stands_left st)) (left_done.looks l (stands_left st)) d

          -- the call for the right child
          pub ready_right : SearchReady m n.right keys lows highs a.cursors
          ready_right = subst (λ (j : ℕ). SearchReady m j keys lows highs a.cursors) (sym right_is) (record {
            rooted = kids.right;
            point_in = left_done.point_in;
            scan_in = left_done.scan_in;
            points = passed_more keys (omega (arith, kids.left_to, kids.right_from)) left_done.points;
            scans = passed_more highs (omega (arith, kids.left_to, kids.right_from)) left_done.scans;
          })

          pub down_right : (q : ℕ) → (node_at m i).height ≡ q → ((node_at m n.right).height < q) × SearchReady m n.right keys lows highs a.cursors
          down_right q g = (subst (λ (j : ℕ). (node_at m j).height < q) (sym right_is) (omega (arith, kids.lower_right)), ready_right)

          -- both children were searched
          pub at_both : {b : Progress} → SearchedBelow m n.right s keys lows highs a.cursors b → is_some a.leaf ≡ false
              → SearchedBelow m i s keys lows highs from (record { leaf = b.leaf; looks = a.looks + b.looks + 1; cursors = b.cursors })
          at_both {b} rb d = record {
            leaf = λ T st. (go T st).0;
            looks = λ T st. (go T st).1;
            point_on = omega (arith, x.on, left_done.point_on, right_done.point_on);
            scan_on = omega (arith, y.on, left_done.scan_on, right_done.scan_on);
            point_in = right_done.point_in;
            scan_in = right_done.scan_in;
            points = passed_more keys kids.right_to right_done.points;
            scans = passed_more highs kids.right_to right_done.scans;
          }
            where
              right_done : SearchedBelow m (node_at m i).right s keys lows highs a.cursors b
              right_done = subst (λ (j : ℕ). SearchedBelow m j s keys lows highs a.cursors b) right_is rb

              go : (T : Plan) → StandsAt m i T → (b.leaf ≡ first_hit s (footprint keys lows highs) (leaves_of T)) × (a.looks + b.looks + 1 ≡ (walk s (footprint keys lows highs) (tree_in T)).looks)
              go (leaf j v) st = absurd (up (ap (λ (x : Node). x.height) (reads (leaf j v) st) ∙ leaf_height v.key v.position v.payload))
              go (node j k low l r) st = walk_right s (footprint keys lows highs) st (newer (node j k low l r) st) (touching (node j k low l r) st)
                  (left_done.leaf l (stands_left st)) (left_done.looks l (stands_left st)) d (right_done.leaf r (stands_right st)) (right_done.looks r (stands_right st))
