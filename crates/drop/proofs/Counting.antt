-- What the places of `count_below` and `count_old` ask, from what is known there.
-- Assumes nothing.
use Prim.Native.Nat.{ℕ, ◌+◌, ◌-◌, ◌*◌, ◌≤◌, ◌<◌}
use native.Mathlib.Omega.{arith}
use mathlib.Core.Path.{◌≡◌, refl, sym, ap, subst, ◌∙◌}
use mathlib.Core.Logic.{◌≢◌}
use mathlib.Core.List.{List, [], ◌∷◌, ◌++◌}
use mathlib.Core.Option.{Option, none, some}
use lib.ListN.{length, length-append}
use Rattle.nodes.specs.declared.node.Node.{Node}
use Rattle.nodes.specs.declared.header.Header.{Header}
use Rattle.nodes.specs.Nodes.{base, node_at, header_at}
use Rattle.rules.specs.Lists.{keep}
use Rattle.rules.specs.Tree.{entries, oldest}
use Rattle.rules.proofs.Tests.{keep_append}
use Rattle.pool.specs.Plan.{Plan, node, tree_in, number, numbers, root_node, no_node}
use Rattle.pool.specs.Subtree.{height_of}
use Rattle.pool.specs.Image.{Arrangement, Image, Fit, state_of, tree_or, root_or}
use Rattle.pool.proofs.Numbers.{times_append, below_part, below_mem}
use Rattle.pool.proofs.Frame.{root_holds, root_in}
use Rattle.pool.proofs.Words.{root_height, root_oldest}
use Rattle.drop.specs.Old.{old}
use Rattle.drop.specs.Spot.{StandsBelow, Standing, UpTo, Counted}
use Rattle.drop.proofs.Olds.{live_stays, tombstone_old, none_old, old_few}
use Rattle.drop.proofs.Fitting.{image_stands}
use Rattle.drop.proofs.Roots.{IsInner, as_tombstone, as_live, as_inner}

-- A NODE OF THE TREE

-- the root lies in the bytes
pub stands_room : (m : List ℕ) (n : ℕ) (T : Plan) → StandsBelow m n T → base (number T) + 32 ≤ length m
stands_room m n T s = let b = below_mem s.below (root_in T) in omega (arith, s.room)

-- so does node i
pub standing_room : (m : List ℕ) (i : ℕ) → Standing m i → base i + 32 ≤ length m
standing_room m i g = subst (λ (j : ℕ). base j + 32 ≤ length m) g.at (stands_room m g.count g.tree g.stands)

module _ (m : List ℕ) (n i h low : ℕ) (l r : Plan) (s : StandsBelow m n (node i h low l r)) where
  -- the keys of both sides are few together
  both : length (entries (tree_in l)) + length (entries (tree_in r)) ≤ 65536
  unfolding entries
  both = omega (arith, s.few, length-append (entries (tree_in l)) (entries (tree_in r)))

  -- each side stands by itself
  pub stands_left : StandsBelow m n l
  stands_left = record {
    small = s.small;
    room = s.room;
    holds = s.holds.1;
    falling = s.falling.2;
    below = below_part n (numbers (node i h low l r)) (numbers l) (λ j. omega (arith, times_append j (i ∷ []) (numbers l ++ numbers r), times_append j (numbers l) (numbers r))) s.below;
    few = omega (arith, both);
  }

  -- the right side too
  pub stands_right : StandsBelow m n r
  stands_right = record {
    small = s.small;
    room = s.room;
    holds = s.holds.2;
    falling = s.falling.3;
    below = below_part n (numbers (node i h low l r)) (numbers r) (λ j. omega (arith, times_append j (i ∷ []) (numbers l ++ numbers r), times_append j (numbers l) (numbers r))) s.below;
    few = omega (arith, both);
  }

-- EACH RETURN

-- a number that is all there is
exactly : {k r : ℕ} (most : ℕ) → r ≤ most → r ≡ k → UpTo most k r
exactly most l e = record { at_most = l; counted = omega arith; all = λ _. e }

module _ (m : List ℕ) (i limit : ℕ) (x : Node) (a : x ≡ node_at m i) where
  -- the node read is the tree's root
  word_of : (n : ℕ) (T : Plan) → number T ≡ i → StandsBelow m n T → x ≡ root_node T
  word_of n T at s = a ∙ ap (λ (j : ℕ). node_at m j) (sym at) ∙ root_holds T m s.holds

  -- the oldest tombstone is above the limit: nothing is old
  pub count_none : (most : ℕ) → limit < x.oldest → Counted m i limit most 0
  count_none most h n T at s =
      exactly most (omega arith) (sym (none_old limit (tree_in T) (omega (arith, root_oldest T, ap (λ (y : Node). y.oldest) (word_of n T at s)))))

  -- a tombstone at or below the limit is one
  pub count_tombstone : (most : ℕ) → 1 ≤ most → x.oldest ≤ limit → x.kind ≡ 2 → Counted m i limit most 1
  unfolding entries oldest
  count_tombstone most g h q n T at s =
      let o = as_tombstone i T at (ap (λ (y : Node). y.kind) (sym (word_of n T at s)) ∙ q) in
      let w : oldest (tree_in T) ≡ o.entry.position = ap (λ (T : Plan). oldest (tree_in T)) o.is ∙ rw o.payload in
      let v : x.oldest ≡ oldest (tree_in T) = ap (λ (y : Node). y.oldest) (word_of n T at s) ∙ root_oldest T in
      exactly most g (rw (o.is, tombstone_old limit o.entry o.payload (omega arith)))

  -- a live key is none
  pub count_live : (most : ℕ) → x.kind ≡ 1 → Counted m i limit most 0
  unfolding entries
  count_live most q n T at s =
      let o = as_live i T at (ap (λ (y : Node). y.kind) (sym (word_of n T at s)) ∙ q) in
      exactly most (omega arith) (rw (o.is, live_stays limit o.entry o.payload))

  module _ (p : x.kind ≢ 2) (q : x.kind ≢ 1) where
    -- any other node has two sides
    inner : (n : ℕ) (T : Plan) → number T ≡ i → StandsBelow m n T → IsInner i T
    inner n T at s = as_inner i T at (λ e. q (ap (λ (y : Node). y.kind) (word_of n T at s) ∙ e)) (λ e. p (ap (λ (y : Node). y.kind) (word_of n T at s) ∙ e))

    -- an inner node's sides, with what was known of the whole
    record Opened (n : ℕ) (T : Plan) : Type 0 where
      pub height : ℕ
      pub low : ℕ
      pub left : Plan
      pub right : Plan
      pub is : T ≡ node i height low left right
      pub stands : StandsBelow m n (node i height low left right)
      pub word : x ≡ root_node (node i height low left right)

    -- every tree at node i is of this form
    opened : (n : ℕ) (T : Plan) → number T ≡ i → StandsBelow m n T → Opened n T
    opened n T at s =
        let o = inner n T at s in
        record {
          height = o.height;
          low = o.low;
          left = o.left;
          right = o.right;
          is = o.is;
          stands = subst (λ (T : Plan). StandsBelow m n T) o.is s;
          word = word_of n T at s ∙ ap root_node o.is;
        }

    -- the two calls: each subtree stands, lower than the node
    pub asks_left : Standing m i → (t : ℕ) → (node_at m i).height ≡ t → ((node_at m x.left).height < t) × Standing m x.left
    asks_left g t u =
        let o = opened g.count g.tree g.at g.stands in
        let s = stands_left m g.count i o.height o.low o.left o.right o.stands in
        let at : number o.left ≡ x.left = ap (λ (y : Node). y.left) (sym o.word) in
        let lower : (node_at m x.left).height ≡ height_of (tree_in o.left) = ap (λ (j : ℕ). (node_at m j).height) (sym at) ∙ ap (λ (y : Node). y.height) (root_holds o.left m s.holds) ∙ root_height o.left in
        let high : (node_at m i).height ≡ o.height = ap (λ (y : Node). y.height) (sym a ∙ o.word) in
        (omega (arith, o.stands.falling.0), record { count = g.count; tree = o.left; at = at; stands = s })

    -- the right side too
    pub asks_right : Standing m i → (t : ℕ) → (node_at m i).height ≡ t → ((node_at m x.right).height < t) × Standing m x.right
    asks_right g t u =
        let o = opened g.count g.tree g.at g.stands in
        let s = stands_right m g.count i o.height o.low o.left o.right o.stands in
        let at : number o.right ≡ x.right = ap (λ (y : Node). y.right) (sym o.word) in
        let lower : (node_at m x.right).height ≡ height_of (tree_in o.right) = ap (λ (j : ℕ). (node_at m j).height) (sym at) ∙ ap (λ (y : Node). y.height) (root_holds o.right m s.holds) ∙ root_height o.right in
        let high : (node_at m i).height ≡ o.height = ap (λ (y : Node). y.height) (sym a ∙ o.word) in
        (omega (arith, o.stands.falling.1), record { count = g.count; tree = o.right; at = at; stands = s })

    -- the old tombstones of the whole are those of both sides
    both_old : (n : ℕ) (T : Plan) (o : Opened n T)
        → length (keep (old limit) (entries (tree_in T))) ≡ length (keep (old limit) (entries (tree_in o.left))) + length (keep (old limit) (entries (tree_in o.right)))
    unfolding entries
    both_old n T o = rw (o.is, keep_append (old limit) (entries (tree_in o.left)) (entries (tree_in o.right)), length-append)

    module _ (most c : ℕ) (f : Counted m x.left limit most c) where
      -- what the first call counted
      left_old : (n : ℕ) (T : Plan) (o : Opened n T) → UpTo most (length (keep (old limit) (entries (tree_in o.left)))) c
      left_old n T o = f n o.left (ap (λ (y : Node). y.left) (sym o.word)) (stands_left m n i o.height o.low o.left o.right o.stands)

      -- enough were found on the left
      pub count_enough : most ≤ c → Counted m i limit most c
      count_enough g n T at s =
          let o = opened n T at s in
          let y = left_old n T o in
          record { at_most = y.at_most; counted = omega (arith, y.counted, both_old n T o); all = λ l. absurd (omega arith) }

      module _ (d : ℕ) (e : Counted m x.right limit (most - c) d) (few : c < most) where
        -- what the second call counted
        right_old : (n : ℕ) (T : Plan) (o : Opened n T) → UpTo (most - c) (length (keep (old limit) (entries (tree_in o.right)))) d
        right_old n T o = e n o.right (ap (λ (y : Node). y.right) (sym o.word)) (stands_right m n i o.height o.low o.left o.right o.stands)

        -- the sum does not wrap
        pub count_fits : Standing m i → c + d < 4294967296
        count_fits g =
            let o = opened g.count g.tree g.at g.stands in
            omega (
              arith,
              (left_old g.count g.tree o).counted,
              (right_old g.count g.tree o).counted,
              old_few limit (entries (tree_in o.left)),
              old_few limit (entries (tree_in o.right)),
              both m g.count i o.height o.low o.left o.right o.stands,
            )

        -- and is what the whole holds
        pub count_both : Counted m i limit most (c + d)
        count_both n T at s =
            let o = opened n T at s in
            let y = left_old n T o in
            let z = right_old n T o in
            let w = both_old n T o in
            let l = y.all few in
            record { at_most = omega (arith, z.at_most); counted = omega (arith, y.counted, z.counted); all = λ k. omega (arith, z.all (omega arith)) }

-- THE WHOLE

-- a fit pool has a header
pub fit_room : (m : List ℕ) → Fit m → 64 ≤ length m
fit_room m g = omega (arith, g.image.size)

-- the header's root
module _ (m : List ℕ) (limit : ℕ) (h : Header) (e : h ≡ header_at m) where
  -- it is the arrangement's
  root_of : (A : Arrangement) → Image m A → h.root ≡ root_or A.tree
  root_of A g = ap (λ (y : Header). y.root) (e ∙ g.header)

  -- no tree's root is numbered as none
  root_small : (A : Arrangement) → Image m A → (T : Plan) → A.tree ≡ some T → number T ≢ no_node
  root_small A g T q z = let s = image_stands m A T g q in omega (arith, below_mem s.below (root_in T), s.small)

  -- no tree holds nothing old
  pub whole_none : (most : ℕ) → h.root ≡ no_node → (A : Arrangement) → Image m A → UpTo most (length (keep (old limit) (state_of A).kept)) 0
  unfolding entries
  whole_none most z A g = go A.tree refl
    where
      go : (X : Option Plan) → A.tree ≡ X → UpTo most (length (keep (old limit) (entries (tree_or X)))) 0
      go none q = exactly most (omega arith) refl
      go (some T) q = absurd (root_small A g T q (sym (ap root_or q) ∙ sym (root_of A g) ∙ z))

  -- the arrangement's tree stands at the root
  pub whole_stands : Fit m → h.root ≢ no_node → Standing m h.root
  whole_stands g z = go g.arrangement.tree refl
    where
      go : (X : Option Plan) → g.arrangement.tree ≡ X → Standing m h.root
      go none q = absurd (z (root_of g.arrangement g.image ∙ ap root_or q))
      go (some T) q = record { count = 2 * g.arrangement.N; tree = T; at = sym (ap root_or q) ∙ sym (root_of g.arrangement g.image); stands = image_stands m g.arrangement T g.image q }

  -- what was counted there is what the state has
  pub whole_count : (most c : ℕ) → h.root ≢ no_node → Counted m h.root limit most c → (A : Arrangement) → Image m A → UpTo most (length (keep (old limit) (state_of A).kept)) c
  whole_count most c z f A g = go A.tree refl
    where
      go : (X : Option Plan) → A.tree ≡ X → UpTo most (length (keep (old limit) (entries (tree_or X)))) c
      go none q = absurd (z (root_of A g ∙ ap root_or q))
      go (some T) q = f (2 * A.N) T (sym (ap root_or q) ∙ sym (root_of A g)) (image_stands m A T g q)
