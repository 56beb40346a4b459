-- What the places of the descent ask, from what its calls ensure: one law for each call and each return.
-- Assumes nothing.
use Prim.Native.Nat.{ℕ, ◌+◌, ◌-◌, ◌≤◌, ◌<◌}
use mathlib.Core.Path.{◌≡◌, refl, sym, ap, ◌∙◌, subst}
use mathlib.Core.Bool.{Bool, true, false}
use mathlib.Core.Logic.{◌≢◌}
use mathlib.Core.List.{List}
use native.Mathlib.Omega.{arith}
use lib.ListN.{length}
use Rattle.nodes.specs.declared.node.Node.{Node}
use Rattle.nodes.specs.Nodes.{base, node_at, put_node}
use Rattle.nodes.specs.Mended.{mended}
use Rattle.rules.specs.State.{Entry}
use Rattle.rules.specs.Tree.{first}
use Rattle.pool.specs.Plan.{Plan, leaf, node, tree_in, number, root_node}
use Rattle.pool.specs.Subtree.{height_of}
use Rattle.pool.specs.Image.{Holds}
use Rattle.pool.proofs.Frame.{root_holds}
use Rattle.put.specs.declared.tree.AfterPut.{AfterPut}
use Rattle.put.specs.Storing.{covered}
use Rattle.put.specs.Writes.{split_mem}
use Rattle.put.specs.Places.{leaf_of, Falls, Place, PutReady, Puts}
use Rattle.pool.proofs.Words.{root_height, root_low}
use Rattle.put.proofs.Roots.{entry_low}
use Rattle.put.proofs.Steps.{still_in, root_counted, has_not, room_a, room_b, leaf_step, split_step}
use Rattle.put.proofs.Under.{place_left, place_right, left_rooms, right_rooms, left_step, right_step}

falls_height : (T : Plan) (t : ℕ) → Falls t T → height_of (tree_in T) ≤ t
falls_height (leaf i x) t f = omega arith
falls_height (node i h low l r) t f = f.1

module _ (m : List ℕ) (i : ℕ) (l : Node) (a b : ℕ) where
  -- what was read is the root's words
  read_root : (n : Node) → n ≡ node_at m i → (T : Plan) → number T ≡ i → Holds m T → n ≡ root_node T
  read_root n q T at h = q ∙ ap (λ (z : ℕ). node_at m z) (sym at) ∙ root_holds T m h

  -- and a test on them is one of the root
  test_root : (n : Node) (T : Plan) (e : Entry) (t : Bool) → n ≡ root_node T → l ≡ leaf_of e → covered n.low n.height l.low ≡ t → covered (first (tree_in T)) (height_of (tree_in T)) e.key ≡ t
  test_root n T e t v is c = rw (← root_low T, ← root_height T, ← entry_low e, ← v, ← is) c

  test_half : (n : Node) (j h low : ℕ) (x y : Plan) (e : Entry) (t : Bool) → n ≡ root_node (node j h low x y) → l ≡ leaf_of e → covered n.low (n.height - 1) l.low ≡ t → covered low (h - 1) e.key ≡ t
  test_half n j h low x y e t v is c = rw (← entry_low e, ← is) (ap (λ (k : Node). covered k.low (k.height - 1) l.low) (sym v) ∙ c)

  -- WHAT THE FIRST CALLS ASK

  pub ready_room : PutReady m i l a b → base i + 32 ≤ length m
  ready_room g = subst (λ (j : ℕ). base j + 32 ≤ length m) g.at
      (g.place.inside (number g.tree) (still_in a b g.entry g.tree (number g.tree) (root_counted g.tree)))

  pub split_rooms : PutReady m i l a b → (n : Node) → n ≡ node_at m i → covered n.low n.height l.low ≡ false → (base a + 32 ≤ length m) × (base b + 32 ≤ length m)
  split_rooms g n q c =
      let v = read_root n q g.tree g.at g.place.holds in
      let h = has_not g.entry g.tree (test_root n g.tree g.entry false v g.is c) in
      (room_a m g.tree g.entry a b g.place h, room_b m g.tree g.entry a b g.place h)

  -- THE TWO ENDS OF THE DESCENT

  pub leaf_case : (n : Node) → n ≡ node_at m i → covered n.low n.height l.low ≡ true → n.height ≡ 0 → (m' : List ℕ) → m' ≡ put_node m i l → Puts m i l a b m' (record { root = i; new = false })
  leaf_case n q c z m' w (leaf j x) e at is p =
      let v = read_root n q (leaf j x) at p.holds in
      rw (w, is, ← at) (leaf_step m j x e a b p (test_root n (leaf j x) e true v is c))
  leaf_case n q c z m' w (node j h low x y) e at is p =
      let v = read_root n q (node j h low x y) at p.holds in
      absurd (omega (arith, p.falls.0, ap (λ (k : Node). k.height) v))

  pub split_case : (n : Node) → n ≡ node_at m i → covered n.low n.height l.low ≡ false → (m' : List ℕ) → m' ≡ split_mem m i n l a b → Puts m i l a b m' (record { root = a; new = true })
  split_case n q c m' w T e at is p =
      let v = read_root n q T at p.holds in
      let d = test_root n T e false v is c in
      rw (w, v, is, ← at) (split_step m T e a b p (has_not e T d) d)

  -- ON THE LEFT

  module _ (n : Node) (q : n ≡ node_at m i) (c : covered n.low n.height l.low ≡ true) (z : n.height ≢ 0) where
    no_leaf : (j : ℕ) (x : Entry) → number (leaf j x) ≡ i → Holds m (leaf j x) → ⊥
    no_leaf j x at h = z (ap (λ (k : Node). k.height) (read_root n q (leaf j x) at h) ∙ root_height (leaf j x))

    module _ (d : covered n.low (n.height - 1) l.low ≡ true) where
      pub left_asks : (t : ℕ) → (node_at m i).height ≡ t → PutReady m i l a b → ((node_at m n.left).height < t) × PutReady m n.left l a b
      left_asks t u g = go g.tree g.entry g.at g.is g.place
        where
          go : (T : Plan) (e : Entry) → number T ≡ i → l ≡ leaf_of e → Place m T e a b → ((node_at m n.left).height < t) × PutReady m n.left l a b
          go (leaf j x) e at is p = absurd (no_leaf j x at p.holds)
          go (node j h low x y) e at is p =
              let v = read_root n q (node j h low x y) at p.holds in
              let sub = place_left m j h low x y e a b p (test_root n (node j h low x y) e true v is c) (test_half n j h low x y e true v is d) in
              let top : n.height ≡ t = ap (λ (k : Node). k.height) q ∙ u in
              rw (ap (λ (k : Node). k.left) v) (
                rw (root_holds x m sub.holds, root_height x) (omega (arith, falls_height x (h - 1) p.falls.2, p.falls.0, ap (λ (k : Node). k.height) v)),
                record { tree = x; entry = e; at = refl; is = is; place = sub },
              )

      pub left_mend : PutReady m i l a b → (m1 : List ℕ) (s : AfterPut) → Puts m n.left l a b m1 s
          → (base i + 32 ≤ length m1) × (base s.root + 32 ≤ length m1) × (base n.right + 32 ≤ length m1)
      left_mend g m1 s f = go g.tree g.entry g.at g.is g.place
        where
          go : (T : Plan) (e : Entry) → number T ≡ i → l ≡ leaf_of e → Place m T e a b → (base i + 32 ≤ length m1) × (base s.root + 32 ≤ length m1) × (base n.right + 32 ≤ length m1)
          go (leaf j x) e at is p = absurd (no_leaf j x at p.holds)
          go (node j h low x y) e at is p =
              let v = read_root n q (node j h low x y) at p.holds in
              let cov = test_root n (node j h low x y) e true v is c in
              let lft = test_half n j h low x y e true v is d in
              let sub = f x e (sym (ap (λ (k : Node). k.left) v)) is (place_left m j h low x y e a b p cov lft) in
              let rooms = left_rooms m j h low x y e a b p cov lft in
              rw (ap (λ (k : Node). k.right) v, sub.root_is, sub.frame.length_kept, ← at) rooms

      pub left_case : (m1 : List ℕ) (s : AfterPut) → Puts m n.left l a b m1 s → (m' : List ℕ) → m' ≡ mended m1 i n.height n.low s.root n.right → Puts m i l a b m' (record { root = i; new = s.new })
      left_case m1 s f m' w (leaf j x) e at is p = absurd (no_leaf j x at p.holds)
      left_case m1 s f m' w (node j h low x y) e at is p =
          let v = read_root n q (node j h low x y) at p.holds in
          let cov = test_root n (node j h low x y) e true v is c in
          let lft = test_half n j h low x y e true v is d in
          let sub = f x e (sym (ap (λ (k : Node). k.left) v)) is (place_left m j h low x y e a b p cov lft) in
          rw (w, v, ← at) (left_step m j h low x y e a b p cov lft m1 s sub)

    -- ON THE RIGHT

    module _ (d : covered n.low (n.height - 1) l.low ≡ false) where
      pub right_asks : (t : ℕ) → (node_at m i).height ≡ t → PutReady m i l a b → ((node_at m n.right).height < t) × PutReady m n.right l a b
      right_asks t u g = go g.tree g.entry g.at g.is g.place
        where
          go : (T : Plan) (e : Entry) → number T ≡ i → l ≡ leaf_of e → Place m T e a b → ((node_at m n.right).height < t) × PutReady m n.right l a b
          go (leaf j x) e at is p = absurd (no_leaf j x at p.holds)
          go (node j h low x y) e at is p =
              let v = read_root n q (node j h low x y) at p.holds in
              let sub = place_right m j h low x y e a b p (test_root n (node j h low x y) e true v is c) (test_half n j h low x y e false v is d) in
              let top : n.height ≡ t = ap (λ (k : Node). k.height) q ∙ u in
              rw (ap (λ (k : Node). k.right) v) (
                rw (root_holds y m sub.holds, root_height y) (omega (arith, falls_height y (h - 1) p.falls.3, p.falls.0, ap (λ (k : Node). k.height) v)),
                record { tree = y; entry = e; at = refl; is = is; place = sub },
              )

      pub right_mend : PutReady m i l a b → (m1 : List ℕ) (s : AfterPut) → Puts m n.right l a b m1 s
          → (base i + 32 ≤ length m1) × (base n.left + 32 ≤ length m1) × (base s.root + 32 ≤ length m1)
      right_mend g m1 s f = go g.tree g.entry g.at g.is g.place
        where
          go : (T : Plan) (e : Entry) → number T ≡ i → l ≡ leaf_of e → Place m T e a b → (base i + 32 ≤ length m1) × (base n.left + 32 ≤ length m1) × (base s.root + 32 ≤ length m1)
          go (leaf j x) e at is p = absurd (no_leaf j x at p.holds)
          go (node j h low x y) e at is p =
              let v = read_root n q (node j h low x y) at p.holds in
              let cov = test_root n (node j h low x y) e true v is c in
              let rgt = test_half n j h low x y e false v is d in
              let sub = f y e (sym (ap (λ (k : Node). k.right) v)) is (place_right m j h low x y e a b p cov rgt) in
              let rooms = right_rooms m j h low x y e a b p cov rgt in
              rw (ap (λ (k : Node). k.left) v, sub.root_is, sub.frame.length_kept, ← at) rooms

      pub right_case : (m1 : List ℕ) (s : AfterPut) → Puts m n.right l a b m1 s → (m' : List ℕ) → m' ≡ mended m1 i n.height n.low n.left s.root → Puts m i l a b m' (record { root = i; new = s.new })
      right_case m1 s f m' w (leaf j x) e at is p = absurd (no_leaf j x at p.holds)
      right_case m1 s f m' w (node j h low x y) e at is p =
          let v = read_root n q (node j h low x y) at p.holds in
          let cov = test_root n (node j h low x y) e true v is c in
          let rgt = test_half n j h low x y e false v is d in
          let sub = f y e (sym (ap (λ (k : Node). k.right) v)) is (place_right m j h low x y e a b p cov rgt) in
          rw (w, v, ← at) (right_step m j h low x y e a b p cov rgt m1 s sub)
