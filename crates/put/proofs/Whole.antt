-- What the places of `put` ask, from what its calls ensure. Each law goes by whether the arrangement has a tree.
-- Assumes nothing.
use Prim.Native.Nat.{ℕ, ◌+◌, ◌*◌, ◌^◌, ◌≤◌, ◌<◌}
use mathlib.Core.Path.{◌≡◌, refl, sym, ap, ◌∙◌}
use mathlib.Core.Bool.{Bool, true, false, not, not-not}
use mathlib.Core.Logic.{◌≢◌}
use mathlib.Core.List.{List, [], ◌∷◌}
use mathlib.Core.Option.{Option, none, some}
use native.Mathlib.Omega.{arith}
use lib.ListN.{length}
use Rattle.nodes.specs.declared.header.Header.{Header}
use Rattle.nodes.specs.declared.node.Node.{Node}
use Rattle.nodes.specs.Nodes.{base, put_node, header_at, put_header}
use Rattle.nodes.specs.Laws.{node_put, bytes_node}
use Rattle.rules.specs.State.{Entry}
use Rattle.rules.specs.Tree.{entries}
use Rattle.pool.specs.Plan.{Plan, tree_in, number, leaf_node, no_node}
use Rattle.pool.specs.Image.{Arrangement, Image, AllBelow, first_of, header_of}
use Rattle.pool.specs.Times.{times}
use Rattle.pool.proofs.Frame.{frame_put, frame_widen, frame_header}
use Rattle.put.specs.declared.tree.AfterPut.{AfterPut}
use Rattle.put.specs.Values.{Value, payload_stored, entry_of}
use Rattle.put.specs.Storing.{has, put_plan, rest_of, put_in}
use Rattle.put.specs.Places.{leaf_of, Place, Done, PutReady, Puts}
use Rattle.put.specs.Asks.{Roomy, LeafOf, next_of, grown}
use Rattle.put.proofs.Arranging.{Storable, arranged_canonical, enough, leaves_put}
use Rattle.put.proofs.Counts.{root_put}
use Rattle.pool.proofs.Headers.{free_below}
use Rattle.put.proofs.FreeNodes.{next_first, first_room, below_rest, holds_rest}
use Rattle.put.proofs.Steps.{bit_same}
use Rattle.put.proofs.SameTree.{canonical_falls, first_below}
use Rattle.put.proofs.Finish.{body_image, body_header, grown_is, storable, entry_fits, after, once_all, inside_all, body_put}

-- an arrangement by its parts
abbrev arr : ℕ → ℕ → ℕ → Option Plan → List ℕ → Arrangement
arr N Z p o free = record { N = N; Z = Z; p = p; tree = o; free = free }

module _ (m : List ℕ) (k : ℕ) (v : Value) (hd : Header) (l : Node) (g : Roomy m k v) (ks : k < 2 ^ 32) (hq : hd ≡ header_at m) (lq : LeafOf k hd.position v l) where
  abbrev ent : ℕ → Entry
  ent p = entry_of k p v

  can : (A : Arrangement) → Image m A → Storable A (ent A.p)
  can A a = storable m k v g ks lq.fits A a

  -- what was read is the arrangement's
  read : (A : Arrangement) → Image m A → hd ≡ header_of A
  read A a = hq ∙ a.header

  leaf_is : (A : Arrangement) → Image m A → l ≡ leaf_of (ent A.p)
  leaf_is A a = lq.is ∙ ap (λ (h : Header). leaf_node k h.position (payload_stored v)) (read A a)

  few_nodes : (A : Arrangement) → Image m A → 2 * A.N ≤ 131072
  few_nodes A a = omega (arith, a.arranged.lawful.limit_N.1)

  below_free : (A : Arrangement) → Image m A → AllBelow (2 * A.N) A.free
  below_free A a = free_below A a.arranged

  first_is : (A : Arrangement) → Image m A → hd.free ≡ first_of A.free
  first_is A a = ap (λ (h : Header). h.free) (read A a)

  second_is : (A : Arrangement) → Image m A → (second : ℕ) → second ≡ next_of m hd.free → second ≡ first_of (rest_of A.free)
  second_is A a second q = q ∙ ap (λ (z : ℕ). next_of m z) (first_is A a) ∙ next_first m (2 * A.N) A.free (few_nodes A a) (below_free A a) a.free

  third_is : (A : Arrangement) → Image m A → (second third : ℕ) → second ≡ next_of m hd.free → third ≡ next_of m second → third ≡ first_of (rest_of (rest_of A.free))
  third_is A a second third q r =
      r ∙ ap (λ (z : ℕ). next_of m z) (second_is A a second q)
      ∙ next_first m (2 * A.N) (rest_of A.free) (few_nodes A a) (below_rest (2 * A.N) A.free (below_free A a)) (holds_rest m A.free a.free)

  -- THE CALLS

  -- what the reading of the free nodes asks
  pub first_asks : hd.free ≢ no_node → base hd.free + 32 ≤ length m
  first_asks n =
      let A = g.arrangement in
      let a = g.image in
      let q = first_is A a in
      rw q (first_room m (2 * A.N) A.free (below_free A a) (omega (arith, a.size)) (λ z. n (q ∙ z)))

  pub second_asks : (second : ℕ) → second ≡ next_of m hd.free → second ≢ no_node → base second + 32 ≤ length m
  second_asks second r n =
      let A = g.arrangement in
      let a = g.image in
      let q = second_is A a second r in
      rw q (first_room m (2 * A.N) (rest_of A.free) (below_rest (2 * A.N) A.free (below_free A a)) (omega (arith, a.size)) (λ z. n (q ∙ z)))

  -- WITHOUT A TREE

  no_tree : (N Z p : ℕ) (T : Plan) (free : List ℕ) → Image m (arr N Z p (some T) free) → hd.root ≡ no_node → ⊥
  no_tree N Z p T free a z =
      omega (arith, first_below (2 * N) T free a.arranged.below, few_nodes (arr N Z p (some T) free) a, ap (λ (h : Header). h.root) (read (arr N Z p (some T) free) a))

  -- what storing the first leaf asks, and what it leaves
  pub first_leaf_asks : hd.root ≡ no_node → (base hd.free + 32 ≤ length m) × (hd.kept < 65536)
  unfolding entries
  first_leaf_asks z = let A = g.arrangement in go A.N A.Z A.p A.tree A.free g.image
    where
      go : (N Z p : ℕ) (o : Option Plan) (free : List ℕ) → Image m (arr N Z p o free) → (base hd.free + 32 ≤ length m) × (hd.kept < 65536)
      go N Z p (some T) free a = absurd (no_tree N Z p T free a z)
      go N Z p none [] a = let A = arr N Z p none [] in absurd (omega (arith, enough A a.arranged (ent p) (can A a)))
      go N Z p none (f ∷ is) a = let A = arr N Z p none (f ∷ is) in
          (first_asks (λ q. omega (arith, first_is A a, (below_free A a).0, few_nodes A a)), omega (arith, ap (λ (h : Header). h.kept) (read A a)))

  pub first_leaf : hd.root ≡ no_node → (second : ℕ) → second ≡ next_of m hd.free → (m1 : List ℕ) → m1 ≡ put_node m hd.free l → (h' : Header) → h' ≡ grown hd hd.free second
      → (m' : List ℕ) → m' ≡ put_header m1 h' → (A : Arrangement) → Image m A → Image m' (put_in A (ent A.p))
  unfolding entries times
  first_leaf z second sq m1 q h' r m' t A a = go A.N A.Z A.p A.tree A.free a
    where
      go : (N Z p : ℕ) (o : Option Plan) (free : List ℕ) → Image m (arr N Z p o free) → Image m' (put_in (arr N Z p o free) (ent p))
      go N Z p (some T) free a = absurd (no_tree N Z p T free a z)
      go N Z p none [] a = let A = arr N Z p none [] in absurd (omega (arith, enough A a.arranged (ent p) (can A a)))
      go N Z p none (f ∷ is) a =
          let A = arr N Z p none (f ∷ is) in
          let e = ent p in
          let fits = entry_fits m A a e (can A a) in
          let room = inside_all m A a e (can A a) f (omega (arith, bit_same f f refl)) in
          let body = body_put m A a e (can A a) (put_node m f (leaf_of e)) (bytes_node m f (leaf_of e) a.bytes)
          (frame_widen (frame_put m f (leaf_of e)) (λ j s. omega (arith, bit_same j f s))) (node_put m f (leaf_of e) room fits) in
          rw (t, q, first_is A a, leaf_is A a) (body_header (put_node m f (leaf_of e)) (put_in A e) body h'
          (r ∙ grown_is A e hd hd.free second (read A a) refl (first_is A a) (second_is A a second sq)))

  -- WITH A TREE

  no_empty : (N Z p : ℕ) (free : List ℕ) → Image m (arr N Z p none free) → hd.root ≢ no_node → ⊥
  no_empty N Z p free a z = z (ap (λ (h : Header). h.root) (read (arr N Z p none free) a))

  module _ (z : hd.root ≢ no_node) (second : ℕ) (sq : second ≡ next_of m hd.free) where
    place : (N Z p : ℕ) (T : Plan) (free : List ℕ) → Image m (arr N Z p (some T) free) → Place m T (ent p) hd.free second
    place N Z p T free a =
        let A = arr N Z p (some T) free in
        let e = ent p in
        rw (first_is A a, second_is A a second sq) (record {
          bytes = a.bytes;
          size = omega (arith, a.size, few_nodes A a);
          holds = a.tree;
          falls = canonical_falls T (arranged_canonical A a.arranged);
          inside = inside_all m A a e (can A a);
          once = λ j. omega (arith, once_all m A a e (can A a) j);
          leaf_fits = entry_fits m A a e (can A a);
        })

    root_is : (N Z p : ℕ) (T : Plan) (free : List ℕ) → Image m (arr N Z p (some T) free) → number T ≡ hd.root
    root_is N Z p T free a = sym (ap (λ (h : Header). h.root) (read (arr N Z p (some T) free) a))

    -- what the descent asks
    pub put_at_asks : PutReady m hd.root l hd.free second
    put_at_asks = let A = g.arrangement in go A.N A.Z A.p A.tree A.free g.image
      where
        go : (N Z p : ℕ) (o : Option Plan) (free : List ℕ) → Image m (arr N Z p o free) → PutReady m hd.root l hd.free second
        go N Z p none free a = absurd (no_empty N Z p free a z)
        go N Z p (some T) free a = record { tree = T; entry = ent p; at = root_is N Z p T free a; is = leaf_is (arr N Z p (some T) free) a; place = place N Z p T free a }

    module _ (m1 : List ℕ) (s : AfterPut) (f : Puts m hd.root l hd.free second m1 s) where
      done : (N Z p : ℕ) (T : Plan) (free : List ℕ) → Image m (arr N Z p (some T) free) → Done m T (ent p) (first_of free) (first_of (rest_of free)) m1 s
      done N Z p T free a =
          let A = arr N Z p (some T) free in
          rw (first_is A a, second_is A a second sq) at (f T (ent p) (root_is N Z p T free a) (leaf_is A a) (place N Z p T free a))

      has_is : (N Z p : ℕ) (T : Plan) (free : List ℕ) → Image m (arr N Z p (some T) free) → (b : Bool) → s.new ≡ not b → has k T ≡ b
      has_is N Z p T free a b n = sym (not-not (has k T)) ∙ ap not (sym (done N Z p T free a).new_is ∙ n) ∙ not-not b

      -- a new key: the counts
      grows : (N Z p : ℕ) (T : Plan) (free : List ℕ) → Image m (arr N Z p (some T) free) → s.new ≡ true
          → length (entries (tree_in (put_plan (first_of free) (first_of (rest_of free)) (ent p) T))) ≡ length (entries (tree_in T)) + 1
      grows N Z p T free a n = leaves_put (first_of free) (first_of (rest_of free)) (ent p) T false (has_is N Z p T free a false n)

      -- what writing the header asks
      pub new_asks : s.new ≡ true → (hd.kept < 65536) × (64 ≤ length m1)
      new_asks n = let A = g.arrangement in go A.N A.Z A.p A.tree A.free g.image
        where
          go : (N Z p : ℕ) (o : Option Plan) (free : List ℕ) → Image m (arr N Z p o free) → (hd.kept < 65536) × (64 ≤ length m1)
          go N Z p none free a = absurd (no_empty N Z p free a z)
          go N Z p (some T) free a =
              let A = arr N Z p (some T) free in
              let few = (after m A a (ent p) (can A a)).lawful.few in (
                omega (arith, grows N Z p T free a n, few_nodes A a, ap (λ (h : Header). h.kept) (read A a)),
                omega (arith, (done N Z p T free a).frame.length_kept, a.size),
              )

      -- a new key: the header counts it and names what is free now
      pub new_case : s.new ≡ true → (third : ℕ) → third ≡ next_of m second → (h' : Header) → h' ≡ grown hd s.root third → (m' : List ℕ) → m' ≡ put_header m1 h'
          → (A : Arrangement) → Image m A → Image m' (put_in A (ent A.p))
      new_case n third tq h' r m' t A a = go A.N A.Z A.p A.tree A.free a
        where
          go : (N Z p : ℕ) (o : Option Plan) (free : List ℕ) → Image m (arr N Z p o free) → Image m' (put_in (arr N Z p o free) (ent p))
          go N Z p none free a = absurd (no_empty N Z p free a z)
          go N Z p (some T) free a =
              let A = arr N Z p (some T) free in
              let d = done N Z p T free a in
              let body = body_put m A a (ent p) (can A a) m1 d.bytes d.frame d.holds in
              let there : third ≡ first_of (put_in A (ent p)).free = rw (has_is N Z p T free a false n) (third_is A a second third sq tq) in
              rw t (body_header m1 (put_in A (ent p)) body h' (r ∙ grown_is A (ent p) hd s.root third (read A a) (grows N Z p T free a n) d.root_is there))

      -- a key that was there: the header is as it was
      pub old_case : s.new ≡ false → (A : Arrangement) → Image m A → Image m1 (put_in A (ent A.p))
      old_case n A a = go A.N A.Z A.p A.tree A.free a
        where
          go : (N Z p : ℕ) (o : Option Plan) (free : List ℕ) → Image m (arr N Z p o free) → Image m1 (put_in (arr N Z p o free) (ent p))
          go N Z p none free a = absurd (no_empty N Z p free a z)
          go N Z p (some T) free a =
              let A = arr N Z p (some T) free in
              let d = done N Z p T free a in
              let b = has_is N Z p T free a true n in
              let body = body_put m A a (ent p) (can A a) m1 d.bytes d.frame d.holds in
              let kept : length (entries (tree_in (put_plan (first_of free) (first_of (rest_of free)) (ent p) T))) ≡ length (entries (tree_in T)) = leaves_put (first_of free) (first_of (rest_of free)) (ent p) T true b ∙ omega arith in
              let root = root_put (first_of free) (first_of (rest_of free)) (ent p) T b in
              body_image m1 (put_in A (ent p)) body (frame_header d.frame ∙ a.header ∙ rw (kept, root, b))
