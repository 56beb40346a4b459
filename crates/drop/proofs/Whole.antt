-- What the places of `drop_old` ask, from what is known there.
-- Assumes nothing.
use Prim.Native.Nat.{ℕ, ◌+◌, ◌-◌, ◌*◌, ◌/◌, ◌≤◌, ◌<◌}
use native.Mathlib.Omega.{arith}
use mathlib.Core.Path.{◌≡◌, refl, sym, ap, subst, ◌∙◌}
use mathlib.Core.Logic.{◌≢◌}
use mathlib.Core.List.{List, [], ◌∷◌}
use mathlib.Core.Option.{Option, none, some}
use lib.ListN.{length, length-append}
use Rattle.std.specs.Option.{unwrap_or}
use Rattle.nodes.specs.declared.node.Node.{Node}
use Rattle.nodes.specs.declared.header.Header.{Header}
use Rattle.nodes.specs.Nodes.{base, node_at, header_at, put_header}
use Rattle.rules.specs.Tree.{entries}
use Rattle.pool.specs.Plan.{Plan, number, numbers, no_node}
use Rattle.pool.specs.Image.{Arrangement, Image, Fit, HoldsTree, HoldsFree, first_of, tree_or, root_or, numbers_or, header_of, AllBelow}
use Rattle.pool.proofs.Frame.{frame_front}
use Rattle.pool.proofs.Headers.{keys_beside, free_left, free_below, image_of}
use Rattle.drop.specs.declared.tombstones.Left.{Left}
use Rattle.drop.specs.Drop.{drop_plan, drop_tree, freed, freed_tree, drop_in}
use Rattle.drop.specs.Spot.{root_of, free_of, Spot, DropReady, Dropped, Drops}
use Rattle.drop.proofs.Plans.{drop-length}
use Rattle.drop.proofs.Arranging.{drop_arranged}
use Rattle.drop.proofs.Fitting.{image_spot}

-- THE FREE NODES

-- the first free node's rank is the number of free nodes
first_rank : (m : List ℕ) (F : List ℕ) → HoldsFree m F → 1 ≤ length F → (node_at m (first_of F)).newest ≡ length F
first_rank m [] h l = absurd (omega arith)
first_rank m (i ∷ F) h l = ap (λ (x : Node). x.newest) h.0

-- and its number is below n
first_below : (n : ℕ) (F : List ℕ) → AllBelow n F → 1 ≤ length F → first_of F < n
first_below n [] b l = absurd (omega arith)
first_below n (i ∷ F) b l = b.0

-- THE DROP

-- a root as the header tells it
root_told : (X : Option Plan) → unwrap_or (root_of X) no_node ≡ root_or X
root_told none = refl
root_told (some T) = refl

module _ (m : List ℕ) (limit : ℕ) (h : Header) (e : h ≡ header_at m) where
  -- the header read is the arrangement's
  header_is : (A : Arrangement) → Image m A → h ≡ header_of A
  header_is A g = e ∙ g.header

  -- the first free node lies in the bytes
  pub free_room : Fit m → base h.free + 32 ≤ length m
  free_room g =
      let A = g.arrangement in
      let b : first_of A.free < 2 * A.N = first_below (2 * A.N) A.free (free_below A g.image.arranged) (free_left A g.image.arranged) in
      let f : h.free ≡ first_of A.free = ap (λ (x : Header). x.free) (header_is A g.image) in
      omega (arith, g.image.size)

  module _ (x : Node) (a : x ≡ node_at m h.free) (z : h.root ≢ no_node) where
    -- the tree of an arrangement, ready for the drop
    record Kept (A : Arrangement) : Type 0 where
      pub plan : Plan
      pub is : A.tree ≡ some plan
      pub at : number plan ≡ h.root
      pub beside : free_of A.free ≡ record { first = h.free; count = x.newest }
      pub spot : Spot m (2 * A.N) plan A.free

    -- every arrangement of the bytes has such a tree
    kept : (A : Arrangement) → Image m A → Kept A
    kept A g = go A.tree refl
      where
        f : h.free ≡ first_of A.free
        f = ap (λ (x : Header). x.free) (header_is A g)

        rank : length A.free ≡ x.newest
        rank = sym (first_rank m A.free g.free (free_left A g.arranged)) ∙ ap (λ (j : ℕ). (node_at m j).newest) (sym f) ∙ ap (λ (y : Node). y.newest) (sym a)

        go : (X : Option Plan) → A.tree ≡ X → Kept A
        go none q = absurd (z (ap (λ (x : Header). x.root) (header_is A g) ∙ ap root_or q))
        go (some T) q =
            record {
              plan = T;
              is = q;
              at = sym (ap root_or q) ∙ sym (ap (λ (x : Header). x.root) (header_is A g));
              beside = λ t. record { first = sym f t; count = rank t };
              spot = image_spot m A T g q;
            }

    -- so the recursion can start
    pub ready : Fit m → DropReady m h.root (record { first = h.free; count = x.newest })
    ready g =
        let o = kept g.arrangement g.image in
        record { count = 2 * g.arrangement.N; tree = o.plan; list = g.arrangement.free; at = o.at; beside = o.beside; spot = o.spot }

    module _ (m1 : List ℕ) (r : Left) (d : Drops m h.root limit (record { first = h.free; count = x.newest }) m1 r) where
      -- what it left behind
      dropped : (A : Arrangement) (o : Kept A) → Dropped m limit o.plan A.free m1 r
      dropped A o = d (2 * A.N) o.plan A.free o.at o.beside o.spot

      -- the nodes that are left and the free ones are all nodes
      rank_all : (A : Arrangement) → Image m A → (o : Kept A) → length (numbers_or (drop_plan limit o.plan)) + r.free.count ≡ 2 * A.N
      rank_all A g o =
          let s : length (numbers_or A.tree) ≡ length (numbers o.plan) = ap (λ (X : Option Plan). length (numbers_or X)) o.is in
          omega (arith, ap (λ (y : Left). y.free.count) (dropped A o).is, drop-length limit o.plan A.free, length-append (numbers_or A.tree) A.free, g.arranged.all)

      -- the number of keys can be told
      pub keys_asks : Fit m → (h.limit ≤ 65536) × (r.free.count ≤ 2 * h.limit)
      keys_asks g =
          let A = g.arrangement in
          let n : h.limit ≡ A.N = ap (λ (x : Header). x.limit) (header_is A g.image) in
          (omega (arith, g.image.arranged.lawful.limit_N), omega (arith, rank_all A g.image (kept A g.image)))

      -- the header that the code writes is the arrangement's
      module _ (c : ℕ) (b : c ≡ (2 * h.limit + 1 - r.free.count) / 2) (root : ℕ) (ro : root ≡ unwrap_or r.root no_node) where
        -- its words, one by one
        new_header_lem : (A : Arrangement) → Image m A
            → record { mark = h.mark; limit = h.limit; zone = h.zone; position = h.position; kept = c; root = root; free = r.free.first } ≡ header_of (drop_in limit A)
        new_header_lem A g =
            let o = kept A g in
            let u = dropped A o in
            let hd = header_is A g in
            let n : h.limit ≡ A.N = ap (λ (x : Header). x.limit) hd in
            let left : drop_tree limit A.tree ≡ drop_plan limit o.plan = ap (drop_tree limit) o.is in
            let free : freed_tree limit A.tree A.free ≡ freed limit o.plan A.free = ap (λ (X : Option Plan). freed_tree limit X A.free) o.is in
            let k : c ≡ length (entries (tree_or (drop_tree limit A.tree))) =
            b ∙ ap (λ (N : ℕ). (2 * N + 1 - r.free.count) / 2) n ∙ keys_beside (drop_plan limit o.plan) A.N r.free.count (rank_all A g o) ∙ ap (λ (X : Option Plan). length (entries (tree_or X))) (sym left) in
            let t : root ≡ root_or (drop_tree limit A.tree) = ro ∙ ap (λ (y : Left). unwrap_or y.root no_node) u.is ∙ root_told (drop_plan limit o.plan) ∙ ap root_or (sym left) in
            let f : r.free.first ≡ first_of (freed_tree limit A.tree A.free) = ap (λ (y : Left). y.free.first) u.is ∙ ap first_of (sym free) in
            rw (ap (λ (x : Header). x.mark) hd, n, ap (λ (x : Header). x.zone) hd, ap (λ (x : Header). x.position) hd, k, t, f)

        -- the bytes are the image of the arrangement without its old tombstones
        pub drop_whole : (m2 : List ℕ) → m2 ≡ put_header m1 (record { mark = h.mark; limit = h.limit; zone = h.zone; position = h.position; kept = c; root = root; free = r.free.first })
            → (A : Arrangement) → Image m A → Image m2 (drop_in limit A)
        drop_whole m2 w A g =
            let o = kept A g in
            let u = dropped A o in
            rw (w, new_header_lem A g)
            (image_of m1 (drop_in limit A) (drop_arranged limit A g.arranged) (u.frame.length_kept ∙ g.size) u.bytes (λ k p q. frame_front u.frame k q ∙ g.zeros k p q)
            (subst (λ (X : Option Plan). HoldsTree m1 (drop_tree limit X)) (sym o.is) u.holds)
            (subst (λ (X : Option Plan). HoldsFree m1 (freed_tree limit X A.free)) (sym o.is) u.free))
