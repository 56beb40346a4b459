-- Where the bytes hold a tree of the shape, the check finds its leaves.
-- Assumes nothing.
use Prim.Native.Nat.{ℕ, zero, suc, ◌+◌, ◌-◌, ◌%◌, ◌^◌, ◌≤◌, ◌<◌, max, min}
use mathlib.Core.Path.{◌≡◌, refl, sym, ap, ap₂, ◌∙◌}
use mathlib.Core.Bool.{true}
use mathlib.Core.List.Memᴰ.{append_left as in_left}
use mathlib.Core.List.Memᴰ.{append_right as in_right}
use mathlib.Core.List.Memᴰ.{head as here}
use mathlib.Core.List.{List, [], ◌∷◌, ◌++◌, Memᴰ as Mem}
use mathlib.Core.Logic.{inl, inr}
use mathlib.Core.Option.{Option, none, some}
use native.Mathlib.Omega.{arith}
use native.Mathlib.Nat.{pow-suc}
use lib.ListN.{length, length-append}
use lib.Pow.{pow_pos}
use borrow.Author.Tests.{eq-eqb}
use Rattle.nodes.specs.declared.node.Node.{Node}
use Rattle.nodes.specs.Nodes.{node_at}
use Rattle.rules.specs.State.{Entry}
use Rattle.rules.specs.Tree.{entries, newest, oldest}
use Rattle.pool.specs.Plan.{Plan, leaf, node, tree_in, number, numbers, leaf_node}
use Rattle.pool.specs.Image.{AllBelow, Holds}
use Rattle.pool.proofs.Words.{newest_held, oldest_held}
use Rattle.pool.proofs.Placed.{Placed, at_leaf, at_node, not_higher}
use Rattle.fit.specs.Check.{leaf_ok, cover_middle, cover_end, leaves_at}
use Rattle.fit.proofs.Tests.{leaf_true}
use Rattle.fit.proofs.InnerTests.{InnerFacts}
use Rattle.fit.proofs.LeavesLaws.{stepped, both_sum}
use Rattle.fit.proofs.Sound.{Good}

-- a leaf's words pass
leaf_words : (k w from to : ℕ) (o : Option ℕ) → 1 ≤ w → from ≤ k → k < to → ((leaf_node k w o).height ≡ 0) × (leaf_ok (leaf_node k w o) from to ≡ true)
leaf_words k w from to none p lo hi =
    (refl, leaf_true (leaf_node k w none) from to (record { at_least = lo; below = hi; words = record { written = p; no_spare = refl; sort = inr (record { kind_tombstone = refl; oldest_newest = refl; no_left = refl; no_right = refl }) } }))
leaf_words k w from to (some x) p lo hi =
    (refl, leaf_true (leaf_node k w (some x)) from to (record { at_least = lo; below = hi; words = record { written = p; no_spare = refl; sort = inl (record { kind_live = refl; no_oldest = refl }) } }))

-- a plan has a leaf
pub some_leaf : (P : Plan) → 1 ≤ length (entries (tree_in P))
unfolding entries
some_leaf (leaf i e) = omega arith
some_leaf (node i h low l r) = omega (arith, some_leaf l, length-append (entries (tree_in l)) (entries (tree_in r)))

pub below_left : (n : ℕ) (xs ys : List ℕ) → AllBelow n (xs ++ ys) → AllBelow n xs
below_left n [] ys b = tt
below_left n (x ∷ xs) ys b = (b.0, below_left n xs ys b.1)

pub below_right : (n : ℕ) (xs ys : List ℕ) → AllBelow n (xs ++ ys) → AllBelow n ys
below_right n [] ys b = b
below_right n (x ∷ xs) ys b = below_right n xs ys b.1

pub root_below : (n : ℕ) (P : Plan) → AllBelow n (numbers P) → number P < n
root_below n (leaf i e) b = b.0
root_below n (node i h low l r) b = b.0

module _ (m : List ℕ) (nodes : ℕ) where
  inner_holds : (i h low from to : ℕ) (l r : Plan) → Holds m (node i (suc h) low l r) → AllBelow nodes (numbers (node i (suc h) low l r))
      → from ≤ low → low + 2 ^ suc h ≤ to → low % 2 ^ suc h ≡ 0 → to ≤ 2 ^ 32 → InnerFacts m nodes i from to
  unfolding newest oldest
  inner_holds i h low from to l r q b lo hi z top =
      let e = q.0 in
      let eh : (node_at m i).height ≡ suc h = ap (λ (n : Node). n.height) e in
      let el : (node_at m i).low ≡ low = ap (λ (n : Node). n.low) e in
      let dl : (node_at m i).left ≡ number l = ap (λ (n : Node). n.left) e in
      let dr : (node_at m i).right ≡ number r = ap (λ (n : Node). n.right) e in
      let two : 2 ^ (node_at m i).height ≡ 2 ^ suc h = ap (λ (x : ℕ). 2 ^ x) eh in
      record {
        own = record {
          not_high = omega (arith, eh, not_higher (suc h) 32 (omega arith));
          at_least = omega (arith, el);
          at_most = omega (arith, el, two);
          aligned = rw (el, two) z;
          no_kind = ap (λ (n : Node). n.kind) e;
          no_spare = ap (λ (n : Node). n.spare) e;
        };
        left_in = omega (arith, dl, root_below nodes l (below_left nodes (numbers l) (numbers r) b.1));
        right_in = omega (arith, dr, root_below nodes r (below_right nodes (numbers l) (numbers r) b.1));
        sums = record {
          is_newest = ap (λ (n : Node). n.newest) e ∙ sym (ap₂ max (ap (λ (j : ℕ). (node_at m j).newest) dl ∙ newest_held m l q.1) (ap (λ (j : ℕ). (node_at m j).newest) dr ∙ newest_held m r q.2));
          is_oldest = ap (λ (n : Node). n.oldest) e ∙ sym (ap₂ min (ap (λ (j : ℕ). (node_at m j).oldest) dl ∙ oldest_held m l q.1) (ap (λ (j : ℕ). (node_at m j).oldest) dr ∙ oldest_held m r q.2));
        };
      }

  -- COMPLETE
  pub complete : {from to : ℕ} {P : Plan} → Placed from to P → Holds m P → AllBelow nodes (numbers P) → ((e : Entry) → Mem e (entries (tree_in P)) → Good e) → to ≤ 2 ^ 32
      → (g : ℕ) → to - from < 2 ^ g → leaves_at m nodes g (number P) from to ≡ length (entries (tree_in P))
  unfolding leaves_at entries
  complete (at_leaf lo hi) q b good top zero lt = absurd (omega arith)
  complete {from} {to} (at_leaf {i = i} {e = e} lo hi) q b good top (suc g) lt =
      let w = leaf_words e.key e.position from to e.payload (good e (here refl)).0 lo hi in
      rw (eq-eqb (node_at m i).height 0 (ap (λ (n : Node). n.height) q ∙ w.0), ap (λ (n : Node). leaf_ok n from to) q ∙ w.1)
  complete (at_node {h = h} lo hi z pl pr) q b good top zero lt = absurd (omega (arith, pow_pos (suc h)))
  complete {from} {to} (at_node {i = i} {h = h} {low = low} {l = l} {r = r} lo hi z pl pr) q b good top (suc g) lt =
      let f = inner_holds i h low from to l r q b lo hi z top in
      let e = q.0 in
      let two : 2 ^ (node_at m i).height ≡ 2 ^ suc h = ap (λ (n : Node). 2 ^ n.height) e in
      let el : (node_at m i).low ≡ low = ap (λ (n : Node). n.low) e in
      let mid : cover_middle (node_at m i) ≡ low + 2 ^ h = omega (arith, el, two, pow-suc 2 h) in
      let past : cover_end (node_at m i) ≡ low + 2 ^ suc h = omega (arith, el, two) in
      let a = complete pl q.1 (below_left nodes (numbers l) (numbers r) b.1) (λ x s. good x (in_left (entries (tree_in r)) s)) (omega arith) g (omega (arith, pow-suc 2 g, pow-suc 2 h)) in
      let c = complete pr q.2 (below_right nodes (numbers l) (numbers r) b.1) (λ x s. good x (in_right (entries (tree_in l)) s)) (omega arith) g (omega (arith, pow-suc 2 g, pow-suc 2 h)) in
      stepped m nodes i from to (λ y. omega (arith, ap (λ (n : Node). n.height) e, y)) f g
      ∙ rw (mid, past, el, ap (λ (n : Node). n.left) e, ap (λ (n : Node). n.right) e, a, c)
      (sym (both_sum (length (entries (tree_in l))) (length (entries (tree_in r))) (λ y. omega (arith, some_leaf l)) (λ y. omega (arith, some_leaf r))) ∙ sym (length-append (entries (tree_in l)) (entries (tree_in r))))
