-- The nodes of a tree and the free nodes are apart from each other: no number stands twice. A node's number decides its words, and the
-- words of two nodes of a tree differ, as do those of two free nodes.
-- Assumes nothing.
use Prim.Native.Nat.{ℕ, suc, ◌+◌, ◌*◌, ◌^◌, ◌≤◌}
use mathlib.Core.Path.{◌≡◌, refl, sym, ap, ◌∙◌, subst}
use mathlib.Core.Logic.{⊎_elim}
use mathlib.Core.List.Memᴰ.{append_cases as in-append}
use mathlib.Core.List.Memᴰ.{head as here}
use mathlib.Core.List.Memᴰ.{tail as there}
use mathlib.Core.List.{List, [], ◌∷◌, ◌++◌, Memᴰ as Mem}
use mathlib.Core.Option.{Option, none, some}
use native.Mathlib.Omega.{arith}
use native.Mathlib.Nat.{pow-suc}
use lib.ListN.{length, length-append}
use lib.Pow.{pow_pos}
use Rattle.nodes.specs.declared.node.Node.{Node}
use Rattle.nodes.specs.Nodes.{node_at}
use Rattle.rules.specs.Tree.{entries}
use Rattle.pool.specs.Plan.{Plan, leaf, node, tree_in, numbers, free_height, leaf_node}
use Rattle.pool.specs.Image.{Distinct, Holds, HoldsFree}
use Rattle.pool.proofs.Placed.{Placed, at_leaf, at_node, not_higher}

pub leaf_height : (k w : ℕ) (o : Option ℕ) → (leaf_node k w o).height ≡ 0
leaf_height k w none = refl
leaf_height k w (some x) = refl

pub leaf_low : (k w : ℕ) (o : Option ℕ) → (leaf_node k w o).low ≡ k
leaf_low k w none = refl
leaf_low k w (some x) = refl

-- two lists with nothing in common
pub distinct_append : (xs ys : List ℕ) → Distinct xs → Distinct ys → ((j : ℕ) → Mem j xs → Mem j ys → ⊥) → Distinct (xs ++ ys)
distinct_append [] ys a b f = b
distinct_append (x ∷ xs) ys a b f =
    (λ s. ⊎_elim (λ (q : Mem x xs). a.0 q) (λ (q : Mem x ys). f x (here refl) q) (in-append xs s), distinct_append xs ys a.1 b (λ j p q. f j (there p) q))

-- THE TREE

-- what node j covers lies in from .. to − 1
abbrev pub Inside : List ℕ → ℕ → ℕ → ℕ → Type 0
Inside m from to j = (from ≤ (node_at m j).low) × ((node_at m j).low + 2 ^ (node_at m j).height ≤ to)

inside_at : (m : List ℕ) (i j h low from to : ℕ) → (node_at m i).height ≡ h → (node_at m i).low ≡ low → from ≤ low → low + 2 ^ h ≤ to → j ≡ i → Inside m from to j
inside_at m i j h low from to eh el a b e =
    let two : 2 ^ (node_at m i).height ≡ 2 ^ h = ap (λ (x : ℕ). 2 ^ x) eh in
    subst (λ (x : ℕ). Inside m from to x) (sym e) (omega (arith, el), omega (arith, el, two))

pub placed_inside : (m : List ℕ) {from to : ℕ} {P : Plan} → Placed from to P → Holds m P → (j : ℕ) → Mem j (numbers P) → Inside m from to j
placed_inside m {from} {to} (at_leaf {i = i} {e = e} a b) q j (here s) =
    inside_at m i j 0 e.key from to (ap (λ (n : Node). n.height) q ∙ leaf_height e.key e.position e.payload) (ap (λ (n : Node). n.low) q ∙ leaf_low e.key e.position e.payload) a (omega arith) s
placed_inside m (at_leaf a b) q j (there s) = elim s [ ]
placed_inside m {from} {to} (at_node {i = i} {h = h} {low = low} a b z pl pr) q j (here s) =
    inside_at m i j (suc h) low from to (ap (λ (n : Node). n.height) q.0) (ap (λ (n : Node). n.low) q.0) a b s
placed_inside m {from} {to} (at_node {h = h} {low = low} {l = l} {r = r} a b z pl pr) q j (there s) =
    ⊎_elim
    (λ (y : Mem j (numbers l)). let f = placed_inside m pl q.1 j y in (omega arith, omega (arith, pow-suc 2 h)))
    (λ (y : Mem j (numbers r)). let f = placed_inside m pr q.2 j y in (omega arith, omega arith))
    (in-append (numbers l) s)

pub tree_height : (m : List ℕ) {to : ℕ} {P : Plan} → Placed 0 to P → to ≤ 2 ^ 32 → Holds m P → (j : ℕ) → Mem j (numbers P) → (node_at m j).height ≤ 32
tree_height m p t q j s = let f = placed_inside m p q j s in not_higher (node_at m j).height 32 (omega arith)

pub numbers_distinct : (m : List ℕ) {from to : ℕ} {P : Plan} → Placed from to P → Holds m P → Distinct (numbers P)
numbers_distinct m (at_leaf a b) q = (λ s. elim s [ ], tt)
numbers_distinct m (at_node {i = i} {h = h} {low = low} {l = l} {r = r} a b z pl pr) q = (
  λ s. ⊎_elim
      (λ (y : Mem i (numbers l)). let f = placed_inside m pl q.1 i y in omega (arith, el, two, pow-suc 2 h, pow_pos h))
      (λ (y : Mem i (numbers r)). let f = placed_inside m pr q.2 i y in omega (arith, el, two, pow-suc 2 h, pow_pos h))
      (in-append (numbers l) s),
  distinct_append (numbers l) (numbers r) (numbers_distinct m pl q.1) (numbers_distinct m pr q.2)
      (λ j s t. let f = placed_inside m pl q.1 j s in let g = placed_inside m pr q.2 j t in omega (arith, pow_pos (node_at m j).height)),
)
  where
    el : (node_at m i).low ≡ low
    el = ap (λ (n : Node). n.low) q.0

    two : 2 ^ (node_at m i).height ≡ 2 ^ suc h
    two = ap (λ (n : Node). 2 ^ n.height) q.0

-- a tree of c leaves has 2 c − 1 nodes
pub numbers_count : (P : Plan) → suc (length (numbers P)) ≡ 2 * length (entries (tree_in P))
unfolding entries
numbers_count (leaf i e) = refl
numbers_count (node i h low l r) =
    omega (arith, numbers_count l, numbers_count r, length-append (numbers l) (numbers r), length-append (entries (tree_in l)) (entries (tree_in r)))

-- THE FREE NODES

pub free_words : (m : List ℕ) (is : List ℕ) → HoldsFree m is → (j : ℕ) → Mem j is → ((node_at m j).height ≡ free_height) × ((node_at m j).newest ≤ length is)
free_words m [] q j x'' = elim x'' [ ]
free_words m (i ∷ is) q j (here s) =
    subst (λ (x : ℕ). ((node_at m x).height ≡ free_height) × ((node_at m x).newest ≤ suc (length is))) (sym s) (ap (λ (n : Node). n.height) q.0, omega (arith, ap (λ (n : Node). n.newest) q.0))
free_words m (i ∷ is) q j (there s) = let f = free_words m is q.1 j s in (f.0, omega (arith, f.1))

pub free_distinct : (m : List ℕ) (is : List ℕ) → HoldsFree m is → Distinct is
free_distinct m [] q = tt
free_distinct m (i ∷ is) q = (λ s. omega (arith, (free_words m is q.1 i s).1, ap (λ (n : Node). n.newest) q.0), free_distinct m is q.1)

-- BOTH

pub all_distinct : (m : List ℕ) {to : ℕ} {P : Plan} (is : List ℕ) → Placed 0 to P → to ≤ 2 ^ 32 → Holds m P → HoldsFree m is → Distinct (numbers P ++ is)
all_distinct m {to} {P} is p t q f =
    distinct_append (numbers P) is (numbers_distinct m p q) (free_distinct m is f) (λ j s u. omega (arith, tree_height m p t q j s, (free_words m is f j u).0))
