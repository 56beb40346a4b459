-- From a fit pool's header to its tree: the root's number says whether a key is kept, and the whole tree stands there.
-- Assumes nothing.
use Prim.Native.Nat.{ℕ, ◌*◌, ◌≤◌, ◌<◌}
use native.Mathlib.Omega.{arith}
use mathlib.Core.Path.{◌≡◌, refl, sym, ap, subst, ◌∙◌}
use mathlib.Core.List.{List, ◌++◌}
use mathlib.Core.Option.{Option, none, some}
use lib.ListN.{length, length-append}
use Rattle.nodes.specs.declared.header.Header.{Header}
use Rattle.nodes.specs.Nodes.{header_at}
use Rattle.rules.specs.Tree.{Tree}
use Rattle.rules.specs.Shape.{Canonical}
use Rattle.rules.proofs.Trees.{tree_of_canonical}
use Rattle.pool.specs.Plan.{Plan, numbers, no_node}
use Rattle.pool.specs.Image.{Arrangement, Arranged, AllBelow, HoldsTree, Image, Fit, tree_or, root_or, numbers_or}
use Rattle.pool.specs.Subtree.{StandsAt, Rooted}
use Rattle.pool.proofs.Numbers.{below_mem}
use Rattle.pool.proofs.Frame.{root_in}
use Rattle.pool.proofs.Subtree.{below_left}

-- a fit pool has room for its header
pub header_size : {m : List ℕ} → Fit m → 64 ≤ length m
header_size f = omega (arith, f.image.size)

-- the header's word for the root
pub root_word : {m : List ℕ} {A : Arrangement} → Image m A → (header_at m).root ≡ root_or A.tree
root_word x = ap (λ (h : Header). h.root) x.header

-- the tree of a state's entries is canonical
pub arranged_canonical : {A : Arrangement} → Arranged A → Canonical 32 0 (tree_or A.tree)
arranged_canonical a = subst (λ (t : Tree). Canonical 32 0 t) (sym a.shape) (tree_of_canonical 32 0 a.lawful.rising)

-- the whole tree stands at the root
pub root_stands : {m : List ℕ} {A : Arrangement} (T : Plan) → Image m A → A.tree ≡ some T → StandsAt m (header_at m).root T
root_stands {m} {A} T x e = record {
  root = sym (root_word x ∙ ap root_or e);
  holds = subst (HoldsTree m) e x.tree;
  nodes = 2 * A.N;
  limit = omega (arith, x.arranged.lawful.limit_N);
  room = omega (arith, x.size);
  inside = below_left (2 * A.N) (numbers T) A.free (subst (λ (o : Option Plan). AllBelow (2 * A.N) (numbers_or o ++ A.free)) e x.arranged.below);
  few = omega (arith, ap (λ (o : Option Plan). length (numbers_or o ++ A.free)) e, length-append (numbers T) A.free, x.arranged.all, x.arranged.lawful.limit_N);
  canonical = subst (λ (o : Option Plan). Canonical 32 0 (tree_or o)) e (arranged_canonical x.arranged);
}

-- a number of the tree is no "none"
pub stands_number : {m : List ℕ} {i : ℕ} (T : Plan) → StandsAt m i T → i < 131072
stands_number T s = omega (arith, below_mem s.inside (root_in T), s.root, s.limit)

-- what the root's number says of the tree
pub data Rooting (m : List ℕ) (A : Arrangement) : Type 0 where
  bare : A.tree ≡ none → (header_at m).root ≡ no_node → Rooting m A
  planted : (T : Plan) → A.tree ≡ some T → StandsAt m (header_at m).root T → Rooting m A

-- the root's number is the tree's, or says "none"
pub rooting : {m : List ℕ} {A : Arrangement} → Image m A → Rooting m A
rooting {m} {A} x = go A.tree refl
  where
    go : (o : Option Plan) → A.tree ≡ o → Rooting m A
    go none e = bare e (root_word x ∙ ap root_or e)
    go (some T) e = planted T e (root_stands T x e)

-- "none" stands for an empty tree
pub no_root : {m : List ℕ} {A : Arrangement} → Image m A → (header_at m).root ≡ no_node → A.tree ≡ none
no_root {m} {A} x q = go (rooting x)
  where
    go : Rooting m A → A.tree ≡ none
    go (bare e w) = e
    go (planted T e s) = absurd (omega (arith, stands_number T s))

-- any other number is where the tree stands
pub some_root : {m : List ℕ} {A : Arrangement} → Image m A → ((header_at m).root ≡ no_node → ⊥) → (T : Plan) × (A.tree ≡ some T) × StandsAt m (header_at m).root T
some_root {m} {A} x n = go (rooting x)
  where
    go : Rooting m A → (T : Plan) × (A.tree ≡ some T) × StandsAt m (header_at m).root T
    go (bare e w) = absurd (n w)
    go (planted T e s) = (T, e, s)

-- some tree stands at the root of a fit pool that keeps a key
pub root_rooted : {m : List ℕ} → Fit m → ((header_at m).root ≡ no_node → ⊥) → Rooted m (header_at m).root
root_rooted f n = let x = some_root f.image n in record { plan = x.0; stands = x.2 }
