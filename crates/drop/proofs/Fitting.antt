-- From the image of an arrangement to what the recursions start from: a tree in the bytes whose heights fall, and free nodes apart from it.
-- Assumes nothing.
use Prim.Native.Nat.{ℕ, ◌*◌, ◌≤◌}
use native.Mathlib.Omega.{arith}
use mathlib.Core.Path.{◌≡◌, subst, subst⁻¹}
use mathlib.Core.List.{List, ◌++◌}
use mathlib.Core.Option.{Option, some}
use lib.ListN.{length}
use Rattle.rules.specs.Tree.{Tree, entries}
use Rattle.rules.specs.Shape.{Canonical, none as nothing, one, two, on_left, on_right}
use Rattle.rules.proofs.Trees.{tree_of_canonical}
use Rattle.pool.specs.Plan.{Plan, numbers}
use Rattle.pool.specs.Subtree.{height_of}
use Rattle.pool.specs.Image.{Arrangement, Arranged, Image, AllBelow, Distinct, HoldsTree, tree_or, numbers_or}
use Rattle.pool.proofs.Numbers.{times_append, below_part}
use Rattle.drop.specs.Spot.{Falling, StandsBelow, Spot}

-- HEIGHTS FALL

-- a tree of the rules' shape has falling heights
canonical_falling : {h low : ℕ} {t : Tree} → Canonical h low t → (height_of t ≤ h) × Falling t
canonical_falling {h} nothing = (omega arith, tt)
canonical_falling {h} (one a b) = (omega arith, tt)
canonical_falling (two {h = h} {l = l} {r = r} a b f g) =
    let x = canonical_falling f in
    let y = canonical_falling g in
    (omega arith, (omega arith, omega arith, x.1, y.1))
canonical_falling (on_left f) = let x = canonical_falling f in (omega arith, x.1)
canonical_falling (on_right f) = let x = canonical_falling f in (omega arith, x.1)

-- so has the tree of an arrangement
pub arranged_falling : (A : Arrangement) → Arranged A → Falling (tree_or A.tree)
arranged_falling A g = subst⁻¹ (λ (t : Tree). Falling t) g.shape (canonical_falling (tree_of_canonical 32 0 g.lawful.rising)).1

-- THE TREE OF AN IMAGE

module _ (m : List ℕ) (A : Arrangement) (T : Plan) (g : Image m A) (e : A.tree ≡ some T) where
  -- tree and free nodes together are all nodes, each once
  lists : AllBelow (2 * A.N) (numbers T ++ A.free) × Distinct (numbers T ++ A.free) × (length (numbers T ++ A.free) ≡ 2 * A.N)
  lists = subst (λ (X : Option Plan). AllBelow (2 * A.N) (numbers_or X ++ A.free) × Distinct (numbers_or X ++ A.free) × (length (numbers_or X ++ A.free) ≡ 2 * A.N)) e (g.arranged.below, g.arranged.distinct, g.arranged.all)

  -- it stands in the bytes
  pub image_stands : StandsBelow m (2 * A.N) T
  image_stands = record {
    small = omega (arith, g.arranged.lawful.limit_N);
    room = omega (arith, g.size);
    holds = subst (λ (X : Option Plan). HoldsTree m X) e g.tree;
    falling = subst (λ (X : Option Plan). Falling (tree_or X)) e (arranged_falling A g.arranged);
    below = below_part (2 * A.N) (numbers T ++ A.free) (numbers T) (λ j. omega (arith, times_append j (numbers T) A.free)) lists.0;
    few = subst (λ (X : Option Plan). length (entries (tree_or X)) ≤ 65536) e (omega (arith, g.arranged.lawful.few, g.arranged.lawful.limit_N));
  }

  -- and so do the free nodes, apart from it
  pub image_spot : Spot m (2 * A.N) T A.free
  image_spot = record {
    small = omega (arith, g.arranged.lawful.limit_N);
    room = omega (arith, g.size);
    bytes = g.bytes;
    holds = subst (λ (X : Option Plan). HoldsTree m X) e g.tree;
    falling = subst (λ (X : Option Plan). Falling (tree_or X)) e (arranged_falling A g.arranged);
    free = g.free;
    below = lists.0;
    distinct = lists.1;
    fewer = omega (arith, lists.2);
  }
