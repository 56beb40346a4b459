-- How many nodes a tree has once an entry is stored in it: the same numbers, or two more; and how many leaves.
-- Assumes nothing.
use Prim.Native.Nat.{ℕ, suc, ◌+◌, ◌-◌, ◌*◌, ◌/◌, ◌^◌}
use mathlib.Core.Path.{◌≡◌, refl}
use mathlib.Core.Bool.{Bool, true, false}
use mathlib.Core.List.{List, [], ◌∷◌}
use native.Mathlib.Omega.{arith}
use lib.ListN.{length, length-append}
use lib.Dec.{ltb}
use Rattle.bits.specs.Bits.{part_height}
use Rattle.std.specs.Prelude.{if◌then◌else◌}
use Rattle.rules.specs.State.{Entry}
use Rattle.rules.specs.Tree.{entries, first}
use Rattle.pool.specs.Plan.{Plan, leaf, node, tree_in, number, numbers}
use Rattle.pool.specs.Times.{times}
use Rattle.pool.proofs.Numbers.{times_append}
use Rattle.put.specs.Storing.{covered, has, beside, put_plan}

-- the nodes that a new key takes
abbrev pub taken : Bool → ℕ → ℕ → List ℕ
taken true a b = []
taken false a b = a ∷ b ∷ []

module _ (a b : ℕ) (e : Entry) (j : ℕ) where
  times_beside : (T : Plan) → times j (numbers (beside a b e T)) ≡ times j (numbers T) + times j (a ∷ b ∷ [])
  unfolding times
  times_beside T = go (ltb e.key (first (tree_in T)))
    where
      h : ℕ
      h = part_height (first (tree_in T)) e.key

      go : (s : Bool) → times j (numbers (if s then node a h (e.key / 2 ^ h * 2 ^ h) (leaf b e) T else node a h (e.key / 2 ^ h * 2 ^ h) T (leaf b e))) ≡ times j (numbers T) + times j (a ∷ b ∷ [])
      go true = omega arith
      go false = omega (arith, times_append j (numbers T) (b ∷ []))

  -- each number stands as often as before, or is one of the two that were taken
  pub times_put : (T : Plan) → times j (numbers (put_plan a b e T)) ≡ times j (numbers T) + times j (taken (has e.key T) a b)
  unfolding times put_plan has
  times_put (leaf i x) = go (covered x.key 0 e.key)
    where
      go : (c : Bool) → times j (numbers (if c then leaf i e else beside a b e (leaf i x))) ≡ times j (i ∷ []) + times j (taken c a b)
      go true = omega arith
      go false = times_beside (leaf i x)
  times_put (node i h low l r) = go (covered low h e.key) (covered low (h - 1) e.key) (times_put l) (times_put r)
    where
      go : (c d : Bool) → times j (numbers (put_plan a b e l)) ≡ times j (numbers l) + times j (taken (has e.key l) a b)
          → times j (numbers (put_plan a b e r)) ≡ times j (numbers r) + times j (taken (has e.key r) a b)
          → times j (numbers (if c then (if d then node i h low (put_plan a b e l) r else node i h low l (put_plan a b e r)) else beside a b e (node i h low l r)))
          ≡ times j (numbers (node i h low l r)) + times j (taken (if c then (if d then has e.key l else has e.key r) else false) a b)
      go true true f g = omega (arith, times_append j (numbers l) (numbers r), times_append j (numbers (put_plan a b e l)) (numbers r))
      go true false f g = omega (arith, times_append j (numbers l) (numbers r), times_append j (numbers l) (numbers (put_plan a b e r)))
      go false d f g = times_beside (node i h low l r)

-- n leaves take 2 · n − 1 nodes
pub node_count : (T : Plan) → suc (length (numbers T)) ≡ 2 * length (entries (tree_in T))
unfolding entries
node_count (leaf i x) = refl
node_count (node i h low l r) =
    omega (arith, node_count l, node_count r, length-append (numbers l) (numbers r), length-append (entries (tree_in l)) (entries (tree_in r)))

-- the same of how many there are
module _ (a b : ℕ) (e : Entry) where
  length_beside : (T : Plan) → length (numbers (beside a b e T)) ≡ length (numbers T) + 2
  length_beside T = go (ltb e.key (first (tree_in T)))
    where
      h : ℕ
      h = part_height (first (tree_in T)) e.key

      go : (s : Bool) → length (numbers (if s then node a h (e.key / 2 ^ h * 2 ^ h) (leaf b e) T else node a h (e.key / 2 ^ h * 2 ^ h) T (leaf b e))) ≡ length (numbers T) + 2
      go true = omega arith
      go false = omega (arith, length-append (numbers T) (b ∷ []))

  pub length_put : (T : Plan) → length (numbers (put_plan a b e T)) ≡ length (numbers T) + length (taken (has e.key T) a b)
  unfolding put_plan has
  length_put (leaf i x) = go (covered x.key 0 e.key)
    where
      go : (c : Bool) → length (numbers (if c then leaf i e else beside a b e (leaf i x))) ≡ 1 + length (taken c a b)
      go true = omega arith
      go false = length_beside (leaf i x)
  length_put (node i h low l r) = go (covered low h e.key) (covered low (h - 1) e.key) (length_put l) (length_put r)
    where
      go : (c d : Bool) → length (numbers (put_plan a b e l)) ≡ length (numbers l) + length (taken (has e.key l) a b)
          → length (numbers (put_plan a b e r)) ≡ length (numbers r) + length (taken (has e.key r) a b)
          → length (numbers (if c then (if d then node i h low (put_plan a b e l) r else node i h low l (put_plan a b e r)) else beside a b e (node i h low l r)))
          ≡ length (numbers (node i h low l r)) + length (taken (if c then (if d then has e.key l else has e.key r) else false) a b)
      go true true f g = omega (arith, length-append (numbers l) (numbers r), length-append (numbers (put_plan a b e l)) (numbers r))
      go true false f g = omega (arith, length-append (numbers l) (numbers r), length-append (numbers l) (numbers (put_plan a b e r)))
      go false d f g = length_beside (node i h low l r)

  -- a key that the tree has leaves the root where it was
  pub root_put : (T : Plan) → has e.key T ≡ true → number (put_plan a b e T) ≡ number T
  unfolding put_plan has
  root_put (leaf i x) q = rw q
  root_put (node i h low l r) q = go (covered low h e.key) (covered low (h - 1) e.key) q
    where
      go : (c d : Bool) → (if c then (if d then has e.key l else has e.key r) else false) ≡ true
          → number (if c then (if d then node i h low (put_plan a b e l) r else node i h low l (put_plan a b e r)) else beside a b e (node i h low l r)) ≡ i
      go true true q = refl
      go true false q = refl
      go false d q = let z : ◌≡◌ {A = ℕ} 0 1 = cc in absurd (omega arith)
