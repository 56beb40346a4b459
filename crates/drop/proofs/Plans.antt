-- The drop in a plan: the tree that is left is the pruned tree, and each number of the plan is in what is left or among the free ones.
-- Assumes nothing.
use Prim.Native.Nat.{ℕ, suc, ◌+◌, ◌≤◌, ◌<◌}
use native.Mathlib.Omega.{arith}
use mathlib.Core.Path.{◌≡◌, refl, ◌∙◌}
use mathlib.Core.Bool.{Bool, true, false, not}
use mathlib.Core.List.{List, [], ◌∷◌, Memᴰ as Mem}
use mathlib.Core.Option.{Option, none, some}
use lib.ListN.{length, length-append}
use Rattle.std.specs.Prelude.{if◌then◌else◌}
use Rattle.rules.specs.Tree.{Tree, empty, join, oldest}
use Rattle.rules.proofs.Prune.{prune}
use Rattle.pool.specs.Plan.{Plan, leaf, node, tree_in, numbers}
use Rattle.pool.specs.Image.{tree_or, numbers_or}
use Rattle.pool.specs.Times.{times}
use Rattle.pool.proofs.Numbers.{times_append, mem_times, times_mem}
use Rattle.drop.specs.Old.{old, stays}
use Rattle.drop.specs.Drop.{join_plan, join_free, drop_plan, freed}
use Rattle.drop.proofs.Olds.{leaf_young}

-- THE TREE

-- joining two sides, as plans and as trees
join_tree : (i h low : ℕ) (A B : Option Plan) → tree_or (join_plan i h low A B) ≡ join h low (tree_or A) (tree_or B)
join_tree i h low none B = refl
join_tree i h low (some (leaf j e)) none = refl
join_tree i h low (some (node j k w l r)) none = refl
join_tree i h low (some (leaf j e)) (some (leaf j' e')) = refl
join_tree i h low (some (leaf j e)) (some (node j' k' w' l' r')) = refl
join_tree i h low (some (node j k w l r)) (some (leaf j' e')) = refl
join_tree i h low (some (node j k w l r)) (some (node j' k' w' l' r')) = refl

-- what is left of the plan is what is left of its tree
pub drop_tree_lem : (limit : ℕ) (T : Plan) → tree_or (drop_plan limit T) ≡ prune (stays limit) (tree_in T)
unfolding drop_plan prune
drop_tree_lem limit (leaf i e) = go (old limit e)
  where
    go : (b : Bool) → tree_or (if b then none else some (leaf i e)) ≡ (if not b then Tree.leaf e else empty)
    go true = refl
    go false = refl
drop_tree_lem limit (node i h low l r) = join_tree i h low (drop_plan limit l) (drop_plan limit r) ∙ rw (drop_tree_lem limit l, drop_tree_lem limit r)

-- THE NUMBERS

-- joining two sides keeps each number, in the tree or free
join_times : (j i h low : ℕ) (A B : Option Plan) (F : List ℕ)
    → times j (numbers_or (join_plan i h low A B)) + times j (join_free i A B F) ≡ times j (i ∷ []) + (times j (numbers_or A) + times j (numbers_or B)) + times j F
unfolding times
join_times j i h low none B F = omega arith
join_times j i h low (some a) none F = omega arith
join_times j i h low (some a) (some b) F = omega (arith, times_append j (numbers a) (numbers b))

-- each number as often as before, in what is left or among the free ones
pub drop_times : (j limit : ℕ) (T : Plan) (F : List ℕ) → times j (numbers_or (drop_plan limit T)) + times j (freed limit T F) ≡ times j (numbers T) + times j F
unfolding drop_plan freed times
drop_times j limit (leaf i e) F = go (old limit e)
  where
    go : (b : Bool) → times j (numbers_or (if b then none else some (leaf i e))) + times j (if b then i ∷ F else F) ≡ times j (i ∷ []) + times j F
    go true = omega arith
    go false = omega arith
drop_times j limit (node i h low l r) F =
    join_times j i h low (drop_plan limit l) (drop_plan limit r) (freed limit r (freed limit l F))
    ∙ omega (arith, drop_times j limit l F, drop_times j limit r (freed limit l F), times_append j (numbers l) (numbers r))

-- and their number
join_length : (i h low : ℕ) (A B : Option Plan) (F : List ℕ)
    → length (numbers_or (join_plan i h low A B)) + length (join_free i A B F) ≡ suc (length (numbers_or A) + length (numbers_or B)) + length F
join_length i h low none B F = omega arith
join_length i h low (some a) none F = omega arith
join_length i h low (some a) (some b) F = omega (arith, length-append (numbers a) (numbers b))

-- and as many in all
pub drop-length : (limit : ℕ) (T : Plan) (F : List ℕ) → length (numbers_or (drop_plan limit T)) + length (freed limit T F) ≡ length (numbers T) + length F
unfolding drop_plan freed
drop-length limit (leaf i e) F = go (old limit e)
  where
    go : (b : Bool) → length (numbers_or (if b then none else some (leaf i e))) + length (if b then i ∷ F else F) ≡ 1 + length F
    go true = omega arith
    go false = omega arith
drop-length limit (node i h low l r) F =
    join_length i h low (drop_plan limit l) (drop_plan limit r) (freed limit r (freed limit l F))
    ∙ omega (arith, drop-length limit l F, drop-length limit r (freed limit l F), length-append (numbers l) (numbers r))

-- joining adds at most the node's own number
join_fewer : (j i h low : ℕ) (A B : Option Plan) → times j (numbers_or (join_plan i h low A B)) ≤ times j (i ∷ []) + (times j (numbers_or A) + times j (numbers_or B))
unfolding times
join_fewer j i h low none B = omega arith
join_fewer j i h low (some a) none = omega arith
join_fewer j i h low (some a) (some b) = omega (arith, times_append j (numbers a) (numbers b))

-- what is left has no number that was not there
pub left_times : (j limit : ℕ) (T : Plan) → times j (numbers_or (drop_plan limit T)) ≤ times j (numbers T)
unfolding drop_plan times
left_times j limit (leaf i e) = go (old limit e)
  where
    go : (b : Bool) → times j (numbers_or (if b then none else some (leaf i e))) ≤ times j (i ∷ [])
    go true = omega arith
    go false = omega arith
left_times j limit (node i h low l r) =
    omega (arith, join_fewer j i h low (drop_plan limit l) (drop_plan limit r), left_times j limit l, left_times j limit r, times_append j (numbers l) (numbers r))

-- a node that is left was there before
pub left_mem : (limit : ℕ) (T : Plan) {j : ℕ} → Mem j (numbers_or (drop_plan limit T)) → Mem j (numbers T)
left_mem limit T {j} s = times_mem j (numbers T) (omega (arith, mem_times s, left_times j limit T))

-- A TREE ABOVE THE LIMIT

-- is left as it is
pub drop_none : (limit : ℕ) (T : Plan) → limit < oldest (tree_in T) → drop_plan limit T ≡ some T
unfolding drop_plan oldest
drop_none limit (leaf i e) h = rw (leaf_young limit e h)
drop_none limit (node i k low l r) h = rw (drop_none limit l (omega arith), drop_none limit r (omega arith))

-- and frees nothing
pub freed_none : (limit : ℕ) (T : Plan) (F : List ℕ) → limit < oldest (tree_in T) → freed limit T F ≡ F
unfolding freed oldest
freed_none limit (leaf i e) F h = rw (leaf_young limit e h)
freed_none limit (node i k low l r) F h =
    rw (drop_none limit l (omega arith), drop_none limit r (omega arith), freed_none limit l F (omega arith)) (freed_none limit r F (omega arith))
