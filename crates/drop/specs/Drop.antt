-- The drop of old tombstones in an arrangement: which nodes the tree has then, and in which order the others join the free nodes.
-- Assumes nothing: these are definitions.
use Rattle.std.specs.Prelude.{ℕ, List, ◌∷◌}
use Rattle.std.proofs.Math.Option.{Option, none, some}
use Rattle.std.specs.Prelude.{if◌then◌else◌}
use Rattle.pool.specs.Plan.{Plan, leaf, node}
use Rattle.pool.specs.Image.{Arrangement}
use Rattle.drop.specs.Old.{old}

-- an inner node with one side gone gives way to the other side
abbrev pub join_plan : ℕ → ℕ → ℕ → Option Plan → Option Plan → Option Plan
join_plan i h low none b = b
join_plan i h low (some a) none = some a
join_plan i h low (some a) (some b) = some (node i h low a b)

-- and is free then
abbrev pub join_free : ℕ → Option Plan → Option Plan → List ℕ → List ℕ
join_free i none b F = i ∷ F
join_free i (some a) none F = i ∷ F
join_free i (some a) (some b) F = F

-- what is left of a tree without its old leaves
unfoldable pub drop_plan : ℕ → Plan → Option Plan
drop_plan limit (leaf i e) = if old limit e then none else some (leaf i e)
drop_plan limit (node i h low l r) = join_plan i h low (drop_plan limit l) (drop_plan limit r)

-- the free nodes then: those of the left side come to the front first, then those of the right, then the node itself
unfoldable pub freed : ℕ → Plan → List ℕ → List ℕ
freed limit (leaf i e) F = if old limit e then i ∷ F else F
freed limit (node i h low l r) F = join_free i (drop_plan limit l) (drop_plan limit r) (freed limit r (freed limit l F))

-- both for an arrangement's tree, if there is one
abbrev pub drop_tree : ℕ → Option Plan → Option Plan
drop_tree limit none = none
drop_tree limit (some T) = drop_plan limit T

abbrev pub freed_tree : ℕ → Option Plan → List ℕ → List ℕ
freed_tree limit none F = F
freed_tree limit (some T) F = freed limit T F

-- the arrangement without its old tombstones
abbrev pub drop_in : ℕ → Arrangement → Arrangement
drop_in limit A =
    record {
      N = A.N;
      Z = A.Z;
      p = A.p;
      tree = drop_tree limit A.tree;
      free = freed_tree limit A.tree A.free;
    }
