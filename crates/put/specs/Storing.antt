-- Storing an entry in an arrangement: what a put or a delete leaves.
-- Assumes nothing: these are definitions.
use Rattle.std.specs.Prelude.{ℕ, ◌+◌, ◌-◌, ◌*◌, ◌/◌, ◌^◌, Bool, false, ◌&&◌, List, [], ◌∷◌, ltb, leb}
use Rattle.std.proofs.Math.Option.{Option, none, some}
use Rattle.bits.specs.Bits.{part_height}
use Rattle.std.specs.Prelude.{if◌then◌else◌}
use Rattle.rules.specs.State.{Entry}
use Rattle.rules.specs.Tree.{first}
use Rattle.pool.specs.Plan.{Plan, leaf, node, tree_in}
use Rattle.pool.specs.Image.{Arrangement, first_of}

-- k lies in low .. low + 2 ^ h − 1
unfoldable pub covered : ℕ → ℕ → ℕ → Bool
covered low h k = leb low k && ltb k (low + 2 ^ h)

-- whether the tree has a leaf of key k, by one descent
unfoldable pub has : ℕ → Plan → Bool
has k (leaf i x) = covered x.key 0 k
has k (node i h low l r) = if covered low h k then (if covered low (h - 1) k then has k l else has k r) else false

-- a tree and a new leaf b of a key that the tree does not cover, below a new inner node a: it stands where the key and the tree part
abbrev pub beside : ℕ → ℕ → Entry → Plan → Plan
beside a b e T =
    let h = part_height (first (tree_in T)) e.key in
    let low = e.key / 2 ^ h * 2 ^ h in
    if ltb e.key (first (tree_in T)) then node a h low (leaf b e) T else node a h low T (leaf b e)

-- e stored in a tree: instead of the entry of its key, or as a new leaf b below a new inner node a
unfoldable pub put_plan : ℕ → ℕ → Entry → Plan → Plan
put_plan a b e (leaf i x) = if covered x.key 0 e.key then leaf i e else beside a b e (leaf i x)
put_plan a b e (node i h low l r) =
    if covered low h e.key
    then (if covered low (h - 1) e.key then node i h low (put_plan a b e l) r else node i h low l (put_plan a b e r))
    else beside a b e (node i h low l r)

-- all but the first
abbrev pub rest_of : List ℕ → List ℕ
rest_of [] = []
rest_of (i ∷ is) = is

-- the tree afterwards: the first free node is a first leaf, or the new inner node, and then the second is the new leaf
abbrev pub tree_after : Entry → List ℕ → Option Plan → Plan
tree_after e free none = leaf (first_of free) e
tree_after e free (some T) = put_plan (first_of free) (first_of (rest_of free)) e T

-- the free nodes afterwards
abbrev pub free_after : ℕ → List ℕ → Option Plan → List ℕ
free_after k free none = rest_of free
free_after k free (some T) = if has k T then free else rest_of (rest_of free)

-- the arrangement with e stored
abbrev pub put_in : Arrangement → Entry → Arrangement
put_in A e = record { N = A.N; Z = A.Z; p = A.p; tree = some (tree_after e A.free A.tree); free = free_after e.key A.free A.tree }
