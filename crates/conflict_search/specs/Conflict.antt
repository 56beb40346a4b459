-- What the walk answers: which leaf is the conflict, and the looks of the search (R35).
-- Assumes nothing: these are definitions.
use Rattle.std.specs.Prelude as Code
use Rattle.std.specs.Prelude.{ℕ, List, [], ◌∷◌, ◌++◌, Some, None}
use Rattle.std.proofs.Math.Option.{Option, none, some}
use Rattle.record.specs.declared.point.Scan.{Scan}
use Rattle.std.specs.Prelude.{if◌then◌else◌}
use Rattle.rules.specs.State.{Entry}
use Rattle.rules.specs.Verdict.{hits}
use Rattle.rules.specs.Tree.{walk}
use Rattle.pool.specs.Plan.{Plan, leaf, node}
use Rattle.pool.specs.Image.{tree_or}
use Rattle.conflict_search.specs.declared.Searched.{Searched}

-- a leaf's number and its entry
pub record Leaf : Type 0 where
  pub number : ℕ
  pub entry : Entry

-- the leaves, from the left
abbrev pub leaves_of : Plan → List Leaf
leaves_of (leaf i e) = record { number = i; entry = e } ∷ []
leaves_of (node i h low l r) = leaves_of l ++ leaves_of r

-- the same where there may be no tree
abbrev pub leaves_or : Option Plan → List Leaf
leaves_or none = []
leaves_or (some T) = leaves_of T

-- the number of the first leaf that is named or scanned and was written above s, if there is one
unfoldable pub first_hit : ℕ → List Scan → List Leaf → Code.Option ℕ
first_hit s f [] = None
first_hit s f (x ∷ xs) = if hits s f x.entry then Some x.number else first_hit s f xs

-- that leaf, and how many nodes the search looks at
abbrev pub conflict_in : ℕ → List Scan → Option Plan → Searched
conflict_in s f t = record { leaf = first_hit s f (leaves_or t); looks = (walk s f (tree_or t)).looks }
