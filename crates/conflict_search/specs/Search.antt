-- What the search at a node asks, and what it answers of every tree that stands there.
-- Assumes nothing: these are definitions.
use Rattle.std.specs.Prelude.{ℕ, ◌≤◌, ◌≡◌, List, length}
use Rattle.rules.specs.Tree.{walk}
use Rattle.pool.specs.Plan.{Plan, tree_in}
use Rattle.pool.specs.Subtree.{StandsAt, Rooted, start_at, end_at}
use Rattle.conflict_search.specs.declared.cursor.Cursors.{Cursors}
use Rattle.conflict_search.specs.declared.search.Progress.{Progress}
use Rattle.conflict_search.specs.Sorted.{footprint}
use Rattle.conflict_search.specs.Cursor.{Passed}
use Rattle.conflict_search.specs.Conflict.{leaves_of, first_hit}

-- a tree stands at node i, and the cursors have passed only what lies before its cover
pub record SearchReady (m : List ℕ) (i : ℕ) (keys lows highs : List ℕ) (from : Cursors) : Type 0 where
  pub rooted : Rooted m i
  pub point_in : from.point ≤ length keys
  pub scan_in : from.scan ≤ length highs
  pub points : Passed keys from.point (start_at m i)
  pub scans : Passed highs from.scan (start_at m i)

-- the leaf and the looks are the walk's; the cursors moved forward, and have passed only what lies before the end of the node's cover
pub record SearchedBelow (m : List ℕ) (i s : ℕ) (keys lows highs : List ℕ) (from : Cursors) (r : Progress) : Type 0 where
  pub leaf : (T : Plan) → StandsAt m i T → r.leaf ≡ first_hit s (footprint keys lows highs) (leaves_of T)
  pub looks : (T : Plan) → StandsAt m i T → r.looks ≡ (walk s (footprint keys lows highs) (tree_in T)).looks
  pub point_on : from.point ≤ r.cursors.point
  pub scan_on : from.scan ≤ r.cursors.scan
  pub point_in : r.cursors.point ≤ length keys
  pub scan_in : r.cursors.scan ≤ length highs
  pub points : Passed keys r.cursors.point (end_at m i)
  pub scans : Passed highs r.cursors.scan (end_at m i)
