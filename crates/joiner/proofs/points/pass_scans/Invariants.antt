-- `pass_scans` meets its contract. The loop's invariant: what is not below the key among the scans that are left is what is not below it among all. The measure is how many are left.
-- Assumes nothing.
use Prim.Native.Nat.{◌≤◌}
use mathlib.Core.Path.{◌≡◌}
use Rattle.joiner.specs.PointSteps.{last_scans, not_below}
use Rattle.joiner.proofs.points.pass_scans.Given as goal

abbrev pub invariant-loop-rest : goal.invariant-loop-rest
invariant-loop-rest l = (l.rest ≤ l.left) × (not_below l.key (last_scans l.left l.bytes) ≡ not_below l.key (last_scans l.rest l.bytes))

abbrev pub decreases-loop-rest : goal.decreases-loop-rest
decreases-loop-rest l = l.rest
