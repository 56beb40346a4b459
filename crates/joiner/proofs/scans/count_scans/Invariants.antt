-- `count_scans` meets its contract. The loop's invariant: the scans that are over and those to come, of the held scan and what is left of both records,
-- are as many as there are in all. The measure is how many scans are left. Assumes nothing.
use Prim.Native.Nat.{◌+◌, ◌≤◌}
use mathlib.Core.Path.{◌≡◌}
use lib.ListN.{length}
use Rattle.record.specs.Parse.{scan_items}
use Rattle.joiner.specs.Left.{run_left}
use Rattle.joiner.specs.ScanSteps.{all_scans, scans_count}
use Rattle.joiner.proofs.ScanTurns.{Held, still_count}
use Rattle.joiner.proofs.scans.count_scans.Given as goal

abbrev pub invariant-loop-left_a : goal.invariant-loop-left_a
invariant-loop-left_a l =
    (l.left_a.at ≤ length l.a) × (l.left_b.at ≤ length l.b)
    × (l.scans + (l.left_a.count + l.left_b.count) ≤ l.fn.head_a.scans + l.fn.head_b.scans)
    × Held l.held (run_left scan_items l.a l.left_a) (run_left scan_items l.b l.left_b)
    × (scans_count (all_scans l.a l.fn.head_a) (all_scans l.b l.fn.head_b) ≡ still_count l.scans l.held (run_left scan_items l.a l.left_a) (run_left scan_items l.b l.left_b))

abbrev pub decreases-loop-left_a : goal.decreases-loop-left_a
decreases-loop-left_a l = l.left_a.count + l.left_b.count
