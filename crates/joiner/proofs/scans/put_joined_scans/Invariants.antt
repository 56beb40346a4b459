-- `put_joined_scans` meets its contract. The loop's invariant: all the stores on the output as it was are those of the scans to come, of the held scan
-- and what is left of both records, on the output as it is. The measure is how many scans are left. Assumes nothing.
use Prim.Native.Nat.{◌+◌, ◌≤◌}
use mathlib.Core.Path.{◌≡◌}
use lib.ListN.{length}
use lib.Seq.{sets}
use Rattle.record.specs.Record.{scans_bytes}
use Rattle.record.specs.Parse.{scan_items}
use Rattle.joiner.specs.Left.{run_left}
use Rattle.joiner.specs.ScanSteps.{all_scans, BothTaken, scans_of_both}
use Rattle.joiner.proofs.ScanTurns.{Held}
use Rattle.joiner.proofs.ScanLoops.{left_to_come}
use Rattle.joiner.proofs.scans.put_joined_scans.Given as goal

abbrev pub invariant-loop-left_a : goal.invariant-loop-left_a
invariant-loop-left_a l =
    (l.left_a.at ≤ length l.a) × (l.left_b.at ≤ length l.b) × (l.left_a.count + l.left_b.count ≤ l.fn.head_a.scans + l.fn.head_b.scans)
    × Held l.held (run_left scan_items l.a l.left_a) (run_left scan_items l.b l.left_b)
    × BothTaken (run_left scan_items l.a l.left_a) (run_left scan_items l.b l.left_b)
    × (l.start + length (scans_bytes (scans_of_both (all_scans l.a l.fn.head_a) (all_scans l.b l.fn.head_b)))
    ≡ l.at + length (scans_bytes (left_to_come l.held l.a l.left_a l.b l.left_b)))
    × (sets l.initial.output l.start (scans_bytes (scans_of_both (all_scans l.a l.fn.head_a) (all_scans l.b l.fn.head_b)))
    ≡ sets l.output l.at (scans_bytes (left_to_come l.held l.a l.left_a l.b l.left_b)))

abbrev pub decreases-loop-left_a : goal.decreases-loop-left_a
decreases-loop-left_a l = l.left_a.count + l.left_b.count
