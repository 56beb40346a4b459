-- `count_points` meets its contract. The loop's invariant: what the points that are left come to, with those counted so far, is what all come to.
-- The measure is how many are left of both records. Assumes nothing.
use Prim.Native.Nat.{◌+◌, ◌*◌, ◌≤◌}
use mathlib.Core.Path.{◌≡◌}
use lib.ListN.{length}
use Rattle.record.specs.Parse.{list_of, point_items}
use Rattle.writer.proofs.NamedLaws.{ScansInOrder}
use Rattle.joiner.specs.ScanSteps.{all_scans}
use Rattle.joiner.specs.Left.{run_left}
use Rattle.joiner.specs.PointSteps.{all_points, last_scans, count_from, count_of}
use Rattle.joiner.proofs.points.count_points.Given as goal

abbrev pub invariant-loop-left_a : goal.invariant-loop-left_a
invariant-loop-left_a l =
    (l.left_a.at ≤ length l.a) × (l.left_b.at ≤ length l.b) × (l.points + (l.left_a.count + l.left_b.count) ≤ l.fn.head_a.points + l.fn.head_b.points) × (l.size ≤ 13 * l.points)
    × (8 * l.ahead ≤ length l.b) × ScansInOrder 0 (last_scans l.ahead l.b)
    × (count_of (list_of (all_scans l.b l.fn.head_b)) (all_points l.a l.fn.head_a) (all_points l.b l.fn.head_b)
    ≡ count_from l.points l.size (last_scans l.ahead l.b) (run_left point_items l.a l.left_a) (run_left point_items l.b l.left_b))

abbrev pub decreases-loop-left_a : goal.decreases-loop-left_a
decreases-loop-left_a l = l.left_a.count + l.left_b.count
