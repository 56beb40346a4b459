-- `put_joined_points` meets its contract. The loop's invariant: all the stores on the output as it was are the stores that are left on the output as it is.
-- The measure is how many points are left of both records. Assumes nothing.
use Prim.Native.Nat.{◌+◌, ◌≤◌}
use mathlib.Core.Path.{◌≡◌}
use lib.ListN.{length}
use lib.Seq.{sets}
use Rattle.record.specs.Record.{points_bytes}
use Rattle.record.specs.Parse.{point_items}
use Rattle.joiner.specs.Left.{run_left}
use Rattle.joiner.specs.PointSteps.{PointsJoin, all_points, points_of_both}
use Rattle.joiner.proofs.points.put_joined_points.Given as goal

abbrev pub invariant-loop-left_a : goal.invariant-loop-left_a
invariant-loop-left_a l =
    (l.left_a.at ≤ length l.a) × (l.left_b.at ≤ length l.b) × (l.left_a.count + l.left_b.count ≤ l.fn.head_a.points + l.fn.head_b.points)
    × PointsJoin (run_left point_items l.a l.left_a) (run_left point_items l.b l.left_b)
    × (l.start + length (points_bytes (points_of_both (all_points l.a l.fn.head_a) (all_points l.b l.fn.head_b)))
    ≡ l.at + length (points_bytes (points_of_both (run_left point_items l.a l.left_a) (run_left point_items l.b l.left_b))))
    × (sets l.initial.output l.start (points_bytes (points_of_both (all_points l.a l.fn.head_a) (all_points l.b l.fn.head_b)))
    ≡ sets l.output l.at (points_bytes (points_of_both (run_left point_items l.a l.left_a) (run_left point_items l.b l.left_b))))

abbrev pub decreases-loop-left_a : goal.decreases-loop-left_a
decreases-loop-left_a l = l.left_a.count + l.left_b.count
