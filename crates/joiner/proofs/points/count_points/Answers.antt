-- `count_points` meets its contract. The loop's invariant: what the points that are left come to, with those counted so far, is what all come to.
-- The measure is how many are left of both records. Assumes nothing.
use mathlib.Core.Bool.{false, ◌&&◌}
use mathlib.Core.Path.{◌≡◌}
use borrow.Author.Rules.{rules}
use Rattle.joiner.specs.PointSteps.{last_scans, starts_by}
use Rattle.joiner.proofs.PointTurns.{count_starts, ahead_order, passed_order, count_bad, count_scanned, count_next, count_done, turn_within_a, turn_within_b, turn_bound, turn_size}
use Rattle.joiner.proofs.points.count_points.Goals as goal
use Rattle.joiner.proofs.points.count_points.Goals.{else-next-via-then-next+else-starts_by, else-next-via-else-next}

pub loop-left_a-init : goal.loop-left_a-init
loop-left_a-init c =
    rw (c.points-left_a.ensures, c.points-left_b.ensures)
    (search rules, search rules, search rules, search rules, search rules, ahead_order _ c.args.head_b c.requires.heads_fit.2 c.requires.scans_taken, count_starts _ c.args.head_b _ _ c.requires.heads_fit.2 c.requires.scans_taken)

pub returns-in_err-next : goal.returns-in_err-next
returns-in_err-next c = rw c.from_residual.ensures (count_bad _ _ _ _ _ _ _ c.take_point.ensures _ _ _ _ c.loop-left_a.invariant.6 c.in_err-next.was)

pub returns-then-starts_by : goal.returns-then-starts_by
returns-then-starts_by c =
    count_scanned _ _ _ _ _ _ _ c.take_point.ensures _ c.in_ok-next.was _ c.key-key.ensures _ _ c.pass_scans-ahead.ensures.1 c.loop-left_a.invariant.5 _ _ _ c.loop-left_a.invariant.6
    _ c.starts_by.ensures c.if-next.true c.if-starts_by.true

pub loop-left_a-preserved : goal.loop-left_a-preserved
loop-left_a-preserved c =
    let clear : (c.in_ok-next.next.changed && starts_by c.key-key.result (last_scans c.pass_scans-ahead.result c.args.b.now)) ≡ false =
    elim c.else-next.branch [ else-next-via-then-next+else-starts_by w ↦ search rules | else-next-via-else-next w ↦ search rules ] in (
      search (turn_within_a, rules),
      search (turn_within_b, rules),
      search (turn_bound, rules),
      search (turn_size, rules),
      search rules,
      search (passed_order, rules),
      count_next _ _ _ _ _ _ _ c.take_point.ensures _ c.in_ok-next.was _ c.key-key.ensures _ _ c.pass_scans-ahead.ensures.1 c.loop-left_a.invariant.5 _ _ _ c.loop-left_a.invariant.6 _ c.size-size.ensures clear,
    )

pub returns : goal.returns
returns c = count_done _ _ _ _ c.loop-left_a-test.false _ _ _ _ c.loop-left_a.invariant.6
