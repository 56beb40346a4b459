-- `put_joined_points` meets its contract. The loop's invariant: all the stores on the output as it was are the stores that are left on the output as it is.
-- The measure is how many points are left of both records. Assumes nothing.
use Rattle.joiner.proofs.PointTurns.{turn_within_a, turn_within_b, turn_left, put_joins, put_room, put_place, put_bytes, put_done_place, put_done}
use Rattle.joiner.proofs.points.put_joined_points.Goals as goal

pub put_point-at-requires : goal.put_point-at-requires
put_point-at-requires c =
    put_room _ _ _ _ _ _ _ c.take_point.ensures _ c.unwrap-point.ensures c.loop-left_a.invariant.3 _ _ _ c.kind.ensures c.key.ensures c.payload.ensures
    _ _ _ _ c.loop-left_a.invariant.4 c.requires.room c.loop-left_a.auto.output

pub loop-left_a-preserved : goal.loop-left_a-preserved
loop-left_a-preserved c = (
  turn_within_a _ _ _ _ _ _ _ c.take_point.ensures _ c.unwrap-point.ensures,
  turn_within_b _ _ _ _ _ _ _ c.take_point.ensures _ c.unwrap-point.ensures,
  turn_left _ _ _ _ _ _ _ c.take_point.ensures _ c.unwrap-point.ensures _ c.loop-left_a.invariant.2,
  put_joins _ _ _ _ _ _ _ c.take_point.ensures _ c.unwrap-point.ensures c.loop-left_a.invariant.3,
  put_place _ _ _ _ _ _ _ c.take_point.ensures _ c.unwrap-point.ensures c.loop-left_a.invariant.3 _ _ _ c.kind.ensures c.key.ensures c.payload.ensures _ _ _ c.loop-left_a.invariant.4 c.put_point-at.ensures.value,
  put_bytes _ _ _ _ _ _ _ c.take_point.ensures _ c.unwrap-point.ensures c.loop-left_a.invariant.3 _ _ _ c.kind.ensures c.key.ensures c.payload.ensures
      _ _ _ _ _ c.loop-left_a.invariant.5 c.put_point-at.ensures.output_after c.put_point-at.ensures.value,
)

pub returns : goal.returns
returns c = record {
  value = put_done_place _ _ _ _ c.loop-left_a-test.false _ _ c.loop-left_a.invariant.4;
  output_after = put_done _ _ _ _ c.loop-left_a-test.false _ _ _ c.loop-left_a.invariant.5;
}
