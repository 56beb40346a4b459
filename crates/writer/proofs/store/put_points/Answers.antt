-- `put_points` meets its contract. The loop's invariant: all the stores on the output as it was are the stores that are left on the output as it is.
-- Assumes nothing.
use Rattle.writer.proofs.StoreLaws.{points_room, points_place, points_bytes_lem, points_done_place, points_done}
use borrow.Author.Rules.{rules}
use Rattle.writer.proofs.store.put_points.Goals as goal

pub put_point-at-requires : goal.put_point-at-requires
put_point-at-requires c = search (points_room, rules)

pub loop-i-preserved : goal.loop-i-preserved
loop-i-preserved c = (search (points_place, rules), search (points_bytes_lem, rules))

pub returns : goal.returns
returns c = record { value = search (points_done_place, rules); output_after = search (points_done, rules) }
