-- `put_joined_scans` meets its contract. The loop's invariant: all the stores on the output as it was are those of the scans to come, of the held scan
-- and what is left of both records, on the output as it is. The measure is how many scans are left. Assumes nothing.
use Rattle.joiner.proofs.ScanTurns.{held_first}
use Rattle.joiner.proofs.ScanLoops.{loop_left, loop_within_a, loop_within_b, loop_held, loop_both, loop_room, loop_place, loop_stores, last_room, last_stores}
use borrow.Author.Rules.{rules}
use Rattle.joiner.proofs.scans.put_joined_scans.Goals as goal

pub loop-left_a-init : goal.loop-left_a-init
loop-left_a-init c = rw (c.scans-left_a.ensures, c.scans-left_b.ensures) (search rules, search rules, search rules, held_first _ _ _ _, search rules, search rules, search rules)

pub put_held-at-requires : goal.put_held-at-requires
put_held-at-requires c =
    loop_room _ _ _ _ _ _ _ c.take_scan.ensures _ c.unwrap-scan.ensures _ c.loop-left_a.invariant.3 c.loop-left_a.invariant.4 _ c.ended.ensures
    _ _ _ _ c.loop-left_a.invariant.5 c.requires.room c.loop-left_a.auto.output

pub loop-left_a-preserved : goal.loop-left_a-preserved
loop-left_a-preserved c = (
  loop_within_a _ _ _ _ _ _ _ c.take_scan.ensures _ c.unwrap-scan.ensures,
  loop_within_b _ _ _ _ _ _ _ c.take_scan.ensures _ c.unwrap-scan.ensures,
  loop_left _ _ _ _ _ _ _ c.take_scan.ensures _ c.unwrap-scan.ensures _ c.loop-left_a.invariant.2,
  loop_held _ _ _ _ _ _ _ c.take_scan.ensures _ c.unwrap-scan.ensures _ c.loop-left_a.invariant.3 _ c.grow.ensures,
  loop_both _ _ _ _ _ _ _ c.take_scan.ensures _ c.unwrap-scan.ensures _ c.loop-left_a.invariant.3 _ c.grow.ensures c.loop-left_a.invariant.4,
  loop_place _ _ _ _ _ _ _ c.take_scan.ensures _ c.unwrap-scan.ensures _ c.loop-left_a.invariant.3 _ c.grow.ensures c.loop-left_a.invariant.4 _ _ c.ended.ensures _ _ c.loop-left_a.invariant.5 c.put_held-at.ensures.1,
  loop_stores _ _ _ _ _ _ _ c.take_scan.ensures _ c.unwrap-scan.ensures _ c.loop-left_a.invariant.3 _ c.grow.ensures c.loop-left_a.invariant.4 _ _ c.ended.ensures _ _ _ _ c.loop-left_a.invariant.6 c.put_held-at.ensures.0 c.put_held-at.ensures.1,
)

pub put_held-requires : goal.put_held-requires
put_held-requires c = let k = c.loop-left_a.auto.output in search (last_room, rules)

pub returns : goal.returns
returns c = search (last_stores, rules)
