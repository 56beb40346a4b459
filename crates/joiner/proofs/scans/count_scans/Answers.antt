-- `count_scans` meets its contract. The loop's invariant: the scans that are over and those to come, of the held scan and what is left of both records,
-- are as many as there are in all. The measure is how many scans are left. Assumes nothing.
use Rattle.joiner.proofs.ScanTurns.{held_first, count_first}
use Rattle.joiner.proofs.ScanLoops.{loop_within_a, loop_within_b, loop_bound, loop_held, loop_count, last_count}
use borrow.Author.Rules.{rules}
use Rattle.joiner.proofs.scans.count_scans.Goals as goal

pub loop-left_a-init : goal.loop-left_a-init
loop-left_a-init c = rw (c.scans-left_a.ensures, c.scans-left_b.ensures) (search rules, search rules, search rules, held_first _ _ _ _, count_first _ _)

pub loop-left_a-preserved : goal.loop-left_a-preserved
loop-left_a-preserved c = (
  loop_within_a _ _ _ _ _ _ _ c.take_scan.ensures _ c.in_ok-scan.was,
  loop_within_b _ _ _ _ _ _ _ c.take_scan.ensures _ c.in_ok-scan.was,
  search (loop_bound, rules),
  loop_held _ _ _ _ _ _ _ c.take_scan.ensures _ c.in_ok-scan.was _ c.loop-left_a.invariant.3 _ c.grow.ensures,
  loop_count _ _ _ _ _ _ _ c.take_scan.ensures _ c.in_ok-scan.was _ c.loop-left_a.invariant.3 _ c.grow.ensures _ _ _ _ _ c.loop-left_a.invariant.4 c.ended.ensures c.is_some.ensures c.from-scans.ensures,
)

pub returns : goal.returns
returns c = search (last_count, rules)
