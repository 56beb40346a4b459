-- `fill_points` meets its contract. The loop's invariant: all the stores on the lists as they were are the stores that are left on the lists as they are.
-- Assumes nothing.
use Rattle.record.specs.Parse.{point_items}
use Rattle.record.specs.Steps.{point_within}
use Rattle.record.proofs.FillLaws.{fill_some, fill_whole, fill_place, fill_list, done_place, done_list}
use borrow.Author.Rules.{rules}
use Rattle.record.proofs.reader.fill_points.Goals as goal

pub unwrap-point-requires : goal.unwrap-point-requires
unwrap-point-requires c = fill_some point_items _ _ _ _ _ _ c.point_at.ensures c.loop-i-test.true c.loop-i.invariant.1

pub loop-i-preserved : goal.loop-i-preserved
loop-i-preserved c = (
  search (point_within, rules),
  search (fill_whole, rules),
  search (fill_place, rules),
  search (fill_list, rules),
  search (fill_list, rules),
  search (fill_list, rules),
)

pub returns : goal.returns
returns c = record { value = search (done_place, rules); kinds_after = search (done_list, rules); keys_after = search (done_list, rules); payloads_after = search (done_list, rules) }
