-- `fill_scans` meets its contract. The loop's invariant: all the stores on the lists as they were are the stores that are left on the lists as they are.
-- Assumes nothing.
use Rattle.record.specs.Parse.{scan_items}
use Rattle.record.specs.Steps.{scan_within}
use Rattle.record.proofs.FillLaws.{fill_some, fill_whole, fill_list, done_list}
use borrow.Author.Rules.{rules}
use Rattle.record.proofs.reader.fill_scans.Goals as goal

pub unwrap-scan-requires : goal.unwrap-scan-requires
unwrap-scan-requires c = fill_some scan_items _ _ _ _ _ _ c.scan_at.ensures c.loop-i-test.true c.loop-i.invariant.1

pub loop-i-preserved : goal.loop-i-preserved
loop-i-preserved c = (search (scan_within, rules), search (fill_whole, rules), search (fill_list, rules), search (fill_list, rules))

pub returns-clause-lows_after : goal.returns-clause-lows_after
returns-clause-lows_after c = search (done_list, rules)

pub returns-clause-highs_after : goal.returns-clause-highs_after
returns-clause-highs_after c = search (done_list, rules)
