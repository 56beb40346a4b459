-- `put_scans` meets its contract. The loop's invariant: all the stores on the output as it was are the stores that are left on the output as it is.
-- Assumes nothing.
use Rattle.writer.proofs.StoreLaws.{scans_room, scans_place, scans_bytes_lem, scans_done}
use borrow.Author.Rules.{rules}
use Rattle.writer.proofs.store.put_scans.Goals as goal

pub put_scan-requires : goal.put_scan-requires
put_scan-requires c = search (scans_room, rules)

pub loop-i-preserved : goal.loop-i-preserved
loop-i-preserved c = (search (scans_place, rules), search (scans_bytes_lem, rules))

pub returns : goal.returns
returns c = search (scans_done, rules)
