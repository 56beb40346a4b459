-- `put_held` meets its contract: nothing is stored, or the held scan. Assumes nothing.
use Rattle.joiner.proofs.ScanHeld.{held_room, held_stored, held_place}
use borrow.Author.Rules.{rules}
use Rattle.joiner.proofs.scans.put_held.Goals as goal

pub put_scan-requires : goal.put_scan-requires
put_scan-requires c = search (held_room, rules)

pub returns-in-Some : goal.returns-in-Some
returns-in-Some c = (search (held_stored, rules), search (held_place, rules))
