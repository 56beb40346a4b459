-- `asking::look` meets its contract: a record that was found is held.
-- Assumes nothing.
use Rattle.std.proofs.Common.{take, sym, arith, length-take-le}
use Rattle.record_log.proofs.Told.{cut_case}
use Rattle.record_log.proofs.Stands.{record_tells}
use Rattle.asking.proofs.window.look.Goals as goal

pub returns-in-Record-clause-within : goal.returns-in-Record-clause-within
returns-in-Record-clause-within g c =
    let held = c.fill-filled.result.held in
    let filled = c.fill-filled.new.buffer in
    (omega (arith, (record_tells (take held filled) 0 c.in-Record.next (sym (cut_case _ 0 _ c.in-Record.ensures))).inside, length-take-le held filled c.fill-filled.ensures.within), c.fill-filled.ensures.within)
