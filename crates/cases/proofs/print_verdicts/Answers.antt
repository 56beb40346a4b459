-- `cases::print_verdicts` is safe, and lends only a new pool to the log: where opening gives a size, the pool at the front is the new one.
-- Assumes nothing.
use Rattle.lines.proofs.Openings.{opened_new}
use Rattle.cases.proofs.print_verdicts.Goals as goal

pub meld_log-found-requires : goal.meld_log-found-requires
meld_log-found-requires g c = opened_new c.open.ensures c.in-Ok.is
