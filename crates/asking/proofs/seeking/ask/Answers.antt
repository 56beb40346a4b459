-- `asking::ask` meets its contract: each return is one of the ways in which it answers (specs/Asked.antt).
-- Assumes nothing.
use Rattle.stream.proofs.Running.{limits_read}
use Rattle.asking.specs.Asked.{AsksLog}
use Rattle.asking.proofs.seeking.ask.Goals as goal

pub returns-then-limits : goal.returns-then-limits
returns-then-limits g c = AsksLog.limits_unread (limits_read c.fill-limits.ensures.filled) c.if-limits.true

pub returns-in-Ok : goal.returns-in-Ok
returns-in-Ok g c = AsksLog.sought (limits_read c.fill-limits.ensures.filled) c.if-limits.false c.in-Ok.ensures c.seek.ensures

pub returns-in-Err : goal.returns-in-Err
returns-in-Err g c =
    rw (c.word4.ensures, c.word4-in-Err.ensures) (AsksLog.refused (limits_read c.fill-limits.ensures.filled) c.if-limits.false c.in-Err.ensures)
