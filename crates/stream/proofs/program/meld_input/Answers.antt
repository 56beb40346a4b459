-- `stream::meld_input` meets its contract: each return is one of the ways in which a run ends (specs/Runs.antt).
-- Assumes nothing.
use Rattle.std.proofs.Common.{ℕ}
use Rattle.std.proofs.lemmas.List.{length-replicate}
use Rattle.stream.specs.Runs.{limits_unread, refused, melded}
use Rattle.stream.proofs.Running.{limits_read}
use Rattle.stream.proofs.program.meld_input.Goals as goal

pub returns-then-limits : goal.returns-then-limits
returns-then-limits g c = limits_unread (limits_read c.fill-limits.ensures.filled) c.if-limits.true

pub returns-in-Ok : goal.returns-in-Ok
returns-in-Ok g c =
    melded (limits_read c.fill-limits.ensures.filled) c.if-limits.false c.in-Ok.ensures (length-replicate {A = ℕ} 13835 0) c.meld_through.ensures

pub returns-in-Err : goal.returns-in-Err
returns-in-Err g c = refused (limits_read c.fill-limits.ensures.filled) c.if-limits.false c.in-Err.ensures
