-- `explain_fit` meets its promise: the lists follow the version byte, and have room for such a record.
-- Assumes nothing.
use mathlib.Core.Path.{sym, ◌∙◌}
use Rattle.record.proofs.Rooms.{room_small, room_large}
use Rattle.reason.proofs.explain_fit.Goals as goal

pub explain_by-requires-clause-room_for : goal.explain_by-requires-clause-room_for
explain_by-requires-clause-room_for c = room_large _

pub explain_by-requires-2-clause-room_for : goal.explain_by-requires-2-clause-room_for
explain_by-requires-2-clause-room_for c = room_small _ (sym c.is_large.ensures ∙ c.if-is_large.false)
