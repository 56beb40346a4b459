-- `asked::asked` meets its contract: the lists follow the version byte, and have room for such a record.
-- Assumes nothing.
use mathlib.Core.Path.{sym, ◌∙◌}
use Rattle.record.proofs.Rooms.{room_small, room_large}
use Rattle.refresh.proofs.asked.asked.Goals as goal

pub asked_by-requires-clause-room_for : goal.asked_by-requires-clause-room_for
asked_by-requires-clause-room_for c = room_large _

pub asked_by-requires-else-is_large-clause-room_for : goal.asked_by-requires-else-is_large-clause-room_for
asked_by-requires-else-is_large-clause-room_for c = room_small _ (sym c.is_large.ensures ∙ c.if-is_large.false)
