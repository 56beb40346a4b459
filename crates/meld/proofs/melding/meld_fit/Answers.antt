-- `melding::meld_fit` meets its promise: the lists follow the version byte, and have room for such a record.
-- Assumes nothing.
use mathlib.Core.Path.{sym, ◌∙◌}
use Rattle.record.proofs.Rooms.{room_small, room_large}
use Rattle.meld.proofs.melding.meld_fit.Goals as goal

pub meld_by-requires-clause-room_for : goal.meld_by-requires-clause-room_for
meld_by-requires-clause-room_for c = room_large _

pub meld_by-requires-2-clause-room_for : goal.meld_by-requires-2-clause-room_for
meld_by-requires-2-clause-room_for c = room_small _ (sym c.is_large.ensures ∙ c.if-is_large.false)
