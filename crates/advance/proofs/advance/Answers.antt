-- `advance` meets its contract: with its position one on the header is that of the arrangement one position on, and nothing else has changed.
-- Assumes nothing.
use Rattle.advance.proofs.Moving.{position_left, advance_whole}
use Rattle.advance.proofs.advance.Goals as goal

pub overflow_add-v : goal.overflow_add-v
overflow_add-v c = record { fits = position_left _ _ c.read_header-v.ensures c.requires }

pub returns : goal.returns
returns c = advance_whole _ _ c.read_header-v.ensures c.requires _ c.write_position.ensures
