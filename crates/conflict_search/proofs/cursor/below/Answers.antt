-- Past the list's end there is no number.
-- Assumes nothing.
use Rattle.conflict_search.proofs.Places.{none_at, one_at}
use Rattle.conflict_search.proofs.cursor.below.Goals as goal

pub returns-then-cursor-numbers : goal.returns-then-cursor-numbers
returns-then-cursor-numbers c = one_at _ _ _ _ c.if-cursor-numbers.true c.from.ensures

pub returns-else-cursor-numbers : goal.returns-else-cursor-numbers
returns-else-cursor-numbers c = none_at _ _ _ c.if-cursor-numbers.false
