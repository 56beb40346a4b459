-- The loop's invariant: what lies from the cursor up to i is below `from`.
-- Assumes nothing.
use Rattle.conflict_search.proofs.Places.{Going}
use Rattle.conflict_search.proofs.cursor.forward.Given as goal

abbrev pub invariant-loop-i : goal.invariant-loop-i
invariant-loop-i l = Going l.numbers l.cursor l.from l.i
