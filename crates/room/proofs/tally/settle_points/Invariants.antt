-- `room::settle_points` meets its promise. The invariant: what is counted so far and what the points from i on add make the whole, and so it is with the
-- kinds (Turns.antt).
use Rattle.room.proofs.Turns.{Going}
use Rattle.room.proofs.tally.settle_points.Given as goal

abbrev pub invariant-loop-i : goal.invariant-loop-i
invariant-loop-i l = Going l.pool l.initial.kinds l.keys l.limit l.kinds l.all l.i
