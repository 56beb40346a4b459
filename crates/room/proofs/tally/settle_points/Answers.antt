-- `room::settle_points` meets its promise. The invariant: what is counted so far and what the points from i on add make the whole, and so it is with the
-- kinds (Turns.antt).
use native.Mathlib.Omega.{arith}
use Rattle.room.proofs.Turns.{goes_on_lem, tally_ends, settle_ends}
use Rattle.room.proofs.tally.settle_points.Goals as goal

pub loop-i-preserved : goal.loop-i-preserved
loop-i-preserved c = goes_on_lem _ _ _ _ c.requires.fit _ _ _ c.loop-i.invariant (omega arith) (omega arith) _ c.settle_point-settled.ensures

pub returns-clause-tally_is : goal.returns-clause-tally_is
returns-clause-tally_is c = tally_ends _ _ _ _ _ _ _ c.loop-i.invariant (omega arith)

pub returns-clause-settles : goal.returns-clause-settles
returns-clause-settles c = settle_ends _ _ _ _ _ _ _ c.loop-i.invariant (omega arith)
