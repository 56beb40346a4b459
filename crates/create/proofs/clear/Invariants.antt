-- `create::clear`: the bytes passed are zero, all others as they were (`Cleared`).
use Rattle.create.specs.Steps.{Cleared}
use Rattle.create.proofs.clear.Given as goal

abbrev pub invariant-loop-at : goal.invariant-loop-at
invariant-loop-at l = Cleared l.at l.initial.pool l.pool
