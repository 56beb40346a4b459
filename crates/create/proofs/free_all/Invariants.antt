-- `create::free_all`: the nodes passed are free (`FreedBefore`).
use Rattle.create.specs.Steps.{FreedBefore}
use Rattle.create.proofs.free_all.Given as goal

abbrev pub invariant-loop-i : goal.invariant-loop-i
invariant-loop-i l = FreedBefore l.nodes l.i l.initial.pool l.pool
