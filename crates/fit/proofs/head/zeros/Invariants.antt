-- `fit::head::zeros`: the bytes passed are zero.
use Rattle.fit.proofs.HeadLaws.{Zeros}
use Rattle.fit.proofs.head.zeros.Given as goal

abbrev pub invariant-loop-at : goal.invariant-loop-at
invariant-loop-at l = Zeros l.pool l.at
