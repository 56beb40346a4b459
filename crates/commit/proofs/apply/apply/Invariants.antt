-- `commit::apply` meets its promise. The invariant: storing the rest from the present arrangement gives the whole (Turns.antt).
use Rattle.commit.proofs.Turns.{Going}
use Rattle.commit.proofs.apply.apply.Given as goal

abbrev pub invariant-loop-i : goal.invariant-loop-i
invariant-loop-i l = Going l.initial.pool l.kinds l.keys l.payloads l.pool l.i
