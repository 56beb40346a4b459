-- `create::free_all`: one more node made free (Laws.antt).
use Rattle.std.proofs.Common.{arith}
use Rattle.create.proofs.Laws.{freed_more}
use Rattle.create.proofs.free_all.Goals as goal

pub loop-i-preserved : goal.loop-i-preserved
loop-i-preserved c = freed_more _ _ _ _ _ _ c.loop-i.invariant (omega arith) (omega arith) (omega arith) c.free_node.ensures c.write_node.ensures
