-- `commit::commit_writes` meets its promise: each step asks what the one before leaves (Whole.antt).
use Rattle.commit.proofs.Whole.{writes_leave}
use Rattle.commit.proofs.commit.commit_writes.Goals as goal

pub returns : goal.returns
returns c = writes_leave _ _ _ _ _ c.advance.ensures _ c.apply.ensures
