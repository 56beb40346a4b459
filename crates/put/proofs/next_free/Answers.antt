-- `put::next_free` meets its contract.
-- Assumes nothing.
use Rattle.put.proofs.FreeNodes.{next_none, next_some}
use Rattle.put.proofs.next_free.Goals as goal

pub returns-then-i-eq-NO_NODE : goal.returns-then-i-eq-NO_NODE
returns-then-i-eq-NO_NODE c = next_none _ _ c.if-i-eq-NO_NODE.true

pub returns : goal.returns
returns c = next_some _ _ _ c.if-i-eq-NO_NODE.false c.read_node-n.ensures
