-- `drop_below` calls itself on the children of a node. The measure is the node's height.
-- Assumes nothing.
use Rattle.nodes.specs.Nodes.{node_at}
use Rattle.drop.proofs.tombstones.+drop_below.Given as goal

abbrev pub decreases-drop_below : goal.decreases-drop_below
decreases-drop_below l = (node_at l.pool.now l.i).height
