-- `count_below` calls itself on the children of a node. The measure is the node's height.
-- Assumes nothing.
use Rattle.nodes.specs.Nodes.{node_at}
use Rattle.drop.proofs.count.+count_below.Given as goal

abbrev pub decreases-count_below : goal.decreases-count_below
decreases-count_below l = (node_at l.pool.now l.i).height
