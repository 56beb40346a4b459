-- The height of the node is the measure: a child stands lower. At a leaf the words are the entry, and the key lies in one half of an
-- inner node.
-- Assumes nothing.
use Rattle.nodes.specs.Nodes.{node_at}
use Rattle.find.proofs.+descend.Given as goal

abbrev pub decreases-descend : goal.decreases-descend
decreases-descend l = (node_at l.pool.now l.i).height
