-- The proof of the cycle of calls {put_at}. The measure is the height of the node; each place is one law of `Cases`.
-- Assumes nothing.
use Rattle.nodes.specs.Nodes.{node_at}
use Rattle.put.proofs.tree.+put_at.Given as goal

abbrev pub decreases-put_at : goal.decreases-put_at
decreases-put_at l = (node_at l.pool.now l.i).height
