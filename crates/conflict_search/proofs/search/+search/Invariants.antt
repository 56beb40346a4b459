-- The height of the node is the measure: a child stands lower. Each return and each call is one law of Steps.
-- Assumes nothing.
use Rattle.nodes.specs.Nodes.{node_at}
use Rattle.conflict_search.proofs.search.+search.Given as goal

abbrev pub decreases-search : goal.decreases-search
decreases-search l = (node_at l.pool.now l.i).height
