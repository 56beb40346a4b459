-- `nodes::write_node` meets its promise: the node's words are stored one behind the other (Fields.antt).
use Rattle.nodes.proofs.Fields.{node_written}
use Rattle.nodes.proofs.node.write_node.Goals as goal

pub returns : goal.returns
returns c = node_written _ _ _ _ _ _ _ _ _ _ _ c.put4.ensures c.put4-2.ensures c.put4-3.ensures c.put4-4.ensures c.put4-5.ensures c.put4-6.ensures c.put4-7.ensures c.put4-8.ensures
