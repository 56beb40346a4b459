-- `nodes::read_node` meets its promise: eight words make the node (Fields.antt).
use Rattle.nodes.proofs.Fields.{node_read}
use borrow.Author.Rules.{rules}
use Rattle.nodes.proofs.node.read_node.Goals as goal

pub returns : goal.returns
returns c = search (node_read, rules)
