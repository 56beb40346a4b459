-- `nodes::read_header` meets its promise: seven words make the header (Fields.antt).
use Rattle.nodes.proofs.Fields.{header_read}
use borrow.Author.Rules.{rules}
use Rattle.nodes.proofs.header.read_header.Goals as goal

pub returns : goal.returns
returns c = search (header_read, rules)
