-- `nodes::write_header` meets its promise: the header's words are stored one behind the other (Fields.antt).
use Rattle.nodes.proofs.Fields.{header_written}
use Rattle.nodes.proofs.header.write_header.Goals as goal

pub returns : goal.returns
returns c = header_written _ _ _ _ _ _ _ _ _ c.put4.ensures c.put4-2.ensures c.put4-3.ensures c.put4-4.ensures c.put4-5.ensures c.put4-6.ensures c.put4-7.ensures
