-- `drop_old` meets its contract: the header names the tree and the first free node, whose rank is the number of free nodes; after the drop
-- the header's words are those of the arrangement without its old tombstones.
-- Assumes nothing.
use Rattle.drop.proofs.Whole.{free_room, ready, keys_asks, drop_whole}
use Rattle.drop.proofs.tombstones.drop_old.Goals as goal

pub read_node-first-requires : goal.read_node-first-requires
read_node-first-requires c = free_room _ c.args.limit _ c.read_header-h.ensures c.requires

pub drop_below-after-requires : goal.drop_below-after-requires
drop_below-after-requires c = ready _ c.args.limit _ c.read_header-h.ensures _ c.read_node-first.ensures c.if-h.false c.requires

pub keys_beside-requires : goal.keys_beside-requires
keys_beside-requires c = keys_asks _ c.args.limit _ c.read_header-h.ensures _ c.read_node-first.ensures c.if-h.false _ _ c.drop_below-after.ensures c.requires

pub returns : goal.returns
returns c = drop_whole _ c.args.limit _ c.read_header-h.ensures _ c.read_node-first.ensures c.if-h.false _ _ c.drop_below-after.ensures _ c.keys_beside.ensures _ c.unwrap_or.ensures _ c.write_header.ensures
