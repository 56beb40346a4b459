-- `put::put` meets its contract. Each place is one law of `Whole`.
-- Assumes nothing.
use Rattle.put.proofs.Whole.{first_asks, second_asks, first_leaf_asks, first_leaf, put_at_asks, new_asks, new_case, old_case}
use Rattle.put.proofs.put.Goals as goal

pub next_free-second-requires : goal.next_free-second-requires
next_free-second-requires c =
    first_asks _ _ _ _ _ c.requires c.ranges.key.fits c.read_header-header.ensures c.leaf_of-leaf.ensures

pub with_key-requires : goal.with_key-requires
with_key-requires c =
    (first_leaf_asks _ _ _ _ _ c.requires c.ranges.key.fits c.read_header-header.ensures c.leaf_of-leaf.ensures c.if-header.true).1

pub returns-then-header : goal.returns-then-header
returns-then-header c =
    first_leaf _ _ _ _ _ c.requires c.ranges.key.fits c.read_header-header.ensures c.leaf_of-leaf.ensures c.if-header.true
    _ c.next_free-second.ensures _ c.write_node.ensures _ c.with_key.ensures _ c.write_header.ensures

pub next_free-third-requires : goal.next_free-third-requires
next_free-third-requires c =
    second_asks _ _ _ _ _ c.requires c.ranges.key.fits c.read_header-header.ensures c.leaf_of-leaf.ensures _ c.next_free-second.ensures

pub put_at-after-requires : goal.put_at-after-requires
put_at-after-requires c =
    put_at_asks _ _ _ _ _ c.requires c.ranges.key.fits c.read_header-header.ensures c.leaf_of-leaf.ensures c.if-header.false _ c.next_free-second.ensures

pub with_key-requires-then-after : goal.with_key-requires-then-after
with_key-requires-then-after c =
    (new_asks _ _ _ _ _ c.requires c.ranges.key.fits c.read_header-header.ensures c.leaf_of-leaf.ensures c.if-header.false _ c.next_free-second.ensures
    _ _ c.put_at-after.ensures c.if-after.true).0

pub returns-then-after : goal.returns-then-after
returns-then-after c =
    new_case _ _ _ _ _ c.requires c.ranges.key.fits c.read_header-header.ensures c.leaf_of-leaf.ensures c.if-header.false _ c.next_free-second.ensures
    _ _ c.put_at-after.ensures c.if-after.true _ c.next_free-third.ensures _ c.with_key-then-after.ensures _ c.write_header-then-after.ensures

pub returns-else-after : goal.returns-else-after
returns-else-after c =
    old_case _ _ _ _ _ c.requires c.ranges.key.fits c.read_header-header.ensures c.leaf_of-leaf.ensures c.if-header.false _ c.next_free-second.ensures
    _ _ c.put_at-after.ensures c.if-after.false
