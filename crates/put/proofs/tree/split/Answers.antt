-- `put::tree::split` meets its contract.
-- Assumes nothing.
use Rattle.bits.proofs.Part.{part_most}
use Rattle.put.proofs.Splitting.{split_left, split_right}
use Rattle.put.proofs.tree.split.Goals as goal

pub cut-low-requires : goal.cut-low-requires
cut-low-requires c = rw c.part_height-height.ensures (part_most _ _)

pub returns-then-leaf-n : goal.returns-then-leaf-n
returns-then-leaf-n c =
    split_left _ _ _ _ _ _ c.write_node.ensures c.part_height-height.ensures c.cut-low.ensures c.max-newest.ensures c.min-oldest.ensures c.if-leaf-n.true c.inner.ensures c.write_node-then-leaf-n.ensures

pub returns-else-leaf-n : goal.returns-else-leaf-n
returns-else-leaf-n c =
    split_right _ _ _ _ _ _ c.write_node.ensures c.part_height-height.ensures c.cut-low.ensures c.max-newest.ensures c.min-oldest.ensures c.if-leaf-n.false c.inner-else-leaf-n.ensures c.write_node-else-leaf-n.ensures
