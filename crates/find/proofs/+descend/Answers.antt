-- The height of the node is the measure: a child stands lower. At a leaf the words are the entry, and the key lies in one half of an
-- inner node.
-- Assumes nothing.
use native.Mathlib.Omega.{arith}
use Rattle.pool.proofs.Subtree.{rooted_within}
use Rattle.find.proofs.Descent.{inner_height, at_bottom, go_left, go_right, from_left, from_right}
use Rattle.find.proofs.+descend.Goals as goal

pub read_node-n-requires : goal.read_node-n-requires
read_node-n-requires t c = rooted_within c.requires

pub returns-then-n-eq0 : goal.returns-then-n-eq0
returns-then-n-eq0 t c = at_bottom _ _ _ _ c.read_node-n.ensures _ c.if-n-eq0.true c.at_leaf.ensures

pub middle-requires : goal.middle-requires
middle-requires t c = inner_height _ _ _ c.read_node-n.ensures c.if-n-eq0.false c.requires

pub descend-requires : goal.descend-requires
descend-requires t c = go_left _ _ 0 _ c.read_node-n.ensures c.if-n-eq0.false _ c.decreases c.requires

pub returns-then-from-middle : goal.returns-then-from-middle
returns-then-from-middle t c = from_left _ _ _ _ c.read_node-n.ensures c.if-n-eq0.false _ (omega (arith, c.if-from-middle.true, c.from.ensures, c.middle.ensures)) c.descend.ensures

pub descend-requires-2 : goal.descend-requires-2
descend-requires-2 t c = go_right _ _ 0 _ c.read_node-n.ensures c.if-n-eq0.false _ c.decreases c.requires

pub returns : goal.returns
returns t c = from_right _ _ _ _ c.read_node-n.ensures c.if-n-eq0.false _ (omega (arith, c.if-from-middle.false, c.from.ensures, c.middle.ensures)) c.descend-2.ensures
