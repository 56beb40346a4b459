-- `drop_below` calls itself on the children of a node. The measure is the node's height.
-- Assumes nothing.
use Rattle.drop.proofs.Places.{keep_young_tree, keep_live, drop_tombstone, asks_left, asks_right, asks_free, asks_mend, drop_left, drop_right, drop_none_of_two}
use Rattle.drop.proofs.tombstones.+drop_below.Goals as goal
use Rattle.drop.proofs.tombstones.+drop_below.Goals.{then-limit-n-via-then-limit-n, then-limit-n-via-else-limit-n+then-n-eq1}

pub returns-then-limit-n : goal.returns-then-limit-n
returns-then-limit-n t c = elim c.then-limit-n.branch [
  | then-limit-n-via-then-limit-n w ↦ keep_young_tree _ _ _ _ _ c.read_node-n.ensures w.if-limit-n.true
  | then-limit-n-via-else-limit-n+then-n-eq1 w ↦ keep_live _ _ _ _ _ c.read_node-n.ensures w.if-n-eq1.true
]

pub returns-then-n-eq2 : goal.returns-then-n-eq2
returns-then-n-eq2 t c = drop_tombstone _ _ _ _ _ c.read_node-n.ensures c.if-limit-n.false c.if-n-eq2.true _ _ c.free_node.ensures

pub drop_below-a-requires : goal.drop_below-a-requires
drop_below-a-requires t c = asks_left _ _ c.args.limit _ _ c.read_node-n.ensures c.if-n-eq1.false c.if-n-eq2.false c.requires t c.decreases

pub drop_below-b-requires : goal.drop_below-b-requires
drop_below-b-requires t c = asks_right _ _ _ _ _ c.read_node-n.ensures c.if-n-eq1.false c.if-n-eq2.false _ _ c.drop_below-a.ensures c.requires t c.decreases

pub free_node-requires-in_default : goal.free_node-requires-in_default
free_node-requires-in_default t c = asks_free _ _ _ _ _ c.read_node-n.ensures c.if-n-eq1.false c.if-n-eq2.false _ _ c.drop_below-a.ensures _ _ c.drop_below-b.ensures c.requires

pub returns-in_default : goal.returns-in_default
returns-in_default t c = drop_left _ _ _ _ _ c.read_node-n.ensures c.if-n-eq1.false c.if-n-eq2.false _ _ c.drop_below-a.ensures _ _ c.drop_below-b.ensures c.in_default.is _ _ c.free_node-in_default.ensures

pub free_node-requires-in_default-root : goal.free_node-requires-in_default-root
free_node-requires-in_default-root t c = asks_free _ _ _ _ _ c.read_node-n.ensures c.if-n-eq1.false c.if-n-eq2.false _ _ c.drop_below-a.ensures _ _ c.drop_below-b.ensures c.requires

pub returns-in_default-root : goal.returns-in_default-root
returns-in_default-root t c = drop_right _ _ _ _ _ c.read_node-n.ensures c.if-n-eq1.false c.if-n-eq2.false _ _ c.drop_below-a.ensures _ _ c.drop_below-b.ensures c.in_default-root.is _ _ c.free_node-in_default-root.ensures

pub mend-requires : goal.mend-requires
mend-requires t c = asks_mend _ _ _ _ _ c.read_node-n.ensures c.if-n-eq1.false c.if-n-eq2.false _ _ c.drop_below-a.ensures _ _ c.drop_below-b.ensures c.requires _ _ c.in-Some.is c.in-Some-root.is

pub returns : goal.returns
returns t c = drop_none_of_two _ _ _ _ _ c.read_node-n.ensures c.if-n-eq1.false c.if-n-eq2.false _ _ c.drop_below-a.ensures _ _ c.drop_below-b.ensures _ _ c.in-Some.is c.in-Some-root.is _ c.mend.ensures
