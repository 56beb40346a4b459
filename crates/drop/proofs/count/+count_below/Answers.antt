-- `count_below` calls itself on the children of a node. The measure is the node's height.
-- Assumes nothing.
use native.Mathlib.Omega.{arith}
use borrow.Author.Rules.{rules}
use Rattle.drop.proofs.Counting.{count_none, count_tombstone, count_live, asks_left, asks_right, count_enough, count_fits, count_both}
use Rattle.drop.proofs.count.+count_below.Goals as goal
use Rattle.drop.proofs.count.+count_below.Goals.{then-limit-n-via-then-limit-n, then-limit-n-via-else-limit-n+then-n-eq1}

pub returns-then-limit-n : goal.returns-then-limit-n
returns-then-limit-n t c = elim c.then-limit-n.branch [
  | then-limit-n-via-then-limit-n w ↦ count_none _ _ _ _ c.read_node-n.ensures _ w.if-limit-n.true
  | then-limit-n-via-else-limit-n+then-n-eq1 w ↦ count_live _ _ _ _ c.read_node-n.ensures _ w.if-n-eq1.true
]

pub returns-then-n-eq2 : goal.returns-then-n-eq2
returns-then-n-eq2 t c = search (count_tombstone, rules)

pub count_below-a-requires : goal.count_below-a-requires
count_below-a-requires t c = let x = asks_left _ _ c.args.limit _ c.read_node-n.ensures c.if-n-eq2.false c.if-n-eq1.false c.requires.standing t c.decreases in (x.0, (x.1, c.requires.le_most))

pub returns-then-most-a : goal.returns-then-most-a
returns-then-most-a t c = count_enough _ _ _ _ c.read_node-n.ensures c.if-n-eq2.false c.if-n-eq1.false _ _ c.count_below-a.ensures c.if-most-a.true

pub count_below-requires : goal.count_below-requires
count_below-requires t c = let x = asks_right _ _ c.args.limit _ c.read_node-n.ensures c.if-n-eq2.false c.if-n-eq1.false c.requires.standing t c.decreases in (x.0, (x.1, omega (arith, c.if-most-a.false)))

pub overflow_add-result : goal.overflow_add-result
overflow_add-result t c = record { fits = count_fits _ _ _ _ c.read_node-n.ensures c.if-n-eq2.false c.if-n-eq1.false _ _ c.count_below-a.ensures _ c.count_below.ensures c.if-most-a.false c.requires.standing }

pub returns : goal.returns
returns t c = count_both _ _ _ _ c.read_node-n.ensures c.if-n-eq2.false c.if-n-eq1.false _ _ c.count_below-a.ensures _ c.count_below.ensures c.if-most-a.false
