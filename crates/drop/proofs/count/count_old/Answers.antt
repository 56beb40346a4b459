-- `count_old` meets its contract: the header names the root, and the tree there is the arrangement's.
-- Assumes nothing.
use Rattle.drop.proofs.Counting.{whole_none, whole_stands, whole_count}
use Rattle.drop.proofs.count.count_old.Goals as goal

pub returns-then-h : goal.returns-then-h
returns-then-h c = whole_none _ c.args.limit _ c.read_header-h.ensures _ c.if-h.true

pub count_below-requires-clause-standing : goal.count_below-requires-clause-standing
count_below-requires-clause-standing c = whole_stands _ c.args.limit _ c.read_header-h.ensures c.requires.fit c.if-h.false

pub returns : goal.returns
returns c = whole_count _ c.args.limit _ c.read_header-h.ensures _ _ c.if-h.false c.count_below.ensures
