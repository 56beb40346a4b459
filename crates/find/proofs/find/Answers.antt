-- The root's word says whether a key is kept; if one is, the descent starts at the whole tree.
-- Assumes nothing.
use Rattle.find.proofs.Descent.{at_none, at_root, root_there}
use Rattle.find.proofs.find.Goals as goal

pub returns-then-root : goal.returns-then-root
returns-then-root c = at_none _ _ _ c.read_header-root.ensures c.if-root.true

pub descend-requires : goal.descend-requires
descend-requires c = root_there _ _ c.read_header-root.ensures c.if-root.false c.requires

pub returns : goal.returns
returns c = at_root _ _ _ c.read_header-root.ensures _ c.if-root.false c.descend.ensures
