-- The root's word says whether a key is kept; if one is, the search starts at the whole tree, with both cursors at the front.
-- Assumes nothing.
use Rattle.conflict_search.proofs.Whole.{at_none, at_root, root_ready}
use Rattle.conflict_search.proofs.conflict.Goals as goal

pub returns-then-root : goal.returns-then-root
returns-then-root c = at_none _ c.read_header-root.ensures _ _ c.if-root.true

pub search-leaf-requires : goal.search-leaf-requires
search-leaf-requires c = root_ready _ c.read_header-root.ensures c.if-root.false c.requires

pub returns : goal.returns
returns c = at_root _ c.read_header-root.ensures c.if-root.false c.search-leaf.ensures
