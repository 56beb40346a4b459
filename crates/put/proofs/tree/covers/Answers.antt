-- `put::tree::covers` meets its contract: a key from low on is covered if no bit of its distance stands above the height.
-- Assumes nothing.
use Rattle.put.proofs.Covering.{covered_below, covered_above}
use Rattle.put.proofs.tree.covers.Goals as goal

pub returns-then-low-key : goal.returns-then-low-key
returns-then-low-key c = covered_above _ _ _ _ c.if-low-key.true c.above.ensures

pub returns-else-low-key : goal.returns-else-low-key
returns-else-low-key c = covered_below _ _ _ c.if-low-key.false
