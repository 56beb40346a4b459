-- The words of a leaf are its entry's.
-- Assumes nothing.
use Rattle.find.proofs.Descent.{leaf_other, leaf_dead, leaf_live}
use Rattle.find.proofs.at_leaf.Goals as goal

pub returns-then-n-key : goal.returns-then-n-key
returns-then-n-key c = leaf_other _ _ c.if-n-key.true

pub returns-then-n-eq-TOMBSTONE : goal.returns-then-n-eq-TOMBSTONE
returns-then-n-eq-TOMBSTONE c = leaf_dead _ _ c.if-n-key.false c.if-n-eq-TOMBSTONE.true

pub returns : goal.returns
returns c = leaf_live _ _ _ c.if-n-key.false c.if-n-eq-TOMBSTONE.false c.joined.ensures
