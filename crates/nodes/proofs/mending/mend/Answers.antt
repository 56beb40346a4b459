-- `mend` meets its contract: the words that it writes are the children's, as they stood in the bytes lent.
-- Assumes nothing.
use Rattle.nodes.specs.Mended.{mended}
use Rattle.nodes.proofs.mending.mend.Goals as goal

pub returns : goal.returns
unfolding mended
returns c = cc
