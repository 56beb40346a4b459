-- `ends_below` meets its contract.
-- Assumes nothing.
use Rattle.joiner.proofs.ScansAhead.{ends_none, ends_here}
use borrow.Author.Rules.{rules}
use Rattle.joiner.proofs.points.ends_below.Goals as goal

pub returns-then-left-ne0 : goal.returns-then-left-ne0
returns-then-left-ne0 c = search (ends_here, c.if-left-ne0.true, rules)

pub returns-else-left-ne0 : goal.returns-else-left-ne0
returns-else-left-ne0 c = search (ends_none, rules)
