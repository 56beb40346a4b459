-- `starts_by` meets its contract.
-- Assumes nothing.
use Rattle.joiner.proofs.ScansAhead.{starts_none, starts_here}
use borrow.Author.Rules.{rules}
use Rattle.joiner.proofs.points.starts_by.Goals as goal

pub returns-then-left-ne0 : goal.returns-then-left-ne0
returns-then-left-ne0 c = search (starts_here, c.if-left-ne0.true, rules)

pub returns-else-left-ne0 : goal.returns-else-left-ne0
returns-else-left-ne0 c = search (starts_none, rules)
