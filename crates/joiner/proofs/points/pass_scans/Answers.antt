-- `pass_scans` meets its contract. The loop's invariant: what is not below the key among the scans that are left is what is not below it among all. The measure is how many are left.
-- Assumes nothing.
use borrow.Author.Rules.{rules}
use Rattle.joiner.proofs.ScansAhead.{pass_some, pass_less, pass_one, pass_done}
use Rattle.joiner.proofs.points.pass_scans.Goals as goal

pub overflow_sub-rest : goal.overflow_sub-rest
overflow_sub-rest c = search (pass_some, rules)

pub loop-rest-smaller : goal.loop-rest-smaller
loop-rest-smaller c = search (pass_less, rules)

pub loop-rest-preserved : goal.loop-rest-preserved
loop-rest-preserved c = (search rules, search (pass_one, rules))

pub returns : goal.returns
returns c = (search rules, search (pass_done, rules))
