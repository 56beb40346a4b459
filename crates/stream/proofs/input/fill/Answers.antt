use Rattle.std.proofs.Common.{rules}
use Rattle.stream.specs.Buffer.{none_yet, one_more, full, stopped}
use Rattle.stream.proofs.input.fill.Goals as goal

pub loop-held-init : goal.loop-held-init
loop-held-init g c = (none_yet, search rules)

pub returns-then-filled-held-clause-filled : goal.returns-then-filled-held-clause-filled
returns-then-filled-held-clause-filled g c = stopped c.loop-held.invariant.0 c.refill-filled.ensures (search rules)

pub loop-held-preserved : goal.loop-held-preserved
loop-held-preserved g c = (one_more c.loop-held.invariant.0 c.refill-filled.ensures (search rules), search rules)

pub returns-clause-filled : goal.returns-clause-filled
returns-clause-filled g c = full c.loop-held.invariant.0 (search rules)
