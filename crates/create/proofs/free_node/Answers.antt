-- `create::free_node` meets its contract: nothing behind the last node, the next number behind every other.
-- Assumes nothing.
use Rattle.create.proofs.Laws.{next_last, next_more, free_made}
use mathlib.Core.Path.{◌∙◌}
use native.Mathlib.Omega.{arith}
use Rattle.create.proofs.free_node.Goals as goal
use Rattle.create.proofs.free_node.Goals.{then-behind-eq0, else-behind-eq0}

pub returns : goal.returns
returns c = free_made c.args.nodes c.args.i _ _ (elim c.if-behind-eq0.branch [ then-behind-eq0 w ↦ w.next-is ∙ next_last c.args.nodes c.args.i (omega (arith, w.if-behind-eq0.true, c.requires)) | else-behind-eq0 w ↦ w.next-is ∙ next_more c.args.nodes c.args.i (λ e. w.if-behind-eq0.false (omega (arith, e, c.requires))) ]) (omega (arith, c.requires))
