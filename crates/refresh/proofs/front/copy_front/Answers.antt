-- `front::copy_front` meets its contract: one more byte, and all of them (Copies.antt).
-- Assumes nothing.
use mathlib.Core.Path.{refl, ◌∙◌}
use native.Mathlib.Omega.{arith}
use lib.ListN.{length-set}
use lib.Seq.{paste-zero}
use Rattle.refresh.proofs.Copies.{copy_more, copy_all}
use Rattle.refresh.proofs.front.copy_front.Goals as goal

pub loop-i-init : goal.loop-i-init
loop-i-init c = (paste-zero c.args.output.now 0 c.args.source.now, omega arith, refl)

pub loop-i-preserved : goal.loop-i-preserved
loop-i-preserved c = let l = c.loop-i in (copy_more _ _ _ _ l.invariant.0 (omega arith) c.requires, omega arith, length-set l.output l.i _ ∙ l.invariant.2)

pub returns : goal.returns
returns c = let l = c.loop-i in copy_all _ _ _ _ l.invariant.0 l.invariant.1 (omega arith)
