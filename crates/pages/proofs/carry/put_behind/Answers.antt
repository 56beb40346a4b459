-- `carry::put_behind` meets its contract: one more byte, and all of them (Stored.antt).
-- Assumes nothing.
use mathlib.Core.Path.{refl, ◌∙◌}
use native.Mathlib.Omega.{arith}
use lib.ListN.{length-set}
use lib.Seq.{paste-zero}
use Rattle.pages.proofs.Stored.{stored_more, stored_all}
use Rattle.pages.proofs.carry.put_behind.Goals as goal

pub loop-i-init : goal.loop-i-init
loop-i-init c = (paste-zero c.args.carry.now c.args.carried c.args.part.now, omega arith, refl)

pub loop-i-preserved : goal.loop-i-preserved
loop-i-preserved c = (stored_more c.args.carry.now c.args.carried c.args.part.now _ _ c.loop-i.invariant.0 (omega arith) (omega arith), omega arith, length-set c.loop-i.carry _ _ ∙ c.loop-i.invariant.2)

pub returns : goal.returns
returns c = stored_all c.args.carry.now c.args.carried c.args.part.now _ _ c.loop-i.invariant.0 c.loop-i.invariant.1 (omega arith) (omega arith)
