-- `fit::head::zeros` meets its contract: one more byte is zero, or one is not.
-- Assumes nothing.
use native.Mathlib.Omega.{arith}
use Rattle.fit.proofs.HeadLaws.{decides_yes, decides_no, zeros_more}
use Rattle.fit.proofs.head.zeros.Goals as goal

pub loop-at-init : goal.loop-at-init
loop-at-init c = λ k a b. absurd (omega arith)

pub returns-then-pool-at-ne0 : goal.returns-then-pool-at-ne0
returns-then-pool-at-ne0 c = decides_no (λ z. c.if-pool-at-ne0.true (z _ (omega arith) (omega arith)))

pub loop-at-preserved : goal.loop-at-preserved
loop-at-preserved c = zeros_more c.args.pool.now _ c.loop-at.invariant c.if-pool-at-ne0.false

pub returns : goal.returns
returns c = decides_yes (λ k a b. c.loop-at.invariant k a (omega arith))
