-- `fit::inner::size_of` meets its contract: a shift of 1 by at most 32 loses no bit of 64.
-- Assumes nothing.
use native.Mathlib.Omega.{arith}
use lib.Pow.{shl_exact}
use mathlib.Core.Path.{◌∙◌}
use Rattle.fit.proofs.inner.size_of.Goals as goal

pub returns : goal.returns
returns c = shl_exact {a = 1} 1 c.args.height 64 (omega arith) (omega arith) ∙ omega arith
