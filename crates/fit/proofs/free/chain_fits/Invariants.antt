-- `fit::free::chain_fits` meets its contract. The loop's invariant: the chain from the first node on passes exactly if the rest passes.
-- Assumes nothing.
use mathlib.Core.Path.{◌≡◌}
use Rattle.fit.specs.Whole.{chain_ok}
use Rattle.fit.proofs.free.chain_fits.Given as goal

abbrev pub invariant-loop-rank : goal.invariant-loop-rank
invariant-loop-rank l = chain_ok l.pool.bytes.now l.pool.nodes l.count l.first ≡ chain_ok l.pool.bytes.now l.pool.nodes l.rank l.i
