-- `fit::leaves::leaves` meets its contract, by recursion: what a node covers halves with each call.
-- A child's count, leaf or inner node, is `leaves_at` of it at every sufficient bound; then the parent's is.
-- Assumes nothing.
use Prim.Native.Nat.{◌-◌}
use Rattle.fit.proofs.leaves.+leaves.Given as goal

abbrev pub decreases-leaves : goal.decreases-leaves
decreases-leaves l = l.keys.end - l.keys.start
