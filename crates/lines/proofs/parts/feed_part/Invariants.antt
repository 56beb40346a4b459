-- `lines::feed_part` meets its contract. The invariant: the calls so far (Calling.antt, which has a law for each turn and return), and pool and carry
-- keep their lengths. The measure is what is left of the part.
-- Assumes nothing.
use Rattle.std.proofs.Common.{◌≡◌, ◌-◌, length}
use Rattle.lines.proofs.Calling.{SoFar}
use Rattle.lines.proofs.parts.feed_part.Given as goal

abbrev pub invariant-loop-place : goal.invariant-loop-place
invariant-loop-place g l =
    SoFar l.part l.position-2 l.initial.pool l.initial.carry l.carried-2 l.place l.pool l.carry l.carried l.position × (length l.pool ≡ length l.initial.pool) × (length l.carry ≡ length l.initial.carry)

abbrev pub decreases-loop-place : goal.decreases-loop-place
decreases-loop-place g l = length l.part - l.place
