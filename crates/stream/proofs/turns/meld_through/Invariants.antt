-- `stream::meld_through` meets its contract. The invariant: the turns that were made (Turning.antt), and what is lent keeps its length.
-- Assumes nothing.
use Rattle.std.proofs.Common.{◌≡◌, length}
use Rattle.stream.proofs.Turning.{Turned}
use Rattle.stream.proofs.turns.meld_through.Given as goal

abbrev pub invariant-loop : goal.invariant-loop
invariant-loop g l =
    Turned l.initial.pool l.initial.carry l.initial.page l.carried l.position l.counter l.pool l.carry l.page
    × (length l.pool ≡ length l.initial.pool) × (length l.carry ≡ length l.initial.carry) × (length l.page ≡ length l.initial.page)
