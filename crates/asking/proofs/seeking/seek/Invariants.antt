-- `asking::seek` meets its contract. The invariant: the records passed so far, and no more bytes are held than the window has.
-- Assumes nothing.
use Rattle.std.proofs.Common.{ℕ, ◌≤◌, List, length}
use Rattle.asking.specs.Seeking.{Passed}
use Rattle.asking.proofs.seeking.seek.Given as goal

abbrev pub invariant-loop-records : goal.invariant-loop-records
invariant-loop-records g l =
    record { passed : (brought : List ℕ) × Passed l.initial.pool l.initial.window brought l.records l.held l.pool l.window; inside : l.held ≤ length l.window }
