use Rattle.std.proofs.Common.{length, ◌-◌, ◌≤◌}
use Rattle.stream.specs.Buffer.{Reads}
use Rattle.stream.proofs.input.fill.Given as goal

-- the reads that were made, and no more bytes are held than there are
abbrev pub invariant-loop-held : goal.invariant-loop-held
invariant-loop-held g l = Reads l.fn.held l.fn.buffer l.held l.buffer × (l.held ≤ length l.buffer)

abbrev pub decreases-loop-held : goal.decreases-loop-held
decreases-loop-held g l = length l.initial.buffer - l.held
