-- `put_points` meets its contract. The loop's invariant: all the stores on the output as it was are the stores that are left on the output as it is.
-- Assumes nothing.
use Prim.Native.Nat.{◌+◌}
use mathlib.Core.Path.{◌≡◌}
use lib.ListN.{length, drop}
use lib.Seq.{sets}
use Rattle.writer.specs.Stored.{stored_points}
use Rattle.writer.proofs.store.put_points.Given as goal

abbrev pub invariant-loop-i : goal.invariant-loop-i
invariant-loop-i l = (l.start + length (stored_points l.kinds l.keys l.payloads) ≡ l.at + length (stored_points (drop l.i l.kinds) (drop l.i l.keys) (drop l.i l.payloads)))
    × (sets l.initial.output l.start (stored_points l.kinds l.keys l.payloads) ≡ sets l.output l.at (stored_points (drop l.i l.kinds) (drop l.i l.keys) (drop l.i l.payloads)))
