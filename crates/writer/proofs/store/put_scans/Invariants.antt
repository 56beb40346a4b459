-- `put_scans` meets its contract. The loop's invariant: all the stores on the output as it was are the stores that are left on the output as it is.
-- Assumes nothing.
use Prim.Native.Nat.{◌+◌}
use mathlib.Core.Path.{◌≡◌}
use lib.ListN.{length, drop}
use lib.Seq.{sets}
use Rattle.writer.specs.Stored.{stored_scans}
use Rattle.writer.proofs.store.put_scans.Given as goal

abbrev pub invariant-loop-i : goal.invariant-loop-i
invariant-loop-i l = (l.start + length (stored_scans l.lows l.highs) ≡ l.at + length (stored_scans (drop l.i l.lows) (drop l.i l.highs)))
    × (sets l.initial.output l.start (stored_scans l.lows l.highs) ≡ sets l.output l.at (stored_scans (drop l.i l.lows) (drop l.i l.highs)))
