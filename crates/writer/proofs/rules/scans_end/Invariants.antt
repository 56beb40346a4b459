-- `scans_end` meets its contract. The loop's invariant: what is left of the lists, from this place on, ends where the whole run ends.
-- Assumes nothing.
use Prim.Native.Nat.{◌+◌, ◌*◌, ◌≤◌}
use mathlib.Core.Path.{◌≡◌}
use lib.ListN.{drop}
use Rattle.record.specs.Parse.{end_of}
use Rattle.writer.specs.Writer.{named_scans}
use Rattle.writer.proofs.rules.scans_end.Given as goal

abbrev pub invariant-loop-i : goal.invariant-loop-i
invariant-loop-i l = (l.at ≤ l.start + 8 * l.i) × (end_of (named_scans 0 l.lows l.highs l.start) ≡ end_of (named_scans l.floor (drop l.i l.lows) (drop l.i l.highs) l.at))
