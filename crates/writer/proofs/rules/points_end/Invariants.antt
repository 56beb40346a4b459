-- `points_end` meets its contract. The loop's invariant: what is left of the lists, from this place on, ends where the whole run ends.
-- Assumes nothing.
use Prim.Native.Nat.{◌+◌, ◌*◌, ◌≤◌}
use mathlib.Core.Path.{◌≡◌}
use lib.ListN.{drop}
use Rattle.record.specs.Parse.{end_of}
use Rattle.writer.specs.Writer.{named_points}
use Rattle.writer.proofs.rules.points_end.Given as goal

abbrev pub invariant-loop-i : goal.invariant-loop-i
invariant-loop-i l = (l.at ≤ l.start + 13 * l.i)
    × (end_of (named_points 0 l.kinds l.keys l.payloads l.start) ≡ end_of (named_points l.low (drop l.i l.kinds) (drop l.i l.keys) (drop l.i l.payloads) l.at))
