-- `fill_scans` meets its contract. The loop's invariant: all the stores on the lists as they were are the stores that are left on the lists as they are.
-- Assumes nothing.
use Prim.Native.Nat.{◌-◌, ◌≤◌}
use mathlib.Core.Path.{◌≡◌}
use mathlib.Core.Bool.{true}
use mathlib.Core.List.{map}
use lib.ListN.{length}
use lib.Seq.{sets}
use Rattle.record.specs.Parse.{parse_scans, is_took, list_of}
use Rattle.record.specs.Reader.{low_of, high_of}
use Rattle.record.proofs.reader.fill_scans.Given as goal

abbrev pub invariant-loop-i : goal.invariant-loop-i
invariant-loop-i l = (l.at ≤ length l.bytes)
    × (is_took (parse_scans (l.count - l.i) l.floor l.bytes l.at) ≡ true)
    × (sets l.initial.lows 0 (map low_of (list_of (parse_scans l.count 0 l.bytes l.start))) ≡ sets l.lows l.i (map low_of (list_of (parse_scans (l.count - l.i) l.floor l.bytes l.at))))
    × (sets l.initial.highs 0 (map high_of (list_of (parse_scans l.count 0 l.bytes l.start))) ≡ sets l.highs l.i (map high_of (list_of (parse_scans (l.count - l.i) l.floor l.bytes l.at))))
