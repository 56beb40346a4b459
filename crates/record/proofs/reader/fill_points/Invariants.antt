-- `fill_points` meets its contract. The loop's invariant: all the stores on the lists as they were are the stores that are left on the lists as they are.
-- Assumes nothing.
use Prim.Native.Nat.{◌-◌, ◌≤◌}
use mathlib.Core.Path.{◌≡◌}
use mathlib.Core.Bool.{true}
use mathlib.Core.List.{map}
use lib.ListN.{length}
use lib.Seq.{sets}
use Rattle.record.specs.Record.{kind_of, key_of, payload_of}
use Rattle.record.specs.Parse.{parse_points, is_took, place_of, list_of}
use Rattle.record.proofs.reader.fill_points.Given as goal

abbrev pub invariant-loop-i : goal.invariant-loop-i
invariant-loop-i l = (l.at ≤ length l.bytes)
    × (is_took (parse_points (l.count - l.i) l.low l.bytes l.at) ≡ true)
    × (place_of (parse_points l.count 0 l.bytes l.start) ≡ place_of (parse_points (l.count - l.i) l.low l.bytes l.at))
    × (sets l.initial.kinds 0 (map kind_of (list_of (parse_points l.count 0 l.bytes l.start))) ≡ sets l.kinds l.i (map kind_of (list_of (parse_points (l.count - l.i) l.low l.bytes l.at))))
    × (sets l.initial.keys 0 (map key_of (list_of (parse_points l.count 0 l.bytes l.start))) ≡ sets l.keys l.i (map key_of (list_of (parse_points (l.count - l.i) l.low l.bytes l.at))))
    × (sets l.initial.payloads 0 (map payload_of (list_of (parse_points l.count 0 l.bytes l.start))) ≡ sets l.payloads l.i (map payload_of (list_of (parse_points (l.count - l.i) l.low l.bytes l.at))))
