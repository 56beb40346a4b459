-- What the first pass over both records finds. No public promise cites it.
-- Assumes nothing: these are definitions.
use Rattle.std.proofs.Math.Option.{Option, none, some}
use Rattle.std.specs.Prelude.{length, Option as Optional, Some, None}
use Rattle.record.specs.Record.{Rec, bytes_of}
use Rattle.joiner.specs.declared.Found.{Found}

-- how many points, scans and bytes the joined record has, if there is one
abbrev pub found_of : Option Rec → Optional Found
found_of none = None
found_of (some j) = Some (record { points = length j.points; scans = length j.scans; size = length (bytes_of j) })
