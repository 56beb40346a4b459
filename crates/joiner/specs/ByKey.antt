-- What points and scans say of a key: the laws of the joined record (R57) are said with these.
-- Assumes nothing: these are definitions.
use Rattle.std.specs.Prelude.{ℕ, Bool, false, ◌&&◌, ◌||◌, List, [], ◌∷◌, leb, eqb}
use Rattle.std.proofs.Math.Option.{Option, none, some}
use Rattle.std.specs.Prelude.{if◌then◌else◌}
use Rattle.record.specs.declared.point.Point.{Point}
use Rattle.record.specs.declared.point.Scan.{Scan}
use Rattle.record.specs.Record.{key_of}
use Rattle.joiner.specs.Joined.{entry_of}

-- R57: the entry of a key among points, if one of them names it
abbrev pub entry_at : ℕ → List Point → Option Point
entry_at k [] = none
entry_at k (p ∷ ps) = if eqb (key_of p) k then some p else entry_at k ps

-- R57: the joined entry of a key, of a's entry and b's
abbrev pub both_entries : Option Point → Option Point → Option Point
both_entries none y = y
both_entries (some p) none = some p
both_entries (some p) (some q) = some (entry_of p q)

-- R57: one of the scans covers the keys from j to k
abbrev pub in_one_scan : ℕ → ℕ → List Scan → Bool
in_one_scan j k [] = false
in_one_scan j k (c ∷ cs) = (leb c.low j && leb k c.high) || in_one_scan j k cs
