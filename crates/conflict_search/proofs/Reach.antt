-- The lists of a record that keeps the rules are sorted, and what they name or scan is what the record does.
-- Assumes nothing.
use Prim.Native.Nat.{ℕ, ◌+◌}
use mathlib.Core.Path.{◌≡◌, refl, ap, ap₂}
use mathlib.Core.List.{List, [], ◌∷◌, ◌++◌, map}
use Rattle.record.specs.Record.{Rec, key_of, PointsRise, Apart, Valid}
use Rattle.record.specs.Reader.{low_of, high_of}
use Rattle.record.specs.declared.point.Point.{Point}
use Rattle.record.specs.declared.point.Scan.{Scan}
use Rattle.rules.specs.Footprint.{named, reach}
use Rattle.conflict_search.specs.Sorted.{Climbs, Spaced, Sorted, point_scan, scans_of, footprint}

-- rising points have rising keys
climbs_rising : (low : ℕ) (ps : List Point) → PointsRise low ps → Climbs low (map key_of ps)
climbs_rising low [] r = Climbs.end
climbs_rising low (p ∷ ps) r = Climbs.link r.0 (climbs_rising (key_of p + 1) ps r.3)

-- scans that are apart have spaced ends
spaced_apart : (low : ℕ) (cs : List Scan) → Apart low cs → Spaced low (map low_of cs) (map high_of cs)
spaced_apart low [] a = Spaced.end
spaced_apart low (c ∷ cs) a = Spaced.link a.0 a.1 (spaced_apart (c.high + 1) cs a.3)

-- the lists of a valid record are sorted
pub sorted_valid : {r : Rec} → Valid r → Sorted (map key_of r.points) (map low_of r.scans) (map high_of r.scans)
sorted_valid {r} v = record { points = climbs_rising 0 r.points v.rising; scans = spaced_apart 0 r.scans v.apart }

-- point by point, scan by scan
points_named : (ps : List Point) → map point_scan (map key_of ps) ≡ map named ps
points_named [] = refl
points_named (p ∷ ps) = ap (named p ∷◌) (points_named ps)

scans_whole : (cs : List Scan) → scans_of (map low_of cs) (map high_of cs) ≡ cs
scans_whole [] = refl
scans_whole (c ∷ cs) = ap (c ∷◌) (scans_whole cs)

-- the footprint of a record's lists is the record's
pub footprint_reach : (r : Rec) → footprint (map key_of r.points) (map low_of r.scans) (map high_of r.scans) ≡ reach r
unfolding footprint reach
footprint_reach r = ap₂ ◌++◌ (points_named r.points) (scans_whole r.scans)
