-- How many bytes points, scans and records have.
-- Assumes nothing.
use Prim.Native.Nat.{ℕ, ◌+◌, ◌*◌, ◌≤◌}
use mathlib.Core.Path.{◌≡◌, refl}
use mathlib.Core.List.{List, [], ◌∷◌, ◌++◌}
use native.Mathlib.Omega.{arith}
use lib.ListN.{length, length-append}
use Rattle.words.specs.Word.{big_endian}
use Rattle.words.specs.Laws.{length_big_endian}
use Rattle.record.specs.declared.point.Point.{Point}
use Rattle.record.specs.declared.point.Point.TheVariants.{Read, Put, Delete}
use Rattle.record.specs.declared.point.Scan.{Scan}
use Rattle.record.specs.Record.{Rec, point_bytes, points_bytes, scan_bytes, scans_bytes, body_bytes, bytes_of, version_of, head_size, size_of}

-- a point has its size
pub point_size : (p : Point) → length (point_bytes p) ≡ size_of p
point_size (Read k) = omega (arith, length_big_endian 4 k)
point_size (Put k x) = omega (arith, length-append (big_endian 4 k) (big_endian 8 x), length_big_endian 4 k, length_big_endian 8 x)
point_size (Delete k) = omega (arith, length_big_endian 4 k)

-- five at the least
pub size_least : (p : Point) → 5 ≤ size_of p
size_least (Read k) = omega arith
size_least (Put k x) = omega arith
size_least (Delete k) = omega arith

-- thirteen at the most
pub size_most : (p : Point) → size_of p ≤ 13
size_most (Read k) = omega arith
size_most (Put k x) = omega arith
size_most (Delete k) = omega arith

-- thirteen for each point at the most
pub points_size_most : (ps : List Point) → length (points_bytes ps) ≤ 13 * length ps
points_size_most [] = omega arith
points_size_most (p ∷ ps) = omega (arith, length-append (point_bytes p) (points_bytes ps), point_size p, size_most p, points_size_most ps)

-- and five at the least
pub points_size_least : (ps : List Point) → 5 * length ps ≤ length (points_bytes ps)
points_size_least [] = omega arith
points_size_least (p ∷ ps) = omega (arith, length-append (point_bytes p) (points_bytes ps), point_size p, size_least p, points_size_least ps)

-- a scan has eight bytes
pub scan_bytes_size : (c : Scan) → length (scan_bytes c) ≡ 8
scan_bytes_size c = omega (arith, length-append (big_endian 4 c.low) (big_endian 4 c.high), length_big_endian 4 c.low, length_big_endian 4 c.high)

-- eight for each scan
pub scans_bytes_size : (cs : List Scan) → length (scans_bytes cs) ≡ 8 * length cs
scans_bytes_size [] = refl
scans_bytes_size (c ∷ cs) = omega (arith, length-append (scan_bytes c) (scans_bytes cs), scan_bytes_size c, scans_bytes_size cs)

-- the head but for the two bytes of the length, the points and the scans stand after the length
pub body_size : (r : Rec) → length (body_bytes r) + 2 ≡ head_size (version_of r) + (length (points_bytes r.points) + length (scans_bytes r.scans))
body_size r =
    let v : ℕ = version_of r in
    let tail : List ℕ = points_bytes r.points ++ scans_bytes r.scans in
    let scans : List ℕ = big_endian v (length r.scans) ++ tail in
    let points : List ℕ = big_endian v (length r.points) ++ scans in
    omega (
      arith,
      length-append (big_endian 4 r.snapshot) points,
      length_big_endian 4 r.snapshot,
      length-append (big_endian v (length r.points)) scans,
      length_big_endian v (length r.points),
      length-append (big_endian v (length r.scans)) tail,
      length_big_endian v (length r.scans),
      length-append (points_bytes r.points) (scans_bytes r.scans),
    )

-- two more with the length
pub whole_size : (r : Rec) → length (bytes_of r) ≡ length (body_bytes r) + 2
whole_size r = omega (arith, length-append (big_endian 2 (length (body_bytes r))) (body_bytes r), length_big_endian 2 (length (body_bytes r)))
