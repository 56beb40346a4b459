-- The round trip on definitions: well-formed bytes are written back the same, and written records read back the same.
-- Assumes nothing.
use Prim.Native.Nat.{ℕ, zero, suc, ◌≤◌, ◌<◌}
use mathlib.Core.Path.{◌≡◌, ap, ◌∙◌}
use mathlib.Core.Logic.{◌↔◌}
use mathlib.Core.Option.{some}
use mathlib.Core.List.{List, [], ◌∷◌, ◌++◌}
use native.Mathlib.Omega.{arith}
use native.Mathlib.Decide.{dec_lt}
use lib.ListN.{length, get_or}
use Rattle.words.specs.Word.{Bytes, word, big_endian}
use Rattle.words.specs.Laws.{word_big_endian, bytes_append, bytes_big_endian}
use Rattle.record.specs.declared.point.Point.{Point}
use Rattle.record.specs.declared.point.Point.TheVariants.{Read, Put, Delete}
use Rattle.record.specs.declared.point.Scan.{Scan}
use Rattle.record.specs.Record.{Rec, point_bytes, points_bytes, scan_bytes, scans_bytes, body_bytes, bytes_of, version_of, Valid, RecordSized}
use Rattle.record.specs.Parse.{parse}
use Rattle.record.proofs.Versions.{version_1, by_version, version_least, version_most}
use Rattle.record.proofs.Sizes.{points_size_least, points_size_most, scans_bytes_size, body_size, whole_size}
use Rattle.record.proofs.BytesParse.{body_most, bytes_parse}
use Rattle.record.proofs.ParseBytes.{Written, parse_bytes}

-- a valid record's bytes parse to the record
pub parse_bytes_of : (r : Rec) → Valid r → parse (bytes_of r) ≡ some r
parse_bytes_of r v = bytes_parse r v

-- bytes that parse are those of the record that they parse to, and it is valid
pub bytes_of_parse : (bs : List ℕ) (r : Rec) → Bytes bs → parse bs ≡ some r → Valid r × (bs ≡ bytes_of r)
bytes_of_parse bs r y e = let w : Written bs r = parse_bytes bs r y e in (w.valid, w.same)

-- bytes parse to r exactly if r is valid and the bytes are r's
pub parse_is : (bs : List ℕ) (r : Rec) → Bytes bs → (parse bs ≡ some r) ↔ (Valid r × (bs ≡ bytes_of r))
parse_is bs r y = (λ e. bytes_of_parse bs r y e, λ h. ap parse h.1 ∙ parse_bytes_of r h.0)

-- every valid record has such a size
pub valid_size : (r : Rec) → Valid r → RecordSized r
valid_size r v =
    let f : word 2 (bytes_of r) 0 ≡ length (body_bytes r) = word_big_endian 2 (length (body_bytes r)) (body_bytes r) (omega (arith, body_most r v)) in
    let b = body_size r in
    let w = whole_size r in
    let m = body_most r v in
    let l = version_least (length r.points) (length r.scans) in
    record { least = omega arith; most = omega arith; field_least = omega arith; field_most = omega arith; field = omega arith }

-- R8: in version 1 the length says 903 at the most
pub version_1_most : (r : Rec) → version_of r ≡ 1 → length (body_bytes r) ≤ 903
version_1_most r e =
    by_version (length r.points) (length r.scans)
    (λ p s f. omega (arith, body_size r, e, points_size_most r.points, scans_bytes_size r.scans))
    (λ f. absurd (omega (arith, e, f)))

-- and in version 2 at least 81
pub version_2_least : (r : Rec) → version_of r ≡ 2 → 81 ≤ length (body_bytes r)
version_2_least r e =
    elim (dec_lt 64 (length r.points)) [
      | yes many ↦ omega (arith, body_size r, e, points_size_least r.points)
      | no few ↦ elim (dec_lt 8 (length r.scans)) [
        | yes many ↦ omega (arith, body_size r, e, scans_bytes_size r.scans)
        | no less ↦ absurd (omega (arith, e, version_1 (length r.points) (length r.scans) (omega arith) (omega arith)))
      ]
    ]

-- A RECORD'S BYTES ARE BYTES

-- a byte before bytes
bytes_cons : (a : ℕ) (s : List ℕ) → a < 256 → Bytes s → Bytes (a ∷ s)
bytes_cons a s h b = record { byte = below }
  where
    below : (i : ℕ) → get_or (a ∷ s) i 0 < 256
    below zero = h
    below (suc i) = b.byte i

-- none
no_bytes : Bytes []
no_bytes = record { byte = λ i. omega arith }

-- the bytes of a point
bytes_point : (p : Point) → Bytes (point_bytes p)
bytes_point (Read k) = bytes_cons 1 (big_endian 4 k) (omega arith) (bytes_big_endian 4 k)
bytes_point (Put k x) =
    bytes_cons 2 (big_endian 4 k ++ big_endian 8 x) (omega arith) (bytes_append (big_endian 4 k) (big_endian 8 x) (bytes_big_endian 4 k) (bytes_big_endian 8 x))
bytes_point (Delete k) = bytes_cons 3 (big_endian 4 k) (omega arith) (bytes_big_endian 4 k)

-- of a run of points
bytes_points : (ps : List Point) → Bytes (points_bytes ps)
bytes_points [] = no_bytes
bytes_points (p ∷ ps) = bytes_append (point_bytes p) (points_bytes ps) (bytes_point p) (bytes_points ps)

-- of a run of scans
bytes_scans : (cs : List Scan) → Bytes (scans_bytes cs)
bytes_scans [] = no_bytes
bytes_scans (c ∷ cs) =
    bytes_append (scan_bytes c) (scans_bytes cs)
    (bytes_append (big_endian 4 c.low) (big_endian 4 c.high) (bytes_big_endian 4 c.low) (bytes_big_endian 4 c.high)) (bytes_scans cs)

-- each number in a valid record's bytes is a byte
pub valid_bytes : (r : Rec) → Valid r → Bytes (bytes_of r)
valid_bytes r v =
    let w : ℕ = version_of r in
    let tail : List ℕ = points_bytes r.points ++ scans_bytes r.scans in
    let scans : List ℕ = big_endian w (length r.scans) ++ tail in
    let points : List ℕ = big_endian w (length r.points) ++ scans in
    let t : Bytes tail = bytes_append (points_bytes r.points) (scans_bytes r.scans) (bytes_points r.points) (bytes_scans r.scans) in
    let s : Bytes scans = bytes_append (big_endian w (length r.scans)) tail (bytes_big_endian w (length r.scans)) t in
    let p : Bytes points = bytes_append (big_endian w (length r.points)) scans (bytes_big_endian w (length r.points)) s in
    bytes_append (big_endian 2 (length (body_bytes r))) (body_bytes r) (bytes_big_endian 2 (length (body_bytes r)))
    (bytes_cons w (big_endian 4 r.snapshot ++ points) (omega (arith, version_most (length r.points) (length r.scans)))
    (bytes_append (big_endian 4 r.snapshot) points (bytes_big_endian 4 r.snapshot) p))
