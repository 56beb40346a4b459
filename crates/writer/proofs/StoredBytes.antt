-- What the second pass stores for a record's own lists is the record's bytes.
-- Assumes nothing.
use Prim.Native.Nat.{ℕ, ◌+◌}
use mathlib.Core.Path.{◌≡◌, refl, sym, ap, ◌∙◌}
use mathlib.Core.List.{List, [], ◌∷◌, ◌++◌, map, append_assoc, append-nil}
use native.Mathlib.Omega.{arith}
use lib.ListN.{length, length-append}
use lib.Seq.{sets}
use Rattle.words.specs.Word.{big_endian}
use Rattle.words.specs.Laws.{length_big_endian, sets_append}
use Rattle.record.specs.declared.point.Point.{Point}
use Rattle.record.specs.declared.point.Point.TheVariants.{Read, Put, Delete}
use Rattle.record.specs.declared.point.Scan.{Scan}
use Rattle.record.specs.Record.{Rec, kind_of, key_of, payload_of, point_bytes, points_bytes, scans_bytes, body_bytes, bytes_of, version_of, head_size}
use Rattle.record.specs.Reader.{low_of, high_of}
use Rattle.writer.specs.Stored.{head_bytes, stored_point, stored_points, stored_scans}

-- a point
pub point_bytes_lem : (p : Point) → stored_point (kind_of p) (key_of p) (payload_of p) ≡ point_bytes p
unfolding stored_point
point_bytes_lem (Read k) = ap (λ (l : List ℕ). 1 ∷ l) (append-nil (big_endian 4 k))
point_bytes_lem (Put k x) = refl
point_bytes_lem (Delete k) = ap (λ (l : List ℕ). 3 ∷ l) (append-nil (big_endian 4 k))

-- points
pub points_bytes_own : (ps : List Point) → stored_points (map kind_of ps) (map key_of ps) (map payload_of ps) ≡ points_bytes ps
unfolding stored_points
points_bytes_own [] = refl
points_bytes_own (p ∷ ps) = rw (point_bytes_lem p, points_bytes_own ps)

-- scans
pub scans_bytes_own : (cs : List Scan) → stored_scans (map low_of cs) (map high_of cs) ≡ scans_bytes cs
unfolding stored_scans
scans_bytes_own [] = refl
scans_bytes_own (c ∷ cs) = rw (scans_bytes_own cs)

-- the head has its size
head_size_lem : (v n s a b : ℕ) → length (head_bytes v n s a b) ≡ head_size v
head_size_lem v n s a b =
    omega (
      arith,
      length-append (big_endian 2 n) (v ∷ (big_endian 4 s ++ (big_endian v a ++ big_endian v b))),
      length_big_endian 2 n,
      length-append (big_endian 4 s) (big_endian v a ++ big_endian v b),
      length_big_endian 4 s,
      length-append (big_endian v a) (big_endian v b),
      length_big_endian v a,
      length_big_endian v b,
    )

-- the head and what stands behind it
head_then : (v n s a b : ℕ) (t : List ℕ) → head_bytes v n s a b ++ t ≡ big_endian 2 n ++ (v ∷ (big_endian 4 s ++ (big_endian v a ++ (big_endian v b ++ t))))
head_then v n s a b t =
    append_assoc (big_endian 2 n) (v ∷ (big_endian 4 s ++ (big_endian v a ++ big_endian v b))) t
    ∙ ap (λ (l : List ℕ). big_endian 2 n ++ (v ∷ l))
    (append_assoc (big_endian 4 s) (big_endian v a ++ big_endian v b) t ∙ ap (λ (l : List ℕ). big_endian 4 s ++ l) (append_assoc (big_endian v a) (big_endian v b) t))

-- head, points and scans stored one after the other are the whole record's bytes
pub stored_whole : (r : Rec) (o h p q : List ℕ) (start at : ℕ)
    → h ≡ sets o 0 (head_bytes (version_of r) (length (body_bytes r)) r.snapshot (length r.points) (length r.scans)) → start ≡ head_size (version_of r)
    → p ≡ sets h start (points_bytes r.points) → at ≡ start + length (points_bytes r.points) → q ≡ sets p at (scans_bytes r.scans) → q ≡ sets o 0 (bytes_of r)
stored_whole r o h p q start at eh es ep ea eq =
    let ps : List ℕ = points_bytes r.points in
    let cs : List ℕ = scans_bytes r.scans in
    let hd : List ℕ = head_bytes (version_of r) (length (body_bytes r)) r.snapshot (length r.points) (length r.scans) in
    let n : length hd ≡ start = head_size_lem (version_of r) (length (body_bytes r)) r.snapshot (length r.points) (length r.scans) ∙ sym es in
    let all : sets o 0 (bytes_of r) ≡ sets h start (ps ++ cs) =
    ap (sets o 0) (sym (head_then (version_of r) (length (body_bytes r)) r.snapshot (length r.points) (length r.scans) (ps ++ cs)))
    ∙ sets_append hd (ps ++ cs) o 0 ∙ ap (λ (k : ℕ). sets (sets o 0 hd) (0 + k) (ps ++ cs)) n
    ∙ ap (λ (k : ℕ). sets (sets o 0 hd) k (ps ++ cs)) (omega arith) ∙ ap (λ (l : List ℕ). sets l start (ps ++ cs)) (sym eh) in
    eq ∙ rw (ep, ea) (sym (sets_append ps cs h start)) ∙ sym all
