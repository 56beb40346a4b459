-- Written records read back the same: the bytes of a valid record parse to it. Each point and each scan is found where it stands.
-- Assumes nothing.
use Prim.Native.Nat.{ℕ, ◌+◌, ◌^◌, ◌≤◌, ◌<◌}
use mathlib.Core.Path.{◌≡◌, refl, sym, ap, ◌∙◌}
use mathlib.Core.Bool.{true}
use mathlib.Core.Option.{some}
use mathlib.Core.List.{List, [], ◌∷◌, ◌++◌, append_assoc, append-nil}
use native.Mathlib.Omega.{arith}
use lib.ListN.{length, drop, length-append}
use borrow.Author.Tests.{le-ltb, le-leb, eq-eqb}
use Rattle.words.specs.Word.{big_endian, word}
use Rattle.record.specs.declared.point.Point.{Point}
use Rattle.record.specs.declared.point.Point.TheVariants.{Read, Put, Delete}
use Rattle.record.specs.declared.point.Scan.{Scan}
use Rattle.std.specs.Prelude.{Some}
use Rattle.record.specs.Record.{Rec, key_of, payload_of, point_bytes, points_bytes, scan_bytes, scans_bytes, body_bytes, bytes_of, version_of, head_size, size_of, PointsRise, Apart, Valid}
use Rattle.record.specs.Parse.{took, step_point, step_scan, parse_run, parse_points, parse_scans, version_in, point_count, scan_count, first_point, counts_ok, head_ok, parse}
use Rattle.record.proofs.Places.{after_here, fits_here, byte_here, word_here, after_word}
use Rattle.record.proofs.Versions.{version_most, counts_fit}
use Rattle.record.proofs.Sizes.{point_size, points_size_most, scan_bytes_size, scans_bytes_size, body_size, whole_size}

-- A POINT

module _ (bs rest : List ℕ) (low at : ℕ) where
  -- the step finds the point that stands there
  step_found : (p : Point) → drop at bs ≡ point_bytes p ++ rest → low ≤ key_of p → key_of p < 2 ^ 32 → payload_of p < 2 ^ 64
      → step_point low bs at ≡ Some p
  unfolding step_point
  step_found (Read k) e l h v =
      let e1 : drop (at + 1) bs ≡ big_endian 4 k ++ rest = after_here bs (big_endian 4 k ++ rest) at (1 ∷ []) 1 refl e in
      simp (
        le-ltb (length bs) (at + 5) (fits_here bs rest at (point_bytes (Read k)) 5 (point_size (Read k)) (omega arith) e),
        word_here bs rest (at + 1) 4 k e1 h,
        le-ltb _ _ l,
        byte_here bs (big_endian 4 k ++ rest) at 1 e,
      )
  step_found (Put k x) e l h v =
      let e0 : drop at bs ≡ 2 ∷ (big_endian 4 k ++ (big_endian 8 x ++ rest)) = e ∙ ap (λ (b : List ℕ). 2 ∷ b) (append_assoc (big_endian 4 k) (big_endian 8 x) rest) in
      let e1 : drop (at + 1) bs ≡ big_endian 4 k ++ (big_endian 8 x ++ rest) = after_here bs (big_endian 4 k ++ (big_endian 8 x ++ rest)) at (2 ∷ []) 1 refl e0 in
      let i : at + 5 ≡ at + 1 + 4 = omega arith in
      let e5 : drop (at + 5) bs ≡ big_endian 8 x ++ rest = rw i (after_word bs (big_endian 8 x ++ rest) (at + 1) 4 k e1) in
      let f : at + 13 ≤ length bs = fits_here bs rest at (point_bytes (Put k x)) 13 (point_size (Put k x)) (omega arith) e in
      simp (
        le-ltb (length bs) (at + 5) (omega arith),
        word_here bs (big_endian 8 x ++ rest) (at + 1) 4 k e1 h,
        le-ltb _ _ l,
        byte_here bs (big_endian 4 k ++ (big_endian 8 x ++ rest)) at 2 e0,
        le-ltb (length bs) (at + 13) f,
        word_here bs rest (at + 5) 8 x e5 v,
      )
  step_found (Delete k) e l h v =
      let e1 : drop (at + 1) bs ≡ big_endian 4 k ++ rest = after_here bs (big_endian 4 k ++ rest) at (3 ∷ []) 1 refl e in
      simp (
        le-ltb (length bs) (at + 5) (fits_here bs rest at (point_bytes (Delete k)) 5 (point_size (Delete k)) (omega arith) e),
        word_here bs rest (at + 1) 4 k e1 h,
        le-ltb _ _ l,
        byte_here bs (big_endian 4 k ++ rest) at 3 e,
      )

-- and the run all points that stand there
pub points_found : (ps : List Point) (low at : ℕ) (bs rest : List ℕ) → drop at bs ≡ points_bytes ps ++ rest → PointsRise low ps
    → parse_points (length ps) low bs at ≡ took ps (at + length (points_bytes ps))
unfolding parse_run
points_found [] low at bs rest e r = ap (took []) (omega arith)
points_found (p ∷ ps) low at bs rest e r =
    let e' : drop at bs ≡ point_bytes p ++ (points_bytes ps ++ rest) = e ∙ append_assoc (point_bytes p) (points_bytes ps) rest in
    let n : at + size_of p + length (points_bytes ps) ≡ at + length (point_bytes p ++ points_bytes ps) = omega (arith, length-append (point_bytes p) (points_bytes ps), point_size p) in
    simp (
      step_found bs (points_bytes ps ++ rest) low at p e' r.0 r.1 r.2,
      points_found ps (key_of p + 1) (at + size_of p) bs rest (after_here bs (points_bytes ps ++ rest) at (point_bytes p) (size_of p) (point_size p) e') r.3,
      n,
    )

-- A SCAN

-- the step finds the scan that stands there
scan_found : (c : Scan) (low at : ℕ) (bs rest : List ℕ) → drop at bs ≡ scan_bytes c ++ rest → low ≤ c.low → c.low ≤ c.high → c.high < 2 ^ 32
    → step_scan low bs at ≡ Some c
unfolding step_scan
scan_found c low at bs rest e a b h =
    let e0 : drop at bs ≡ big_endian 4 c.low ++ (big_endian 4 c.high ++ rest) = e ∙ append_assoc (big_endian 4 c.low) (big_endian 4 c.high) rest in
    let e4 : drop (at + 4) bs ≡ big_endian 4 c.high ++ rest = after_word bs (big_endian 4 c.high ++ rest) at 4 c.low e0 in
    simp (
      le-ltb (length bs) (at + 8) (fits_here bs rest at (scan_bytes c) 8 (scan_bytes_size c) (omega arith) e),
      word_here bs (big_endian 4 c.high ++ rest) at 4 c.low e0 (omega arith),
      word_here bs rest (at + 4) 4 c.high e4 h,
      le-ltb _ _ a,
      le-ltb _ _ b,
    )

-- and the run all scans that stand there
pub scans_found : (cs : List Scan) (low at : ℕ) (bs rest : List ℕ) → drop at bs ≡ scans_bytes cs ++ rest → Apart low cs
    → parse_scans (length cs) low bs at ≡ took cs (at + length (scans_bytes cs))
unfolding parse_run
scans_found [] low at bs rest e r = ap (took []) (omega arith)
scans_found (c ∷ cs) low at bs rest e r =
    let e' : drop at bs ≡ scan_bytes c ++ (scans_bytes cs ++ rest) = e ∙ append_assoc (scan_bytes c) (scans_bytes cs) rest in
    let n : at + 8 + length (scans_bytes cs) ≡ at + length (scan_bytes c ++ scans_bytes cs) = omega (arith, length-append (scan_bytes c) (scans_bytes cs), scan_bytes_size c) in
    simp (
      scan_found c low at bs (scans_bytes cs ++ rest) e' r.0 r.1 r.2,
      scans_found cs (c.high + 1) (at + 8) bs rest (after_here bs (scans_bytes cs ++ rest) at (scan_bytes c) 8 (scan_bytes_size c) e') r.3,
      n,
    )

-- THE WHOLE RECORD

module _ (r : Rec) (v : Valid r) where
  -- R8: the longest
  pub body_most : length (body_bytes r) ≤ 13833
  body_most =
      omega (
        arith,
        body_size r,
        points_size_most r.points,
        scans_bytes_size r.scans,
        v.few_points,
        v.few_scans,
        version_most (length r.points) (length r.scans),
      )

  -- the version, and how wide the counts are
  w : ℕ
  w = version_of r

  -- the points and the scans
  tail : List ℕ
  tail = points_bytes r.points ++ scans_bytes r.scans

  -- what stands from each place of the head on
  from_2 : drop 2 (bytes_of r) ≡ body_bytes r
  from_2 = after_word (bytes_of r) (body_bytes r) 0 2 (length (body_bytes r)) refl

  from_3 : drop 3 (bytes_of r) ≡ big_endian 4 r.snapshot ++ (big_endian w (length r.points) ++ (big_endian w (length r.scans) ++ tail))
  unfolding w tail
  from_3 = after_here (bytes_of r) _ 2 (version_of r ∷ []) 1 refl from_2

  from_7 : drop 7 (bytes_of r) ≡ big_endian w (length r.points) ++ (big_endian w (length r.scans) ++ tail)
  from_7 = after_word (bytes_of r) _ 3 4 r.snapshot from_3

  from_scans : drop (7 + w) (bytes_of r) ≡ big_endian w (length r.scans) ++ tail
  from_scans = after_word (bytes_of r) _ 7 w (length r.points) from_7

  from_head : drop (7 + w + w) (bytes_of r) ≡ points_bytes r.points ++ scans_bytes r.scans
  unfolding tail
  from_head = after_word (bytes_of r) tail (7 + w) w (length r.scans) from_scans

  -- what is read there
  version_read : version_in (bytes_of r) ≡ w
  unfolding w
  version_read = byte_here (bytes_of r) _ 2 (version_of r) from_2

  first_read : first_point (bytes_of r) ≡ 7 + w + w
  unfolding first_point
  first_read = ap head_size version_read

  points_read : point_count (bytes_of r) ≡ length r.points
  unfolding point_count w
  points_read =
      ap (λ (n : ℕ). word n (bytes_of r) 7) version_read
      ∙ word_here (bytes_of r) _ 7 w (length r.points) from_7 (counts_fit (length r.points) (length r.scans) v.few_points v.few_scans).0

  scans_read : scan_count (bytes_of r) ≡ length r.scans
  unfolding scan_count w
  scans_read =
      ap (λ (n : ℕ). word n (bytes_of r) (7 + n)) version_read
      ∙ word_here (bytes_of r) _ (7 + w) w (length r.scans) from_scans (counts_fit (length r.points) (length r.scans) v.few_points v.few_scans).1

  -- the head is right
  head_right : head_ok (bytes_of r) ≡ true
  unfolding head_ok counts_ok w
  head_right =
      simp (
        first_read,
        version_read,
        points_read,
        scans_read,
        le-leb (7 + w + w) (length (bytes_of r)) (omega (arith, whole_size r, body_size r)),
        word_here (bytes_of r) (body_bytes r) 0 2 (length (body_bytes r)) refl (omega (arith, body_most)),
        eq-eqb (length (body_bytes r) + 2) (length (bytes_of r)) (sym (whole_size r)),
        le-leb _ _ v.few_points,
        le-leb _ _ v.few_scans,
        eq-eqb w w refl,
      )

  -- the whole record is found
  pub bytes_parse : parse (bytes_of r) ≡ some r
  unfolding parse w
  bytes_parse =
      let bs : List ℕ = bytes_of r in
      let n : ℕ = length (points_bytes r.points) in
      let m : ℕ = length (scans_bytes r.scans) in
      let dn : drop (7 + w + w + n) bs ≡ scans_bytes r.scans ++ [] = after_here bs (scans_bytes r.scans) (7 + w + w) (points_bytes r.points) n refl from_head ∙ sym (append-nil (scans_bytes r.scans)) in
      simp (
        head_right,
        first_read,
        points_read,
        scans_read,
        points_found r.points 0 (7 + w + w) bs (scans_bytes r.scans) from_head v.rising,
        scans_found r.scans 0 (7 + w + w + n) bs [] dn v.apart,
        eq-eqb (7 + w + w + n + m) (length bs) (omega (arith, whole_size r, body_size r)),
        word_here bs _ 3 4 r.snapshot from_3 v.snapshot_fits,
      )
