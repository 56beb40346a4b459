-- Lists that have room for whatever record the bytes are: those of version 1 where the version byte does not say 2, and those of version 2 always.
-- Assumes nothing.
use Prim.Native.Nat.{ℕ, ◌≤◌}
use mathlib.Core.Path.{◌≡◌, sym, ap, ◌∙◌}
use mathlib.Core.Bool.{true, false, true≢false}
use mathlib.Core.Option.{Option, none, some}
use mathlib.Core.List.{List, []}
use native.Mathlib.Omega.{arith}
use lib.ListN.{length, replicate, length-replicate}
use borrow.Author.Tests.{le-leb, eq-eqb}
use Rattle.record.specs.declared.point.Point.{Point}
use Rattle.record.specs.declared.point.Scan.{Scan}
use Rattle.record.specs.Record.{Rec}
use Rattle.record.specs.Parse.{point_items, scan_items, version_in, point_count, scan_count, is_large, parse}
use Rattle.record.specs.Reader.{Lists, lists, roomy, RoomFor}
use Rattle.record.proofs.Lengths.{run_length}
use Rattle.record.proofs.HeadLaws.{right_version}
use Rattle.record.proofs.WellFormed.{parsed_good}

-- the points and the scans of a record that there may be
abbrev points_of : Option Rec → List Point
points_of none = []
points_of (some r) = r.points

abbrev scans_of : Option Rec → List Scan
scans_of none = []
scans_of (some r) = r.scans

module _ (bs : List ℕ) (r : Rec) (e : parse bs ≡ some r) where
  -- as many points as the head says
  points_counted : length r.points ≡ point_count bs
  points_counted =
      let g = parsed_good bs r e in
      ap (λ (o : Option Rec). length (points_of o)) (sym e ∙ g.is) ∙ run_length point_items (point_count bs) 0 bs _ g.points_took

  -- and as many scans
  scans_counted : length r.scans ≡ scan_count bs
  scans_counted =
      let g = parsed_good bs r e in
      ap (λ (o : Option Rec). length (scans_of o)) (sym e ∙ g.is) ∙ run_length scan_items (scan_count bs) 0 bs _ g.scans_took

  -- R6, R7
  pub parsed_few : (length r.points ≤ 1024) × (length r.scans ≤ 64)
  parsed_few = let h = (parsed_good bs r e).right in (omega (arith, points_counted, h.few_points), omega (arith, scans_counted, h.few_scans))

  -- R53: few of both, where the version byte does not say 2
  pub parsed_small : is_large bs ≡ false → (length r.points ≤ 64) × (length r.scans ≤ 8)
  parsed_small n =
      right_version bs (parsed_good bs r e).right (λ p s _. (omega (arith, points_counted), omega (arith, scans_counted)))
      (λ two. absurd (true≢false (sym (eq-eqb (version_in bs) 2 two) ∙ n)))

-- ROOM

-- lists so long have room for so many
room_by : (l : Lists) (p s : ℕ) → p ≤ length l.kinds → p ≤ length l.keys → p ≤ length l.payloads → s ≤ length l.lows → s ≤ length l.highs
    → (r : Rec) → length r.points ≤ p → length r.scans ≤ s → roomy r l ≡ true
room_by l p s ks es xs ls hs r fp fs =
    simp (
      le-leb (length r.points) (length l.kinds) (omega arith),
      le-leb (length r.points) (length l.keys) (omega arith),
      le-leb (length r.points) (length l.payloads) (omega arith),
      le-leb (length r.scans) (length l.lows) (omega arith),
      le-leb (length r.scans) (length l.highs) (omega arith),
    )

-- so many numbers
long : (n : ℕ) → n ≤ length {A = ℕ} (replicate n 0)
long n = omega (arith, length-replicate {A = ℕ} n 0)

-- the lists of version 2
pub room_large : (bs : List ℕ) → RoomFor bs (lists (replicate 1024 0) (replicate 1024 0) (replicate 1024 0) (replicate 64 0) (replicate 64 0))
room_large bs r is =
    let f = parsed_few bs r is in
    room_by (lists (replicate 1024 0) (replicate 1024 0) (replicate 1024 0) (replicate 64 0) (replicate 64 0)) 1024 64
    (long 1024) (long 1024) (long 1024) (long 64) (long 64) r f.0 f.1

-- those of version 1
pub room_small : (bs : List ℕ) → is_large bs ≡ false → RoomFor bs (lists (replicate 64 0) (replicate 64 0) (replicate 64 0) (replicate 8 0) (replicate 8 0))
room_small bs n r is =
    let f = parsed_small bs r is n in
    room_by (lists (replicate 64 0) (replicate 64 0) (replicate 64 0) (replicate 8 0) (replicate 8 0)) 64 8 (long 64) (long 64) (long 64) (long 8) (long 8) r f.0 f.1
