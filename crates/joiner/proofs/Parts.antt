-- A record whose head is right, taken apart: its points stand behind the head, its scans at its end, and nothing between them.
-- Assumes nothing.
use Prim.Native.Nat.{ℕ, zero, suc, ◌+◌, ◌*◌, ◌-◌, ◌^◌, ◌≤◌, ◌<◌}
use mathlib.Core.Bool.{true}
use mathlib.Core.Option.{some}
use mathlib.Core.Path.{◌≡◌, refl, sym, ap, ◌∙◌}
use mathlib.Core.List.{List}
use native.Mathlib.Omega.{arith}
use lib.ListN.{length}
use lib.Dec.{eqb}
use borrow.Author.Tests.{eq-eqb, eqb-true}
use Rattle.std.specs.Prelude.{Option as Optional, Some, None}
use Rattle.words.specs.Word.{word}
use Rattle.record.specs.declared.point.Point.{Point}
use Rattle.record.specs.declared.point.Scan.{Scan}
use Rattle.record.specs.declared.checker.Head.{Head}
use Rattle.record.specs.Record.{Rec, key_of, size_of}
use Rattle.record.specs.Parse.{Parsed, took, step_point, step_scan, after, parse_run, parse_points, parse_scans, is_took, list_of, place_of, point_count, scan_count, first_point, head_ok, head_in, head_of, parse}
use Rattle.record.proofs.Cases.{by_case, no_some, took_or, took_also, place_also}
use Rattle.record.proofs.HeadLaws.{HeadRight, head_right, right_version, right_long, first_at, head_found}
use Rattle.joiner.specs.ScanSteps.{all_scans}
use Rattle.joiner.specs.PointSteps.{all_points}

-- WHERE RUNS END

-- behind a step
ends_behind : (at : ℕ) (s : Optional Point) (f : Point → Parsed Point) → ((p : Point) → is_took (f p) ≡ true → at + size_of p ≤ place_of (f p))
    → is_took (after s f) ≡ true → at ≤ place_of (after s f)
ends_behind at None f h t = cc
ends_behind at (Some p) f h t = rw (place_also p (f p)) (omega (arith, h p (sym (took_also p (f p)) ∙ t)))

-- points end no earlier than they start
points_forward : (n low : ℕ) (bs : List ℕ) (at : ℕ) → is_took (parse_points n low bs at) ≡ true → at ≤ place_of (parse_points n low bs at)
unfolding parse_run
points_forward zero low bs at t = omega arith
points_forward (suc n) low bs at t =
    ends_behind at (step_point low bs at) (λ p. parse_points n (key_of p + 1) bs (at + size_of p))
    (λ p u. points_forward n (key_of p + 1) bs (at + size_of p) u) t

-- behind a scan
ends_scan : (at n : ℕ) (s : Optional Scan) (f : Scan → Parsed Scan) → ((c : Scan) → is_took (f c) ≡ true → place_of (f c) ≡ at + 8 + 8 * n)
    → is_took (after s f) ≡ true → place_of (after s f) ≡ at + 8 * suc n
ends_scan at n None f h t = cc
ends_scan at n (Some c) f h t = place_also c (f c) ∙ h c (sym (took_also c (f c)) ∙ t) ∙ omega arith

-- scans end eight bytes later each
scans_place : (n floor : ℕ) (bs : List ℕ) (at : ℕ) → is_took (parse_scans n floor bs at) ≡ true → place_of (parse_scans n floor bs at) ≡ at + 8 * n
unfolding parse_run
scans_place zero floor bs at t = omega arith
scans_place (suc n) floor bs at t =
    ends_scan at n (step_scan floor bs at) (λ c. parse_scans n (c.high + 1) bs (at + 8)) (λ c u. scans_place n (c.high + 1) bs (at + 8) u) t

-- THE PARTS

-- the record with these parts
abbrev pub record_with : List ℕ → Head → Rec
record_with bs h = record { snapshot = word 4 bs 3; points = list_of (all_points bs h); scans = list_of (all_scans bs h) }

-- what is known of a record that was read, with this head
pub record Parts (bs : List ℕ) (h : Head) (r : Rec) : Type 0 where
  pub points_took : is_took (all_points bs h) ≡ true
  pub scans_took : is_took (all_scans bs h) ≡ true
  pub meet : place_of (all_points bs h) + 8 * h.scans ≡ length bs
  pub room : h.start + 8 * h.scans ≤ length bs
  pub is : r ≡ record_with bs h

module _ (bs : List ℕ) (h : Head) (head : head_of bs ≡ Some h) where
  -- the head
  found : (head_ok bs ≡ true) × (h ≡ head_in bs)
  found = head_found bs (Some h) (sym head) h refl

  points_are : point_count bs ≡ h.points
  points_are = sym (ap (λ (x : Head). x.points) found.1)

  scans_are : scan_count bs ≡ h.scans
  scans_are = sym (ap (λ (x : Head). x.scans) found.1)

  first_is : first_point bs ≡ h.start
  first_is = sym (ap (λ (x : Head). x.start) found.1)

  right : HeadRight bs
  right = head_right bs found.0

  -- how much it can say
  pub few_points : h.points ≤ 1024
  few_points = rw points_are at right.few_points

  pub few_scans : h.scans ≤ 64
  few_scans = rw scans_are at right.few_scans

  pub start_within : h.start ≤ length bs
  start_within = rw first_is at right.within

  start_small : h.start ≤ 11
  start_small = right_version bs right (λ a b e. omega (arith, first_is, first_at bs 1 e)) (λ e. omega (arith, first_is, first_at bs 2 e))

  -- where its scans would begin fits a usize
  pub scans_fit : 8 * h.scans < 2 ^ 64
  scans_fit = omega (arith, few_scans)

  pub start_fits : h.start + 8 * h.scans < 2 ^ 64
  start_fits = omega (arith, start_small, few_scans)

  -- it has room for a snapshot
  pub snapshot_within : 3 + 4 ≤ length bs
  snapshot_within = omega (arith, right_long bs right)

  -- put together from what was taken
  parts_from : (r : Rec) (ps : List Point) (at : ℕ) (cs : List Scan) (end : ℕ) → all_points bs h ≡ took ps at → parse_scans h.scans 0 bs at ≡ took cs end → end ≡ length bs
      → some (record { snapshot = word 4 bs 3; points = ps; scans = cs }) ≡ some r → Parts bs h r
  parts_from r ps at cs end x y v e =
      let place : place_of (all_points bs h) ≡ at = ap place_of x in
      let ends : end ≡ at + 8 * h.scans = sym (ap place_of y) ∙ scans_place h.scans 0 bs at (ap is_took y) in
      let here : at ≡ length bs - 8 * h.scans = omega arith in
      let run : all_scans bs h ≡ took cs end = ap (parse_scans h.scans 0 bs) (sym here) ∙ y in
      let z : record { snapshot = word 4 bs 3; points = ps; scans = cs } ≡ r = cc in
      record {
        points_took = ap is_took x;
        scans_took = ap is_took run;
        meet = omega arith;
        room = omega (arith, points_forward h.points 0 bs h.start (ap is_took x));
        is = sym z ∙ rw (x, run);
      }

  -- bytes that are a record
  pub parts_of : (r : Rec) → parse bs ≡ some r → Parts bs h r
  unfolding parse
  parts_of r e =
      took_or (all_points bs h)
      (λ x. no_some (simp (found.0, points_are, scans_are, first_is, x) at e))
      (λ ps at x. took_or (parse_scans h.scans 0 bs at)
      (λ y. no_some (simp (found.0, points_are, scans_are, first_is, x, y) at e))
      (λ cs end y. by_case (eqb end (length bs))
      (λ v. parts_from r ps at cs end x y (eqb-true _ _ v) (simp (found.0, points_are, scans_are, first_is, x, y, v) at e))
      (λ v. no_some (simp (found.0, points_are, scans_are, first_is, x, y, v) at e))))

  -- and bytes with such parts are the record with them
  pub parts_parse : is_took (all_points bs h) ≡ true → is_took (all_scans bs h) ≡ true → place_of (all_points bs h) ≡ length bs - 8 * h.scans → 8 * h.scans ≤ length bs
      → parse bs ≡ some (record_with bs h)
  unfolding parse
  parts_parse t u m w =
      took_or (all_points bs h)
      (λ x. let z = ap is_took x in cc)
      (λ ps at x.
      let here : at ≡ length bs - 8 * h.scans = sym (ap place_of x) ∙ m in
      took_or (parse_scans h.scans 0 bs at)
      (λ y. let z = ap (λ (i : ℕ). is_took (parse_scans h.scans 0 bs i)) (sym here) ∙ ap is_took y in cc)
      (λ cs end y.
      let ends : end ≡ length bs = sym (ap place_of y) ∙ scans_place h.scans 0 bs at (ap is_took y) ∙ omega arith in
      let run : all_scans bs h ≡ took cs end = ap (parse_scans h.scans 0 bs) (sym here) ∙ y in
      simp (found.0, points_are, scans_are, first_is, x, y, run, eq-eqb end (length bs) ends)))
