-- What `named_size` meets at each return: a rule broken names no record; else the place past the scans is the record's size.
-- Assumes nothing.
use Prim.Native.Nat.{ℕ, ◌≤◌}
use mathlib.Core.Path.{◌≡◌, refl, sym, ap, ◌∙◌}
use mathlib.Core.Bool.{◌&&◌}
use mathlib.Core.Option.{Option, none, some}
use mathlib.Core.List.{List}
use native.Mathlib.Omega.{arith}
use lib.ListN.{length, length-map}
use lib.Dec.{leb}
use borrow.Author.Tests.{le-leb}
use Rattle.record.specs.declared.point.Point.{Point}
use Rattle.std.specs.Prelude.{Option as Optional, Some, None}
use Rattle.record.specs.Record.{Rec, kind_of, key_of, payload_of, bytes_of, version_for, version_of, head_size}
use Rattle.record.specs.Parse.{took, end_of, list_of}
use Rattle.record.specs.Reader.{Lists, lists, low_of, high_of}
use Rattle.record.proofs.Cases.{by_case, took_or, bad_end, took_at}
use Rattle.record.proofs.Versions.{version_most}
use Rattle.record.proofs.Sizes.{points_size_most, body_size, whole_size}
use Rattle.writer.specs.Writer.{named_points, named_scans, start_for, record_of, size_end}
use Rattle.writer.proofs.NamedLaws.{PointsNamed, ScansNamed, points_named, scans_named}
use Rattle.writer.proofs.Names.{ListsName, lists_name}

-- lists that can name no record
refuse : (x : Option Rec) → ((r : Rec) → x ≡ some r → ⊥) → None ≡ size_end x
refuse none f = refl
refuse (some r) f = absurd (f r refl)

-- how long the lists of a record are
pub record Lengths (ks es xs ls hs : List ℕ) (r : Rec) : Type 0 where
  pub kinds_long : length ks ≡ length r.points
  pub keys_long : length es ≡ length r.points
  pub payloads_long : length xs ≡ length r.points
  pub lows_long : length ls ≡ length r.scans
  pub highs_long : length hs ≡ length r.scans

-- from what the lists name
pub lengths : (snapshot : ℕ) (ks es xs ls hs : List ℕ) (r : Rec) → ListsName snapshot (lists ks es xs ls hs) r → Lengths ks es xs ls hs r
lengths snapshot ks es xs ls hs r n =
    record {
      kinds_long = ap (λ (l : Lists). length l.kinds) n.lists_are ∙ length-map r.points kind_of;
      keys_long = ap (λ (l : Lists). length l.keys) n.lists_are ∙ length-map r.points key_of;
      payloads_long = ap (λ (l : Lists). length l.payloads) n.lists_are ∙ length-map r.points payload_of;
      lows_long = ap (λ (l : Lists). length l.lows) n.lists_are ∙ length-map r.scans low_of;
      highs_long = ap (λ (l : Lists). length l.highs) n.lists_are ∙ length-map r.scans high_of;
    }

-- the size is the same for every snapshot
pub any_snapshot : (s t : ℕ) (l : Lists) → size_end (record_of s l) ≡ size_end (record_of t l)
unfolding record_of
any_snapshot s t l =
    took_or (named_points 0 l.kinds l.keys l.payloads (start_for l)) (λ x. simp x) λ ps at x.
    took_or (named_scans 0 l.lows l.highs at) (λ y. simp (x, y)) λ cs end y.
    by_case (leb (length ps) 1024 && leb (length cs) 64)
    (λ v.
    let q : Rec = record { snapshot = s; points = ps; scans = cs } in
    let r : Rec = record { snapshot = t; points = ps; scans = cs } in
    let n : length (bytes_of q) ≡ length (bytes_of r) = omega (arith, whole_size q, body_size q, whole_size r, body_size r) in
    simp (x, y, v) (ap Some n))
    (λ v. simp (x, y, v))

module _ (ks es xs ls hs : List ℕ) where
  -- lists of unequal length, more than 1,024 points or more than 64 scans
  pub size_lists : (length es ≡ length ks → length xs ≡ length ks → length hs ≡ length ls → length ks ≤ 1024 → length ls ≤ 64 → ⊥)
      → None ≡ size_end (record_of 0 (lists ks es xs ls hs))
  size_lists h =
      refuse (record_of 0 (lists ks es xs ls hs)) λ r e.
      let n = lists_name 0 (lists ks es xs ls hs) r e in
      let l = lengths 0 ks es xs ls hs r n in
      h (l.keys_long ∙ sym l.kinds_long) (l.payloads_long ∙ sym l.kinds_long) (l.highs_long ∙ sym l.lows_long)
      (omega (arith, n.few_points, l.kinds_long)) (omega (arith, n.few_scans, l.lows_long))

  -- it stands at 11 at the latest
  pub start_most : (v : ℕ) → v ≡ version_for (length ks) (length ls) → (start : ℕ) → start ≡ head_size v → start ≤ 11
  start_most v e start i = omega (arith, version_most (length ks) (length ls))

  module _ (v : ℕ) (is-v : v ≡ version_for (length ks) (length ls)) (start : ℕ) (is-start : start ≡ head_size v)
      (rp : Optional ℕ) (is-p : rp ≡ end_of (named_points 0 ks es xs start)) where
    -- the first point stands there
    here : start ≡ start_for (lists ks es xs ls hs)
    here = is-start ∙ ap head_size is-v

    -- points that break a rule
    pub size_points_bad : rp ≡ None → None ≡ size_end (record_of 0 (lists ks es xs ls hs))
    unfolding record_of
    size_points_bad h = simp (← here, bad_end (named_points 0 ks es xs start) (sym is-p ∙ h))

    module _ (at : ℕ) (is_at : rp ≡ Some at) (few_points : length ks ≤ 1024) where
      -- the points named
      ps : List Point
      ps = list_of (named_points 0 ks es xs start)

      -- they were taken, up to a place
      points_at : named_points 0 ks es xs start ≡ took ps at
      unfolding ps
      points_at = took_at (named_points 0 ks es xs start) at (sym is-p ∙ is_at)

      -- the lists are their own
      points_are : PointsNamed 0 ks es xs start ps at
      points_are = points_named ks es xs 0 start ps at points_at

      -- as many as kinds
      points_long : length ks ≡ length ps
      points_long = ap length points_are.kinds_are ∙ length-map ps kind_of

      -- 1,024 at the most
      points_few : length ps ≤ 1024
      points_few = omega (arith, points_long)

      -- they end at 13,323 at the most
      pub size_place : at ≤ 13323
      size_place = omega (arith, points_are.place, points_size_most ps, points_few, start_most v is-v start is-start)

      -- with the scans behind them: the size, or a refusal
      pub size_whole : (r : Optional ℕ) → r ≡ end_of (named_scans 0 ls hs at) → length ls ≤ 64 → r ≡ size_end (record_of 0 (lists ks es xs ls hs))
      unfolding record_of
      size_whole r is few_scans =
          took_or (named_scans 0 ls hs at) (λ y. is ∙ simp (← here, points_at, y)) λ cs end y.
          let s : ScansNamed 0 ls hs at cs end = scans_named ls hs 0 at cs end y in
          let q : Rec = record { snapshot = 0; points = ps; scans = cs } in
          let scans_long : length ls ≡ length cs = ap length s.lows_are ∙ length-map cs low_of in
          let few : length cs ≤ 64 = omega (arith, scans_long) in
          let version_is : v ≡ version_of q = is-v ∙ rw (points_long, scans_long) in
          let n : end ≡ length (bytes_of q) = omega (arith, s.place, points_are.place, whole_size q, body_size q, is-start ∙ ap head_size version_is) in
          is ∙ simp (← here, points_at, y, le-leb _ _ points_few, le-leb _ _ few) (ap Some n)
