-- What the loops of the first pass meet at each turn.
-- Assumes nothing.
use Prim.Native.Nat.{ℕ, ◌+◌, ◌≤◌, ◌<◌}
use mathlib.Core.Path.{◌≡◌, sym, ap, ◌∙◌}
use mathlib.Core.List.{List}
use native.Mathlib.Omega.{arith}
use native.Mathlib.Numerals.{add-one}
use lib.ListN.{length, get_or, drop, drop_of_length-le}
use lib.Seq.{drop-cons}
use Rattle.std.specs.Prelude.{Option as Optional, Some, None}
use Rattle.record.specs.declared.point.Point.{Point}
use Rattle.record.specs.declared.point.Scan.{Scan}
use Rattle.record.specs.Record.{key_of, size_of}
use Rattle.record.specs.Parse.{after, end_of}
use Rattle.record.proofs.Cases.{end_also}
use Rattle.writer.specs.Writer.{point_named, scan_named, named_points, named_scans}

-- A TURN OF THE LOOP OVER POINTS

module _ (ks es xs : List ℕ) (keys_same : length es ≡ length ks) (payloads_same : length xs ≡ length ks) (low at i : ℕ) where
  module _ (r : Optional Point) (is : r ≡ point_named low (get_or ks i 0) (get_or es i 0) (get_or xs i 0)) (more : i < length ks) where
    -- one point, and the rest
    point_turn : named_points low (drop i ks) (drop i es) (drop i xs) at
        ≡ after r (λ p. named_points (key_of p + 1) (drop (i + 1) ks) (drop (i + 1) es) (drop (i + 1) xs) (at + size_of p))
    unfolding named_points
    point_turn =
        let me : i < length es = omega arith in
        let mx : i < length xs = omega arith in
        rw (add-one i, drop-cons ks i 0 more, drop-cons es i 0 me, drop-cons xs i 0 mx, is)

    -- no point here, so no run
    pub named_bad : (end : Optional ℕ) → end ≡ end_of (named_points low (drop i ks) (drop i es) (drop i xs) at) → r ≡ None → None ≡ end
    named_bad end e b = sym (e ∙ ap end_of point_turn ∙ simp b)

    -- a point here, and the run goes on behind it
    pub named_next : (p : Point) → r ≡ Some p → (end : Optional ℕ) (size next : ℕ) → end ≡ end_of (named_points low (drop i ks) (drop i es) (drop i xs) at)
        → size ≡ size_of p → next ≡ key_of p + 1 → end ≡ end_of (named_points next (drop (i + 1) ks) (drop (i + 1) es) (drop (i + 1) xs) (at + size))
    named_next p b end size next e s n = e ∙ ap end_of point_turn ∙ simp (b, end_also, s, n)

  -- none left: the run ends here
  pub named_none : length ks ≤ i → (end : Optional ℕ) → end ≡ end_of (named_points low (drop i ks) (drop i es) (drop i xs) at) → Some at ≡ end
  unfolding named_points
  named_none h end e =
      let he : length es ≤ i = omega arith in
      let hx : length xs ≤ i = omega arith in
      sym (e ∙ rw (drop_of_length-le ks h, drop_of_length-le es he, drop_of_length-le xs hx))

-- A TURN OF THE LOOP OVER SCANS

module _ (ls hs : List ℕ) (highs_same : length hs ≡ length ls) (floor at i : ℕ) where
  module _ (r : Optional Scan) (is : r ≡ scan_named floor (get_or ls i 0) (get_or hs i 0)) (more : i < length ls) where
    -- one scan, and the rest
    scan_turn : named_scans floor (drop i ls) (drop i hs) at ≡ after r (λ c. named_scans (c.high + 1) (drop (i + 1) ls) (drop (i + 1) hs) (at + 8))
    unfolding named_scans
    scan_turn =
        let mh : i < length hs = omega arith in
        rw (add-one i, drop-cons ls i 0 more, drop-cons hs i 0 mh, is)

    -- no scan here, so no run
    pub scan_named_bad : (end : Optional ℕ) → end ≡ end_of (named_scans floor (drop i ls) (drop i hs) at) → r ≡ None → None ≡ end
    scan_named_bad end e b = sym (e ∙ ap end_of scan_turn ∙ simp b)

    -- a scan here, and the run goes on behind it
    pub scan_named_turn : (c : Scan) → r ≡ Some c → (end : Optional ℕ) (next : ℕ) → end ≡ end_of (named_scans floor (drop i ls) (drop i hs) at) → next ≡ c.high + 1
        → end ≡ end_of (named_scans next (drop (i + 1) ls) (drop (i + 1) hs) (at + 8))
    scan_named_turn c b end next e n = e ∙ ap end_of scan_turn ∙ simp (b, end_also, n)

  -- none left: the run ends here
  pub scan_named_none : length ls ≤ i → (end : Optional ℕ) → end ≡ end_of (named_scans floor (drop i ls) (drop i hs) at) → Some at ≡ end
  unfolding named_scans
  scan_named_none h end e =
      let hh : length hs ≤ i = omega arith in
      sym (e ∙ rw (drop_of_length-le ls h, drop_of_length-le hs hh))
