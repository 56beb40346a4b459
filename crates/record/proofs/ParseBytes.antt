-- Well-formed bytes are written back the same: bytes that parse are the bytes of the record that they parse to, and that record is valid.
-- Assumes nothing.
use Prim.Native.Nat.{ℕ, zero, suc, ◌+◌, ◌^◌, ◌≤◌, ◌<◌}
use mathlib.Core.Path.{◌≡◌, refl, sym, ap, ◌∙◌, subst}
use mathlib.Core.Option.{some}
use mathlib.Core.List.{List, [], ◌∷◌, ◌++◌, append_assoc, append-nil}
use native.Mathlib.Omega.{arith}
use lib.ListN.{length, get_or, drop, length-drop}
use lib.Seq.{drop-length}
use lib.Dec.{eqb}
use borrow.Author.Tests.{eqb-true}
use Rattle.words.specs.Word.{Bytes, word, big_endian}
use Rattle.words.specs.Laws.{word_fits}
use Rattle.record.specs.declared.point.Point.{Point}
use Rattle.record.specs.declared.point.Scan.{Scan}
use Rattle.std.specs.Prelude.{Some}
use Rattle.record.specs.Record.{Rec, key_of, payload_of, point_bytes, points_bytes, scan_bytes, scans_bytes, body_bytes, bytes_of, version_of, size_of, PointsRise, Apart, Valid}
use Rattle.record.specs.Parse.{took, step_point, step_scan, parse_run, parse_points, parse_scans, version_in, point_count, scan_count, first_point, head_ok, parse}
use Rattle.record.specs.Steps.{by_point, by_scan}
use Rattle.record.proofs.Cases.{by_case, no_some, took_or, after_took}
use Rattle.record.proofs.Places.{byte_at, word_at}
use Rattle.record.proofs.HeadLaws.{HeadRight, head_right, right_long}

-- A POINT

-- what is known of a point that was found at a place
record PointIs (low : ℕ) (bs : List ℕ) (at : ℕ) (p : Point) : Type 0 where
  in_bytes : drop at bs ≡ point_bytes p ++ drop (at + size_of p) bs
  low_le : low ≤ key_of p
  key_lt : key_of p < 2 ^ 32
  payload_lt : payload_of p < 2 ^ 64

module _ (bs : List ℕ) (y : Bytes bs) (at : ℕ) where
  -- a kind and a key
  five : (kind : ℕ) → at + 5 ≤ length bs → get_or bs at 0 ≡ kind → drop at bs ≡ kind ∷ (big_endian 4 (word 4 bs (at + 1)) ++ drop (at + 5) bs)
  five kind h d =
      let i : at + 5 ≡ at + 1 + 4 = omega arith in
      byte_at bs at (omega arith) ∙ ap (λ (x : ℕ). x ∷ drop (at + 1) bs) d ∙ ap (λ (l : List ℕ). kind ∷ l) (rw i (word_at bs (at + 1) 4 y (omega arith)))

  -- a kind, a key and a payload
  thirteen : (kind : ℕ) → at + 13 ≤ length bs → get_or bs at 0 ≡ kind
      → drop at bs ≡ kind ∷ ((big_endian 4 (word 4 bs (at + 1)) ++ big_endian 8 (word 8 bs (at + 5))) ++ drop (at + 13) bs)
  thirteen kind h d =
      let i : at + 13 ≡ at + 5 + 8 = omega arith in
      let t : drop (at + 5) bs ≡ big_endian 8 (word 8 bs (at + 5)) ++ drop (at + 13) bs = rw i (word_at bs (at + 5) 8 y (omega arith)) in
      five kind (omega arith) d ∙ ap (λ (l : List ℕ). kind ∷ (big_endian 4 (word 4 bs (at + 1)) ++ l)) t
      ∙ ap (λ (l : List ℕ). kind ∷ l) (sym (append_assoc (big_endian 4 (word 4 bs (at + 1))) (big_endian 8 (word 8 bs (at + 5))) (drop (at + 13) bs)))

  -- a point that was found stands in the bytes, and keeps the rules
  point_stands : (low : ℕ) (p : Point) → step_point low bs at ≡ Some p → PointIs low bs at p
  point_stands low p e =
      let key_lt : word 4 bs (at + 1) < 2 ^ 32 = word_fits 4 bs (at + 1) y in
      by_point (PointIs low bs at) low bs at p e
      (λ h l k. record { in_bytes = five 1 h k; low_le = l; key_lt = key_lt; payload_lt = omega arith })
      (λ h l k. record { in_bytes = five 3 h k; low_le = l; key_lt = key_lt; payload_lt = omega arith })
      (λ h l k. record { in_bytes = thirteen 2 h k; low_le = l; key_lt = key_lt; payload_lt = word_fits 8 bs (at + 5) y })

-- a run of points
record PointsAre (n low : ℕ) (bs : List ℕ) (at : ℕ) (ps : List Point) (e : ℕ) : Type 0 where
  run : drop at bs ≡ points_bytes ps ++ drop e bs
  rising : PointsRise low ps
  count : length ps ≡ n

-- each point of the run stands in the bytes
points_stand : (n low : ℕ) (bs : List ℕ) (at : ℕ) (ps : List Point) (e : ℕ) → Bytes bs → parse_points n low bs at ≡ took ps e → PointsAre n low bs at ps e
unfolding parse_run
points_stand zero low bs at ps e y h =
    let a : ps ≡ [] = cc in
    let b : at ≡ e = cc in
    subst (λ (x : List Point). PointsAre zero low bs at x e) (sym a)
    (subst (λ (x : ℕ). PointsAre zero low bs at [] x) b (record { run = refl; rising = tt; count = refl }))
points_stand (suc n) low bs at ps e y h =
    after_took (step_point low bs at) (λ p. parse_points n (key_of p + 1) bs (at + size_of p)) ps e h λ p qs a b d.
    let s : PointIs low bs at p = point_stands bs y at low p a in
    let i : PointsAre n (key_of p + 1) bs (at + size_of p) qs e = points_stand n (key_of p + 1) bs (at + size_of p) qs e y b in
    subst (λ (x : List Point). PointsAre (suc n) low bs at x e) (sym d) (record {
      run = s.in_bytes ∙ ap (λ (l : List ℕ). point_bytes p ++ l) i.run ∙ sym (append_assoc (point_bytes p) (points_bytes qs) (drop e bs));
      rising = (s.low_le, s.key_lt, s.payload_lt, i.rising);
      count = ap suc i.count;
    })

-- A SCAN

record ScanIs (low : ℕ) (bs : List ℕ) (at : ℕ) (c : Scan) : Type 0 where
  in_bytes : drop at bs ≡ scan_bytes c ++ drop (at + 8) bs
  low_le : low ≤ c.low
  high_le : c.low ≤ c.high
  high_lt : c.high < 2 ^ 32

module _ (bs : List ℕ) (y : Bytes bs) (at : ℕ) where
  -- a low and a high
  eight : at + 8 ≤ length bs → drop at bs ≡ (big_endian 4 (word 4 bs at) ++ big_endian 4 (word 4 bs (at + 4))) ++ drop (at + 8) bs
  eight h =
      let i : at + 8 ≡ at + 4 + 4 = omega arith in
      word_at bs at 4 y (omega arith) ∙ ap (λ (l : List ℕ). big_endian 4 (word 4 bs at) ++ l) (rw i (word_at bs (at + 4) 4 y (omega arith)))
      ∙ sym (append_assoc (big_endian 4 (word 4 bs at)) (big_endian 4 (word 4 bs (at + 4))) (drop (at + 8) bs))

  -- a scan that was found stands in the bytes, and keeps the rules
  scan_stands : (low : ℕ) (c : Scan) → step_scan low bs at ≡ Some c → ScanIs low bs at c
  scan_stands low c e =
      by_scan (ScanIs low bs at) low bs at c e (λ h l k. record { in_bytes = eight h; low_le = l; high_le = k; high_lt = word_fits 4 bs (at + 4) y })

-- a run of scans
record ScansAre (n low : ℕ) (bs : List ℕ) (at : ℕ) (cs : List Scan) (e : ℕ) : Type 0 where
  run : drop at bs ≡ scans_bytes cs ++ drop e bs
  apart : Apart low cs
  count : length cs ≡ n

-- each scan of the run stands in the bytes
scans_stand : (n low : ℕ) (bs : List ℕ) (at : ℕ) (cs : List Scan) (e : ℕ) → Bytes bs → parse_scans n low bs at ≡ took cs e → ScansAre n low bs at cs e
unfolding parse_run
scans_stand zero low bs at cs e y h =
    let a : cs ≡ [] = cc in
    let b : at ≡ e = cc in
    subst (λ (x : List Scan). ScansAre zero low bs at x e) (sym a)
    (subst (λ (x : ℕ). ScansAre zero low bs at [] x) b (record { run = refl; apart = tt; count = refl }))
scans_stand (suc n) low bs at cs e y h =
    after_took (step_scan low bs at) (λ c. parse_scans n (c.high + 1) bs (at + 8)) cs e h λ c ds a b d.
    let s : ScanIs low bs at c = scan_stands bs y at low c a in
    let i : ScansAre n (c.high + 1) bs (at + 8) ds e = scans_stand n (c.high + 1) bs (at + 8) ds e y b in
    subst (λ (x : List Scan). ScansAre (suc n) low bs at x e) (sym d) (record {
      run = s.in_bytes ∙ ap (λ (l : List ℕ). scan_bytes c ++ l) i.run ∙ sym (append_assoc (scan_bytes c) (scans_bytes ds) (drop e bs));
      apart = (s.low_le, s.high_le, s.high_lt, i.apart);
      count = ap suc i.count;
    })

-- THE WHOLE RECORD

-- the record that bytes parse to keeps the rules, and the bytes are its own
pub record Written (bs : List ℕ) (r : Rec) : Type 0 where
  pub valid : Valid r
  pub same : bs ≡ bytes_of r

module _ (bs : List ℕ) (y : Bytes bs) (h : HeadRight bs) (ps : List Point) (cs : List Scan) (at : ℕ)
    (p : PointsAre (point_count bs) 0 bs (first_point bs) ps at) (s : ScansAre (scan_count bs) 0 bs at cs (length bs)) where
  -- the record
  r : Rec
  r = record { snapshot = word 4 bs 3; points = ps; scans = cs }

  -- its version is the one that is read
  version_is : version_in bs ≡ version_of r
  unfolding r
  version_is = sym h.version ∙ rw (p.count, s.count)

  -- points and scans
  from_first : drop (first_point bs) bs ≡ points_bytes ps ++ scans_bytes cs
  from_first =
      p.run ∙ ap (λ (l : List ℕ). points_bytes ps ++ l) (s.run ∙ ap (λ (l : List ℕ). scans_bytes cs ++ l) (drop-length bs) ∙ append-nil (scans_bytes cs))

  -- the counts before them, as wide as the version that is read
  counts_of : ℕ → List ℕ
  counts_of w = big_endian w (length ps) ++ (big_endian w (length cs) ++ (points_bytes ps ++ scans_bytes cs))

  from_seven : drop 7 bs ≡ counts_of (version_in bs)
  unfolding counts_of point_count scan_count first_point
  from_seven =
      let w : ℕ = version_in bs in
      let in_bytes : 7 + w + w ≤ length bs = h.within in
      word_at bs 7 w y (omega arith) ∙ ap (λ (n : ℕ). big_endian w n ++ drop (7 + w) bs) (sym p.count)
      ∙ ap (λ (l : List ℕ). big_endian w (length ps) ++ l)
      (word_at bs (7 + w) w y in_bytes ∙ ap (λ (n : ℕ). big_endian w n ++ drop (7 + w + w) bs) (sym s.count)
      ∙ ap (λ (l : List ℕ). big_endian w (length cs) ++ l) from_first)

  -- all that stands after the length
  from_two : drop 2 bs ≡ body_bytes r
  unfolding r counts_of
  from_two =
      let long = right_long bs h in
      byte_at bs 2 (omega arith) ∙ ap (λ (l : List ℕ). version_in bs ∷ l)
      (word_at bs 3 4 y (omega arith) ∙ ap (λ (l : List ℕ). big_endian 4 (word 4 bs 3) ++ l) from_seven)
      ∙ ap (λ (w : ℕ). w ∷ (big_endian 4 (word 4 bs 3) ++ counts_of w)) version_is

  -- the length before that
  put_together : Written bs (record { snapshot = word 4 bs 3; points = ps; scans = cs })
  unfolding r
  put_together =
      let long = right_long bs h in
      let n : length (body_bytes r) ≡ word 2 bs 0 = ap length (sym from_two) ∙ omega (arith, length-drop 2 bs, h.whole) in
      record {
        valid = record {
          snapshot_fits = word_fits 4 bs 3 y;
          few_points = omega (arith, p.count, h.few_points);
          few_scans = omega (arith, s.count, h.few_scans);
          rising = p.rising;
          apart = s.apart;
        };
        same = word_at bs 0 2 y (omega arith) ∙ ap (λ (l : List ℕ). big_endian 2 (word 2 bs 0) ++ l) from_two ∙ ap (λ (k : ℕ). big_endian 2 k ++ body_bytes r) (sym n);
      }

-- two records that parse gives are one
same_some : (P : Rec → Type 0) (q r : Rec) → some q ≡ some r → P q → P r
same_some P q r e h = let z : q ≡ r = cc in subst P z h

-- bytes that parse are the record's own
pub parse_bytes : (bs : List ℕ) (r : Rec) → Bytes bs → parse bs ≡ some r → Written bs r
unfolding parse
parse_bytes bs r y e =
    by_case (head_ok bs)
    (λ k. took_or (parse_points (point_count bs) 0 bs (first_point bs)) (λ x. no_some (simp (k, x) at e))
    (λ ps at x. took_or (parse_scans (scan_count bs) 0 bs at) (λ v. no_some (simp (k, x, v) at e))
    (λ cs end v. by_case (eqb end (length bs))
    (λ w. same_some (Written bs) (record { snapshot = word 4 bs 3; points = ps; scans = cs }) r (simp (k, x, v, w) at e)
    (put_together bs y (head_right bs k) ps cs at
    (points_stand (point_count bs) 0 bs (first_point bs) ps at y x)
    (scans_stand (scan_count bs) 0 bs at cs (length bs) y (v ∙ ap (took cs) (eqb-true _ _ w)))))
    (λ w. no_some (simp (k, x, v, w) at e)))))
    (λ k. no_some (simp k at e))
