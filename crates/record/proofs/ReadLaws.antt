-- What `read` meets at each return: the tests that led there, and what the definition leaves in the lists.
-- Assumes nothing.
use Prim.Native.Nat.{ℕ, ◌≤◌}
use mathlib.Core.Path.{◌≡◌, ap, ◌∙◌}
use mathlib.Core.Bool.{true}
use mathlib.Core.List.{List, map}
use native.Mathlib.Omega.{arith}
use native.Mathlib.Nat.{zero-add}
use lib.ListN.{length, length-map}
use lib.Seq.{sets, sets-eq}
use borrow.Author.Tests.{le-leb, leb-true}
use Rattle.words.specs.Word.{word}
use Rattle.record.specs.declared.point.Point.{Point}
use Rattle.record.specs.declared.point.Scan.{Scan}
use Rattle.std.specs.Option.{ok_or}
use Rattle.std.specs.Prelude.{Option, Some, None, Result, Ok, Err}
use Rattle.record.specs.declared.checker.Head.{Head}
use Rattle.record.specs.declared.answer.Answer.{Answer}
use Rattle.record.specs.Answer.{malformed, output_short}
use Rattle.record.specs.Record.{Rec, kind_of, key_of, payload_of}
use Rattle.record.specs.Parse.{point_items, scan_items, parse_points, parse_scans, list_of, place_of, parse, well_formed}
use Rattle.record.specs.Reader.{lists, roomy, read_outcome, read_of, front, low_of, high_of}
use Rattle.record.proofs.Cases.{by_case, and_split}
use Rattle.record.proofs.Results.{err_same}
use Rattle.record.proofs.Lengths.{run_length}
use Rattle.record.proofs.WellFormed.{Good, good, refused_none}

-- a run of stores at the front
pub sets_front : (vs l : List ℕ) → length vs ≤ length l → sets l 0 vs ≡ front vs l
sets_front vs l h = sets-eq vs l 0 (rw zero-add h) ∙ simp zero-add

module _ (bs ks es xs ls hs : List ℕ) (f : Option Head) (i : f ≡ well_formed (parse bs) bs) where
  -- the bytes are not well formed
  pub read_malformed : (e : Answer) → f ≡ None → Err e ≡ ok_or f malformed → read_outcome (Err e) (lists ks es xs ls hs) ≡ read_of (parse bs) (lists ks es xs ls hs)
  unfolding read_of
  read_malformed e n q =
      let same : ◌≡◌ {A = Result Head Answer} (Err e) (Err malformed) = q ∙ ap (λ (x : Option Head). ok_or x malformed) n in
      simp (refused_none bs f i n, err_same same)

  module _ (h : Head) (z : f ≡ Some h) where
    -- the check has passed
    g : Good bs h.points h.scans h.start
    g = good bs f i h z

    -- as many points as the head says
    pls : length (list_of (parse_points h.points 0 bs h.start)) ≡ h.points
    pls = run_length point_items h.points 0 bs h.start g.points_took

    -- as many scans as the head says
    sls : length (list_of (parse_scans h.scans 0 bs (place_of (parse_points h.points 0 bs h.start)))) ≡ h.scans
    sls = run_length scan_items h.scans 0 bs _ g.scans_took

    -- the record that the bytes are
    r : Rec
    r = record {
      snapshot = word 4 bs 3;
      points = list_of (parse_points h.points 0 bs h.start);
      scans = list_of (parse_scans h.scans 0 bs (place_of (parse_points h.points 0 bs h.start)));
    }

    -- lists with room for it have room for so many points and scans
    room : roomy r (lists ks es xs ls hs) ≡ true
        → (h.points ≤ length ks) × (h.points ≤ length es) × (h.points ≤ length xs) × (h.scans ≤ length ls) × (h.scans ≤ length hs)
    unfolding r
    room w =
        and_split _ _ w λ a w. and_split _ _ w λ b w. and_split _ _ w λ d w. and_split _ _ w λ e f.
        rw (← pls, ← sls) (leb-true _ _ a, leb-true _ _ b, leb-true _ _ d, leb-true _ _ e, leb-true _ _ f)

    -- a list is too short
    pub read_short : (h.points ≤ length ks → h.points ≤ length es → h.points ≤ length xs → h.scans ≤ length ls → h.scans ≤ length hs → ⊥)
        → read_outcome (Err output_short) (lists ks es xs ls hs) ≡ read_of (parse bs) (lists ks es xs ls hs)
    unfolding read_of r
    read_short n =
        by_case (roomy r (lists ks es xs ls hs)) (λ k. let z = room k in absurd (n z.0 z.1 z.2 z.3 z.4)) (λ k. simp (g.is, k))

    module _ (rk : h.points ≤ length ks) (re : h.points ≤ length es) (rx : h.points ≤ length xs) (rl : h.scans ≤ length ls) (rh : h.scans ≤ length hs) where
      -- all five lists have room, and were filled
      pub read_whole : (ks' es' xs' ls' hs' : List ℕ) (snapshot at : ℕ)
          → ks' ≡ sets ks 0 (map kind_of (list_of (parse_points h.points 0 bs h.start)))
          → es' ≡ sets es 0 (map key_of (list_of (parse_points h.points 0 bs h.start)))
          → xs' ≡ sets xs 0 (map payload_of (list_of (parse_points h.points 0 bs h.start)))
          → at ≡ place_of (parse_points h.points 0 bs h.start)
          → ls' ≡ sets ls 0 (map low_of (list_of (parse_scans h.scans 0 bs at)))
          → hs' ≡ sets hs 0 (map high_of (list_of (parse_scans h.scans 0 bs at)))
          → snapshot ≡ word 4 bs 3
          → read_outcome (Ok (record { snapshot = snapshot; points = h.points; scans = h.scans })) (lists ks' es' xs' ls' hs')
          ≡ read_of (parse bs) (lists ks es xs ls hs)
      unfolding read_of
      read_whole ks' es' xs' ls' hs' snapshot at ek ee ex ea el eh is =
          let ps : List Point = list_of (parse_points h.points 0 bs h.start) in
          let cs : List Scan = list_of (parse_scans h.scans 0 bs (place_of (parse_points h.points 0 bs h.start))) in
          let fk : ks' ≡ front (map kind_of ps) ks = ek ∙ sets_front (map kind_of ps) ks (omega (arith, length-map ps kind_of, pls)) in
          let fe : es' ≡ front (map key_of ps) es = ee ∙ sets_front (map key_of ps) es (omega (arith, length-map ps key_of, pls)) in
          let fx : xs' ≡ front (map payload_of ps) xs = ex ∙ sets_front (map payload_of ps) xs (omega (arith, length-map ps payload_of, pls)) in
          let fl : ls' ≡ front (map low_of cs) ls = (rw ea at el) ∙ sets_front (map low_of cs) ls (omega (arith, length-map cs low_of, sls)) in
          let fh : hs' ≡ front (map high_of cs) hs = (rw ea at eh) ∙ sets_front (map high_of cs) hs (omega (arith, length-map cs high_of, sls)) in
          simp (g.is, pls, sls, le-leb _ _ rk, le-leb _ _ re, le-leb _ _ rx, le-leb _ _ rl, le-leb _ _ rh, fk, fe, fx, fl, fh, is)
