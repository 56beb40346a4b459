-- A turn of the loops over points: what is counted or stored with the next point, and what is left behind it.
-- Assumes nothing.
use Prim.Native.Nat.{ℕ, ◌+◌, ◌*◌, ◌^◌, ◌-◌, ◌≤◌, ◌<◌}
use mathlib.Core.Bool.{Bool, true, false, ◌&&◌, ◌||◌}
use mathlib.Core.Path.{◌≡◌, refl, sym, ap, ◌∙◌, subst}
use mathlib.Core.List.{List, [], ◌++◌}
use native.Mathlib.Omega.{arith}
use native.Mathlib.Nat.{add-zero}
use lib.ListN.{length, length-append}
use lib.Seq.{sets}
use Rattle.std.specs.Prelude.{Option, Some, None, if◌then◌else◌}
use Rattle.std.specs.Option.{is_some}
use Rattle.words.specs.Laws.{sets_append}
use Rattle.record.specs.declared.point.Point.{Point}
use Rattle.record.specs.declared.point.Scan.{Scan}
use Rattle.record.specs.declared.checker.Head.{Head}
use Rattle.record.specs.Record.{kind_of, key_of, size_of, payload_of, point_bytes, points_bytes}
use Rattle.record.specs.Parse.{Parsed, bad, took, point_items, is_took, list_of, place_of}
use Rattle.record.proofs.Cases.{by_case}
use Rattle.record.proofs.Sizes.{point_size, size_most}
use Rattle.writer.specs.Stored.{stored_point}
use Rattle.writer.proofs.NamedLaws.{ScansInOrder}
use Rattle.writer.proofs.StoredBytes.{point_bytes_lem}
use Rattle.joiner.specs.declared.left.Left.{Left}
use Rattle.joiner.specs.declared.points.PointTake.{PointTake}
use Rattle.joiner.specs.declared.points.Count.{Count}
use Rattle.joiner.specs.Joined.{scans_key, joined_points}
use Rattle.joiner.specs.Left.{run_left}
use Rattle.joiner.specs.PointSteps.{clashes_named, clashes_scanned, points_of_both, PointsJoin, PointNext, NextPoint, PointTaken, last_scans, starts_by, not_below, count_from, count_of}
use Rattle.joiner.specs.ScanSteps.{all_scans}
use Rattle.joiner.proofs.LeftRuns.{left_none}
use Rattle.joiner.proofs.ScansAhead.{covered_by_first, not_below_order}
use Rattle.joiner.proofs.LastScans.{scans_stand}
use Rattle.joiner.proofs.ScanTakes.{scans_in_order}

-- COUNTING OVER RUNS

-- what is counted of two runs that can be joined
abbrev counted : ℕ → ℕ → Parsed Point → Parsed Point → Option Count
counted k z x y =
    Some (record { points = k + length (points_of_both x y); size = z + length (points_bytes (points_of_both x y)); end_a = place_of x; end_b = place_of y })

module _ (k z : ℕ) (cs : List Scan) where
  -- a run that is not well formed
  count_no_a : (x y : Parsed Point) → is_took x ≡ false → count_from k z cs x y ≡ None
  unfolding count_from
  count_no_a bad y e = refl
  count_no_a (took ps i) y e = cc

  count_no_b : (x y : Parsed Point) → is_took y ≡ false → count_from k z cs x y ≡ None
  unfolding count_from
  count_no_b bad y e = refl
  count_no_b (took ps i) bad e = refl
  count_no_b (took ps i) (took qs j) e = cc

  -- two that are
  pub count_took : (x y : Parsed Point) → is_took x ≡ true → is_took y ≡ true
      → count_from k z cs x y ≡ (if clashes_named (list_of x) (list_of y) || clashes_scanned (list_of x) cs then None else counted k z x y)
  unfolding count_from
  count_took bad y e f = cc
  count_took (took ps i) bad e f = cc
  count_took (took ps i) (took qs j) e f = refl

  -- runs that cannot be joined
  pub count_refused : (x y : Parsed Point) → (PointsJoin x y → ⊥) → count_from k z cs x y ≡ None
  count_refused x y n =
      by_case (is_took x)
      (λ e. by_case (is_took y)
      (λ f. by_case (clashes_named (list_of x) (list_of y))
      (λ g. count_took x y e f ∙ rw g)
      (λ g. absurd (n (record { took_a = e; took_b = f; clear = g }))))
      (λ f. count_no_b x y f))
      (λ e. count_no_a x y e)

-- the next point of two runs
module _ (x y x' y' : Parsed Point) (p : Point) (changed : Bool) (n : PointNext x y x' y' p changed) (k z : ℕ) (cs : List Scan) where
  -- one that a puts or deletes and b scans
  count_hit : (changed && scans_key (key_of p) cs) ≡ true → count_from k z cs x y ≡ None
  count_hit h =
      by_case (is_took x)
      (λ e. by_case (is_took y)
      (λ f. count_took k z cs x y e f ∙ rw (n.scanned e cs, h) (bad_or (clashes_named (list_of x) (list_of y))))
      (λ f. count_no_b k z cs x y f))
      (λ e. count_no_a k z cs x y e)
    where
      bad_or : (b : Bool) → (if b || true then None else counted k z x y) ≡ None
      bad_or true = refl
      bad_or false = refl

  -- any other
  count_on : (changed && scans_key (key_of p) cs) ≡ false → count_from k z cs x y ≡ count_from (k + 1) (z + size_of p) cs x' y'
  count_on h =
      by_case (is_took x)
      (λ e. by_case (is_took y)
      (λ f.
      let points : k + length (points_of_both x y) ≡ k + 1 + length (points_of_both x' y') = ap (λ (l : List Point). k + length l) (n.joined e f) ∙ omega arith in
      let bytes : z + length (points_bytes (points_of_both x y)) ≡ z + size_of p + length (points_bytes (points_of_both x' y')) =
      ap (λ (l : List Point). z + length (points_bytes l)) (n.joined e f)
      ∙ omega (arith, point_size p, length-append (point_bytes p) (points_bytes (points_of_both x' y'))) in
      count_took k z cs x y e f ∙ rw (n.scanned e cs, h, n.named e f, points, bytes, ← n.end_a, ← n.end_b) refl
      ∙ sym (count_took (k + 1) (z + size_of p) cs x' y' (n.same_a ∙ e) (n.same_b ∙ f)))
      (λ f. count_no_b k z cs x y f ∙ sym (count_no_b (k + 1) (z + size_of p) cs x' y' (n.same_b ∙ f))))
      (λ e. count_no_a k z cs x y e ∙ sym (count_no_a (k + 1) (z + size_of p) cs x' y' (n.same_a ∙ e)))

-- scans that end below a key are passed over, if no point that is left meets them
count_past : (k z key : ℕ) (cs : List Scan) (x y : Parsed Point) → clashes_scanned (list_of x) (not_below key cs) ≡ clashes_scanned (list_of x) cs
    → count_from k z cs x y ≡ count_from k z (not_below key cs) x y
unfolding count_from
count_past k z key cs bad y e = refl
count_past k z key cs (took ps i) bad e = refl
count_past k z key cs (took ps i) (took qs j) e = rw e

-- A TURN

module _ (a : List ℕ) (l : Left) (b : List ℕ) (k : Left) (r : Option PointTake) (l' k' : Left) (taken : PointTaken a l b k r l' k') where
  -- no point: the runs cannot be joined
  turn_refused : r ≡ None → PointsJoin (run_left point_items a l) (run_left point_items b k) → ⊥
  turn_refused e = subst (λ (z : Option PointTake). PointTaken a l b k z l' k') e taken

  pub count_bad : (g : Option Count) (n z : ℕ) (cs : List Scan) → g ≡ count_from n z cs (run_left point_items a l) (run_left point_items b k) → r ≡ None → None ≡ g
  count_bad g n z cs h e = sym (h ∙ count_refused n z cs (run_left point_items a l) (run_left point_items b k) (turn_refused e))

  -- there is one where they can
  pub put_some : PointsJoin (run_left point_items a l) (run_left point_items b k) → is_some r ≡ true
  put_some j = some_taken r taken
    where
      some_taken : (q : Option PointTake) → PointTaken a l b k q l' k' → is_some q ≡ true
      some_taken None n = absurd (n j)
      some_taken (Some t) n = refl

  module _ (t : PointTake) (e : r ≡ Some t) where
    -- a point
    known : NextPoint a l b k t l' k'
    known = subst (λ (z : Option PointTake). PointTaken a l b k z l' k') e taken

    -- the places behind it are within the bytes
    pub turn_within_a : l'.at ≤ length a
    turn_within_a = known.within_a

    pub turn_within_b : k'.at ≤ length b
    turn_within_b = known.within_b

    -- fewer are left
    pub turn_fewer : l'.count + k'.count < l.count + k.count
    turn_fewer = omega (arith, known.fewer)

    pub turn_left : (m : ℕ) → l.count + k.count ≤ m → l'.count + k'.count ≤ m
    turn_left m h = omega (arith, known.fewer)

    pub turn_bound : (n m : ℕ) → n + (l.count + k.count) ≤ m → n + 1 + (l'.count + k'.count) ≤ m
    turn_bound n m h = omega (arith, known.fewer)

    -- it has thirteen bytes at most
    pub turn_size : (n z size : ℕ) → size ≡ size_of t.point → z ≤ 13 * n → z + size ≤ 13 * (n + 1)
    turn_size n z size i h = omega (arith, size_most t.point)

    pub turn_size_fits : (n z size s m : ℕ) → size ≡ size_of t.point → z ≤ 13 * n → n + (l.count + k.count) ≤ s + m → s ≤ 1024 → m ≤ 1024 → z + size < 2 ^ 64
    turn_size_fits n z size s m i h f u v = omega (arith, turn_size n z size i h)

    module _ (join : PointsJoin (run_left point_items a l) (run_left point_items b k)) where
      -- what is left can be joined too
      pub put_joins : PointsJoin (run_left point_items a l') (run_left point_items b k')
      put_joins = record {
        took_a = known.next.same_a ∙ join.took_a;
        took_b = known.next.same_b ∙ join.took_b;
        clear = sym (known.next.named join.took_a join.took_b) ∙ join.clear;
      }

      module _ (kind key payload : ℕ) (is-kind : kind ≡ kind_of t.point) (is : key ≡ key_of t.point) (is-payload : payload ≡ payload_of t.point) where
        -- the point is stored, and then what is left
        put_turn : points_bytes (points_of_both (run_left point_items a l) (run_left point_items b k))
            ≡ stored_point kind key payload ++ points_bytes (points_of_both (run_left point_items a l') (run_left point_items b k'))
        put_turn =
            ap points_bytes (known.next.joined join.took_a join.took_b)
            ∙ rw (is-kind, is, is-payload, point_bytes_lem t.point) refl

        -- their lengths
        put_turn_length : length (points_bytes (points_of_both (run_left point_items a l) (run_left point_items b k)))
            ≡ length (stored_point kind key payload) + length (points_bytes (points_of_both (run_left point_items a l') (run_left point_items b k')))
        put_turn_length = ap length put_turn ∙ length-append (stored_point kind key payload) (points_bytes (points_of_both (run_left point_items a l') (run_left point_items b k')))

        -- there is room for it
        pub put_room : (at s o o₀ : ℕ) → s ≡ at + length (points_bytes (points_of_both (run_left point_items a l) (run_left point_items b k))) → s ≤ o₀ → o ≡ o₀
            → at + length (stored_point kind key payload) ≤ o
        put_room at s o o₀ e h f = omega (arith, put_turn_length)

        -- what is left ends where all ends
        pub put_place : (at s next : ℕ) → s ≡ at + length (points_bytes (points_of_both (run_left point_items a l) (run_left point_items b k)))
            → next ≡ at + length (stored_point kind key payload) → s ≡ next + length (points_bytes (points_of_both (run_left point_items a l') (run_left point_items b k')))
        put_place at s next e h = omega (arith, put_turn_length)

        -- one point stored, the points that are left
        pub put_bytes : (g o o' : List ℕ) (at next : ℕ) → g ≡ sets o at (points_bytes (points_of_both (run_left point_items a l) (run_left point_items b k)))
            → o' ≡ sets o at (stored_point kind key payload) → next ≡ at + length (stored_point kind key payload)
            → g ≡ sets o' next (points_bytes (points_of_both (run_left point_items a l') (run_left point_items b k')))
        put_bytes g o o' at next e h f =
            e ∙ ap (sets o at) put_turn
            ∙ sets_append (stored_point kind key payload) (points_bytes (points_of_both (run_left point_items a l') (run_left point_items b k'))) o at ∙ rw (h, f)

    module _ (key : ℕ) (is : key ≡ key_of t.point) (cs ds : List Scan) (passed : ds ≡ not_below key cs) (o : ScansInOrder 0 cs) (g : Option Count) (n z : ℕ)
        (h : g ≡ count_from n z cs (run_left point_items a l) (run_left point_items b k)) where
      -- whether a puts or deletes it and b scans it
      met : (changed hit : Bool) → changed ≡ t.changed → hit ≡ starts_by key ds → (t.changed && scans_key (key_of t.point) cs) ≡ (changed && hit)
      met changed hit i j = rw (i, j, passed, ← is, covered_by_first key 0 cs o)

      -- then they cannot be joined
      pub count_scanned : (hit : Bool) → hit ≡ starts_by key ds → t.changed ≡ true → hit ≡ true → None ≡ g
      count_scanned hit i c v = sym (h ∙ count_hit _ _ _ _ t.point t.changed known.next n z cs (met t.changed hit refl i ∙ rw (c, v)))

      -- else it is counted
      pub count_next : (size : ℕ) → size ≡ size_of t.point → (t.changed && starts_by key ds) ≡ false
          → g ≡ count_from (n + 1) (z + size) ds (run_left point_items a l') (run_left point_items b k')
      count_next size s v =
          h ∙ count_on _ _ _ _ t.point t.changed known.next n z cs (met t.changed (starts_by key ds) refl refl ∙ v)
          ∙ rw (passed, s, is) (count_past (n + 1) (z + size_of t.point) (key_of t.point) cs (run_left point_items a l') (run_left point_items b k') (known.next.passed cs))

-- AT FIRST

-- b's scans are all ahead
pub count_starts : (bs : List ℕ) (h : Head) (x y : Parsed Point) → 8 * h.scans ≤ length bs → is_took (all_scans bs h) ≡ true
    → count_of (list_of (all_scans bs h)) x y ≡ count_from 0 0 (last_scans h.scans bs) x y
count_starts bs h x y r t =
    let place : length bs - 8 * h.scans + 8 * h.scans ≡ length bs = omega arith in
    ap (λ (l : List Scan). count_from 0 0 l x y) (scans_stand h.scans 0 bs (length bs - 8 * h.scans) place t)

pub ahead_order : (bs : List ℕ) (h : Head) → 8 * h.scans ≤ length bs → is_took (all_scans bs h) ≡ true → ScansInOrder 0 (last_scans h.scans bs)
ahead_order bs h r t =
    let place : length bs - 8 * h.scans + 8 * h.scans ≡ length bs = omega arith in
    subst (ScansInOrder 0) (scans_stand h.scans 0 bs (length bs - 8 * h.scans) place t) (scans_in_order h.scans 0 bs (length bs - 8 * h.scans))

-- those that are left lie in order
pub passed_order : (key : ℕ) (cs ds : List Scan) → ds ≡ not_below key cs → ScansInOrder 0 cs → ScansInOrder 0 ds
passed_order key cs ds e o = subst (ScansInOrder 0) (sym e) (not_below_order key 0 cs o)

-- NONE IS LEFT

module _ (a : List ℕ) (l : Left) (b : List ℕ) (k : Left) (none : l.count + k.count ≤ 0) where
  -- each run is its end
  end_a : run_left point_items a l ≡ took [] l.at
  end_a = left_none point_items a l (omega arith)

  end_b : run_left point_items b k ≡ took [] k.at
  end_b = left_none point_items b k (omega arith)

  -- all are counted
  pub count_done : (g : Option Count) (n z : ℕ) (cs : List Scan) → g ≡ count_from n z cs (run_left point_items a l) (run_left point_items b k)
      → Some (record { points = n; size = z; end_a = l.at; end_b = k.at }) ≡ g
  unfolding count_from joined_points
  count_done g n z cs h = sym (h ∙ rw (end_a, end_b, add-zero n, add-zero z))

  -- no store is left
  none_left : points_bytes (points_of_both (run_left point_items a l) (run_left point_items b k)) ≡ []
  unfolding joined_points
  none_left = rw (end_a, end_b)

  pub put_done_place : (at s : ℕ) → s ≡ at + length (points_bytes (points_of_both (run_left point_items a l) (run_left point_items b k))) → at ≡ s
  put_done_place at s h = omega (arith, ap length none_left)

  pub put_done : (g o : List ℕ) (at : ℕ) → g ≡ sets o at (points_bytes (points_of_both (run_left point_items a l) (run_left point_items b k))) → o ≡ g
  put_done g o at h = sym (h ∙ ap (sets o at) none_left)
