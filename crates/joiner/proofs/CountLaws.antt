-- What `count_both` meets at each return: two records that cannot be joined, or what the joined record has.
-- The idea: where both are records, each is known by its parts (Parts), and the counts are those of the joined record.
-- Assumes nothing.
use Prim.Native.Nat.{ℕ, ◌+◌, ◌*◌, ◌^◌, ◌-◌, ◌≤◌, ◌<◌}
use mathlib.Core.Bool.{Bool, true, false, not, ◌&&◌, ◌||◌}
use mathlib.Core.Option.{Option, none, some}
use Rattle.std.specs.Prelude.{Option as Optional, Some, None}
use mathlib.Core.Path.{◌≡◌, refl, sym, ap, ◌∙◌}
use mathlib.Core.List.{List, [], ◌∷◌}
use native.Mathlib.Omega.{arith}
use native.Mathlib.Nat.{zero-add}
use lib.ListN.{length}
use lib.Dec.{leb, eqb}
use borrow.Author.Tests.{le-leb, lt-leb, eq-eqb, ne_eqb}
use Rattle.words.specs.Word.{word}
use Rattle.record.specs.declared.point.Point.{Point}
use Rattle.record.specs.declared.point.Scan.{Scan}
use Rattle.record.specs.declared.checker.Head.{Head}
use Rattle.record.specs.Record.{Rec, key_of, points_bytes, bytes_of, version_for, version_of, head_size}
use Rattle.record.specs.Parse.{Parsed, bad, took, is_took, list_of, place_of, head_of, parse}
use Rattle.record.proofs.Cases.{by_case}
use Rattle.record.proofs.Sizes.{points_size_most, scans_bytes_size, body_size, whole_size}
use Rattle.record.proofs.Versions.{version_most}
use Rattle.joiner.specs.declared.points.Count.{Count}
use Rattle.joiner.specs.Joined.{puts_or_deletes, names_key, scans_key, clashes, joined_points, joined_scans, joined_of, can_join, joined_if}
use Rattle.joiner.specs.ScanSteps.{all_scans, BothTaken, scans_of_both, scans_count}
use Rattle.joiner.specs.PointSteps.{clashes_named, clashes_scanned, all_points, points_of_both, PointsJoin, count_of}
use Rattle.joiner.specs.Passes.{found_of}
use Rattle.joiner.proofs.PointTurns.{count_took, count_refused}
use Rattle.joiner.proofs.Parts.{record_with, Parts, parts_of, parts_parse}

-- WHEN THERE IS NO JOINED RECORD

-- two values of which none can be joined
none_joined : (m n : Option Rec) → ((x y : Rec) → m ≡ some x → n ≡ some y → can_join x y ≡ false) → joined_if m n ≡ none
unfolding joined_if
none_joined none n k = refl
none_joined (some x) none k = refl
none_joined (some x) (some y) k = simp (k x y refl refl)

-- two that can
some_joined : (x y : Rec) → can_join x y ≡ true → joined_if (some x) (some y) ≡ some (joined_of x y)
unfolding joined_if
some_joined x y k = simp k

-- a clash by points or by scans
pub clash_split : (ps : List Point) (b : Rec) → clashes ps b ≡ (clashes_named ps b.points || clashes_scanned ps b.scans)
clash_split [] b = refl
clash_split (p ∷ ps) b =
    rw (clash_split ps b) (mix (puts_or_deletes p) (names_key (key_of p) b.points) (scans_key (key_of p) b.scans) (clashes_named ps b.points) (clashes_scanned ps b.scans))
  where
    mix : (w n s u v : Bool) → ((w && (n || s)) || (u || v)) ≡ (((w && n) || u) || ((w && s) || v))
    mix true true s u v = refl
    mix true false true true v = refl
    mix true false true false v = refl
    mix true false false u v = refl
    mix false n s u v = refl

module _ (x y : Rec) where
  -- another snapshot
  no_snapshot : (x.snapshot ≡ y.snapshot → ⊥) → can_join x y ≡ false
  unfolding can_join
  no_snapshot h = simp (ne_eqb _ _ h)

  -- a clash
  no_clear : clashes x.points y ≡ true → can_join x y ≡ false
  unfolding can_join
  no_clear h = rw h (last (eqb x.snapshot y.snapshot))
    where
      last : (b : Bool) → (b && false) ≡ false
      last true = refl
      last false = refl

  -- too many points or scans
  no_points : 1024 < length (joined_points x.points y.points) → can_join x y ≡ false
  unfolding can_join
  no_points h = rw (lt-leb _ _ h) (last (eqb x.snapshot y.snapshot) (clashes x.points y))
    where
      last : (b c : Bool) → (b && (not c && false)) ≡ false
      last true true = refl
      last true false = refl
      last false c = refl

  no_scans : 64 < length (joined_scans x.scans y.scans) → can_join x y ≡ false
  unfolding can_join
  no_scans h = rw (lt-leb _ _ h) (last (eqb x.snapshot y.snapshot) (clashes x.points y) (leb (length (joined_points x.points y.points)) 1024))
    where
      last : (b c d : Bool) → (b && (not c && (d && false))) ≡ false
      last true true d = refl
      last true false true = refl
      last true false false = refl
      last false c d = refl

  -- none of these
  yes_join : x.snapshot ≡ y.snapshot → clashes x.points y ≡ false → length (joined_points x.points y.points) ≤ 1024 → length (joined_scans x.scans y.scans) ≤ 64 → can_join x y ≡ true
  unfolding can_join
  yes_join a b c d = simp (eq-eqb _ _ a, b, le-leb _ _ c, le-leb _ _ d)

-- RUNS OF SCANS

-- counted: both are well formed
scans_both : (x y : Parsed Scan) (n : ℕ) → Some n ≡ scans_count x y → BothTaken x y × (n ≡ length (scans_of_both x y))
scans_both bad y n e = cc
scans_both (took cs i) bad n e = cc
scans_both (took cs i) (took ds j) n e = ((refl, refl), cc)

-- not counted: one is not
scans_not : (x y : Parsed Scan) → None ≡ scans_count x y → is_took x ≡ true → is_took y ≡ true → ⊥
scans_not bad y e t u = cc
scans_not (took cs i) bad e t u = cc
scans_not (took cs i) (took ds j) e t u = cc

-- RUNS OF POINTS

-- a count is no refusal
no_count : {P : Type 0} {c : Count} → Some c ≡ None → P
no_count e = cc

-- what the count says of runs that were counted
pub record Counted (cs : List Scan) (x y : Parsed Point) (c : Count) : Type 0 where
  pub joins : PointsJoin x y
  pub unscanned : clashes_scanned (list_of x) cs ≡ false
  pub points_are : c.points ≡ length (points_of_both x y)
  pub bytes_are : c.size ≡ length (points_bytes (points_of_both x y))
  pub end_a : c.end_a ≡ place_of x
  pub end_b : c.end_b ≡ place_of y

points_counted : (cs : List Scan) (x y : Parsed Point) (c : Count) → Some c ≡ count_of cs x y → Counted cs x y c
points_counted cs x y c h =
    by_case (is_took x)
    (λ t. by_case (is_took y)
    (λ u. by_case (clashes_named (list_of x) (list_of y))
    (λ g. no_count (h ∙ count_took 0 0 cs x y t u ∙ rw g))
    (λ g. by_case (clashes_scanned (list_of x) cs)
    (λ k. no_count (h ∙ count_took 0 0 cs x y t u ∙ rw (g, k)))
    (λ k.
    let is : Some c ≡ Some (record { points = length (points_of_both x y); size = length (points_bytes (points_of_both x y)); end_a = place_of x; end_b = place_of y }) =
    h ∙ count_took 0 0 cs x y t u ∙ simp (g, k, zero-add) in
    record { joins = record { took_a = t; took_b = u; clear = g }; unscanned = k; points_are = cc; bytes_are = cc; end_a = cc; end_b = cc })))
    (λ u. no_count (h ∙ count_refused 0 0 cs x y (λ j. let z = j.took_b in cc))))
    (λ t. no_count (h ∙ count_refused 0 0 cs x y (λ j. let z = j.took_a in cc)))

-- not counted, though both are well formed: a clash
points_not : (cs : List Scan) (x y : Parsed Point) → None ≡ count_of cs x y → is_took x ≡ true → is_took y ≡ true → (clashes_named (list_of x) (list_of y) || clashes_scanned (list_of x) cs) ≡ true
points_not cs x y h t u =
    by_case (clashes_named (list_of x) (list_of y) || clashes_scanned (list_of x) cs) (λ g. g)
    (λ g. no_count (sym (rw g at (h ∙ count_took 0 0 cs x y t u))))

-- THE RETURNS

module _ (a b : List ℕ) (ha hb : Head) (head-a : head_of a ≡ Some ha) (head-b : head_of b ≡ Some hb) where
  -- no two records that could be joined
  cannot : ((x y : Rec) → Parts a ha x → Parts b hb y → can_join x y ≡ false) → None ≡ found_of (joined_if (parse a) (parse b))
  cannot k = ap found_of (sym (none_joined (parse a) (parse b) (λ x y i j. k x y (parts_of a ha head-a x i) (parts_of b hb head-b y j))))

  -- snapshots that differ
  pub count_snapshots : (u v : ℕ) → u ≡ word 4 a 3 → v ≡ word 4 b 3 → (u ≡ v → ⊥) → None ≡ found_of (joined_if (parse a) (parse b))
  count_snapshots u v is-u is-v n =
      cannot (λ x y p q. no_snapshot x y (λ e. n (is-u ∙ sym (ap (λ (r : Rec). r.snapshot) p.is) ∙ e ∙ ap (λ (r : Rec). r.snapshot) q.is ∙ sym is-v)))

  -- too few bytes for the scans
  pub count_short_a : length a < ha.start + 8 * ha.scans → None ≡ found_of (joined_if (parse a) (parse b))
  count_short_a h = cannot (λ x y p q. absurd (omega (arith, p.room)))

  pub count_short_b : length b < hb.start + 8 * hb.scans → None ≡ found_of (joined_if (parse a) (parse b))
  count_short_b h = cannot (λ x y p q. absurd (omega (arith, q.room)))

  module _ (e : Optional ℕ) (is-e : e ≡ scans_count (all_scans a ha) (all_scans b hb)) where
    -- scans that are not well formed
    pub count_scans_bad : e ≡ None → None ≡ found_of (joined_if (parse a) (parse b))
    count_scans_bad z = cannot (λ x y p q. absurd (scans_not (all_scans a ha) (all_scans b hb) (sym z ∙ is-e) p.scans_took q.scans_took))

    module _ (scans : ℕ) (at : e ≡ Some scans) where
      -- they are
      scans_known : BothTaken (all_scans a ha) (all_scans b hb) × (scans ≡ length (scans_of_both (all_scans a ha) (all_scans b hb)))
      scans_known = scans_both (all_scans a ha) (all_scans b hb) scans (sym at ∙ is-e)

      pub count_scans_took : is_took (all_scans b hb) ≡ true
      count_scans_took = scans_known.0.1

      -- too many of them
      pub count_scans_many : 64 < scans → None ≡ found_of (joined_if (parse a) (parse b))
      count_scans_many h = cannot (λ x y p q. no_scans x y (rw (p.is, q.is, ← scans_known.1) h))

      module _ (o : Optional Count) (is_o : o ≡ count_of (list_of (all_scans b hb)) (all_points a ha) (all_points b hb)) where
        -- points that cannot be joined
        pub count_points_bad : o ≡ None → None ≡ found_of (joined_if (parse a) (parse b))
        count_points_bad z =
            cannot (λ x y p q. no_clear x y (clash_split x.points y
            ∙ rw (p.is, q.is) (points_not (list_of (all_scans b hb)) (all_points a ha) (all_points b hb) (sym z ∙ is_o) p.points_took q.points_took)))

        module _ (c : Count) (is : o ≡ Some c) where
          -- they can
          counted : Counted (list_of (all_scans b hb)) (all_points a ha) (all_points b hb) c
          counted = points_counted (list_of (all_scans b hb)) (all_points a ha) (all_points b hb) c (sym is ∙ is_o)

          -- how many bytes they have
          pub size_fits : c.points ≤ 1024 → c.size ≤ 13312
          size_fits h = omega (arith, counted.points_are, counted.bytes_are, points_size_most (points_of_both (all_points a ha) (all_points b hb)))

          pub size_sum : (version start : ℕ) → version ≡ version_for c.points scans → start ≡ head_size version → c.points ≤ 1024 → start + c.size < 2 ^ 64
          size_sum version start is-v is-s h = omega (arith, size_fits h, is-v, is-s, version_most c.points scans)

          pub size_total : (version start : ℕ) → version ≡ version_for c.points scans → start ≡ head_size version → c.points ≤ 1024 → scans ≤ 64 → start + c.size + 8 * scans < 2 ^ 64
          size_total version start is-v is-s h g = omega (arith, size_fits h, is-v, is-s, version_most c.points scans)

          -- bytes between points and scans
          pub count_end_a : (c.end_a ≡ length a - 8 * ha.scans → ⊥) → None ≡ found_of (joined_if (parse a) (parse b))
          count_end_a n = cannot (λ x y p q. absurd (n (omega (arith, counted.end_a, p.meet))))

          pub count_end_b : (c.end_b ≡ length b - 8 * hb.scans → ⊥) → None ≡ found_of (joined_if (parse a) (parse b))
          count_end_b n = cannot (λ x y p q. absurd (n (omega (arith, counted.end_b, q.meet))))

          -- too many points
          pub count_points_many : 1024 < c.points → None ≡ found_of (joined_if (parse a) (parse b))
          count_points_many h = cannot (λ x y p q. no_points x y (rw (p.is, q.is, ← counted.points_are) h))

          module _ (few_scans : scans ≤ 64) (snapshots : word 4 a 3 ≡ word 4 b 3) (room_a : ha.start + 8 * ha.scans ≤ length a) (room_b : hb.start + 8 * hb.scans ≤ length b)
              (meet-a : c.end_a ≡ length a - 8 * ha.scans) (meet-b : c.end_b ≡ length b - 8 * hb.scans) (few_points : c.points ≤ 1024) where
            -- both are records
            is_x : parse a ≡ some (record_with a ha)
            is_x = parts_parse a ha head-a counted.joins.took_a scans_known.0.0 (sym counted.end_a ∙ meet-a) (omega arith)

            is_y : parse b ≡ some (record_with b hb)
            is_y = parts_parse b hb head-b counted.joins.took_b scans_known.0.1 (sym counted.end_b ∙ meet-b) (omega arith)

            -- they can be joined
            can : can_join (record_with a ha) (record_with b hb) ≡ true
            can =
                yes_join (record_with a ha) (record_with b hb) snapshots
                (clash_split (list_of (all_points a ha)) (record_with b hb) ∙ rw (counted.joins.clear, counted.unscanned))
                (omega (arith, counted.points_are)) (omega (arith, scans_known.1))

            joined : joined_if (parse a) (parse b) ≡ some (joined_of (record_with a ha) (record_with b hb))
            joined = rw (is_x, is_y) (some_joined (record_with a ha) (record_with b hb) can)

            -- how many bytes it has
            joined_size : head_size (version_for c.points scans) + c.size + 8 * scans ≡ length (bytes_of (joined_of (record_with a ha) (record_with b hb)))
            joined_size =
                let j : Rec = joined_of (record_with a ha) (record_with b hb) in
                let v : head_size (version_for c.points scans) ≡ head_size (version_of j) = rw (counted.points_are, scans_known.1) refl in
                omega (arith, v, counted.bytes_are, scans_known.1, scans_bytes_size j.scans, body_size j, whole_size j)

            -- the joined record is counted
            pub count_whole : (version start total : ℕ) → version ≡ version_for c.points scans → start ≡ head_size version → total ≡ start + c.size + 8 * scans
                → Some (record { points = c.points; scans = scans; size = total }) ≡ found_of (joined_if (parse a) (parse b))
            count_whole version start total is-v is-s is-t =
                let j : Rec = joined_of (record_with a ha) (record_with b hb) in
                let e : total ≡ length (bytes_of j) = is-t ∙ ap (λ (n : ℕ). n + c.size + 8 * scans) (is-s ∙ ap head_size is-v) ∙ joined_size in
                sym (ap found_of joined ∙ rw (counted.points_are, scans_known.1, e))
