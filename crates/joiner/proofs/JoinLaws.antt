-- What `join` meets at each return, and what the second pass asks: two records that can be joined, and their joined record.
-- Assumes nothing.
use Prim.Native.Nat.{ℕ, ◌+◌, ◌^◌, ◌-◌, ◌≤◌, ◌<◌}
use mathlib.Core.Bool.{Bool, true, false, ◌||◌}
use mathlib.Core.Option.{Option, none, some}
use mathlib.Core.Path.{◌≡◌, refl, sym, ap, ◌∙◌}
use mathlib.Core.List.{List}
use native.Mathlib.Omega.{arith}
use lib.ListN.{length}
use lib.Seq.{sets, length-sets}
use borrow.Author.Tests.{le-leb, lt-leb}
use Rattle.std.specs.Prelude.{Option as Optional, Some, None, Ok, Err}
use Rattle.std.specs.Option.{ok_or}
use Rattle.words.specs.Word.{word}
use Rattle.record.specs.declared.answer.Answer.{Answer}
use Rattle.record.specs.declared.checker.Head.{Head}
use Rattle.record.specs.Answer.{output_short, cannot_join}
use Rattle.record.specs.Record.{Rec, points_bytes, scans_bytes, body_bytes, bytes_of, version_for, version_of, head_size}
use Rattle.record.specs.Parse.{head_of, parse}
use Rattle.record.specs.Reader.{front}
use Rattle.record.proofs.Cases.{by_case}
use Rattle.record.proofs.HeadLaws.{none_right}
use Rattle.record.proofs.ReadLaws.{sets_front}
use Rattle.record.proofs.Results.{err_same}
use Rattle.record.proofs.Sizes.{points_size_most, scans_bytes_size, body_size, whole_size}
use Rattle.record.proofs.Versions.{version_least, version_most, counts_fit}
use Rattle.writer.specs.Stored.{head_bytes}
use Rattle.writer.proofs.StoredBytes.{stored_whole}
use Rattle.joiner.specs.declared.Found.{Found}
use Rattle.joiner.specs.Joined.{joined_of, can_join, joined_if}
use Rattle.joiner.specs.Joiner.{join_outcome, join_of}
use Rattle.joiner.specs.ScanSteps.{all_scans, BothTaken, scans_of_both, ScansFit}
use Rattle.joiner.specs.PointSteps.{clashes_named, clashes_scanned, all_points, points_of_both, PointsJoin, PointsFit}
use Rattle.joiner.specs.Passes.{found_of}
use Rattle.joiner.proofs.Content.{can_join_lem}
use Rattle.joiner.proofs.Parts.{record_with, Parts, few_points, few_scans, start_within, snapshot_within, parts_of}
use Rattle.joiner.proofs.CountLaws.{clash_split}

-- REFUSALS

-- no record without a right head
no_parse : (bs : List ℕ) (f : Optional Head) → f ≡ head_of bs → f ≡ None → parse bs ≡ none
unfolding parse
no_parse bs f is e = simp (none_right bs f is e)

-- nothing joins nothing
none_second : (m : Option Rec) → joined_if m none ≡ none
unfolding joined_if
none_second none = refl
none_second (some x) = refl

-- no joined record: 12, and the output as it was
module _ {A : Type 0} (q : Optional A) (at : q ≡ None) (e : Answer) (is : Err e ≡ ok_or q cannot_join) (o : List ℕ) where
  refused : (m : Option Rec) → m ≡ none → join_outcome (Err e) o ≡ join_of m o
  unfolding join_of
  refused m n =
      let same : e ≡ cannot_join = err_same (is ∙ ap (λ (x : Optional A). ok_or x cannot_join) at) in
      simp (n, same)

-- a's head is not right
pub join_no_a : (a b : List ℕ) (f : Optional Head) → f ≡ head_of a → f ≡ None → (e : Answer) → Err e ≡ ok_or f cannot_join → (o : List ℕ) → join_outcome (Err e) o ≡ join_of (joined_if (parse a) (parse b)) o
unfolding joined_if
join_no_a a b f is n e g o = refused f n e g o (joined_if (parse a) (parse b)) (ap (λ (m : Option Rec). joined_if m (parse b)) (no_parse a f is n))

-- b's head is not right
pub join_no_b : (a b : List ℕ) (f : Optional Head) → f ≡ head_of b → f ≡ None → (e : Answer) → Err e ≡ ok_or f cannot_join → (o : List ℕ) → join_outcome (Err e) o ≡ join_of (joined_if (parse a) (parse b)) o
join_no_b a b f is n e g o = refused f n e g o (joined_if (parse a) (parse b)) (ap (joined_if (parse a)) (no_parse b f is n) ∙ none_second (parse a))

-- the first pass has found none
pub join_cannot : (m : Option Rec) (q : Optional Found) → q ≡ found_of m → q ≡ None → (e : Answer) → Err e ≡ ok_or q cannot_join → (o : List ℕ) → join_outcome (Err e) o ≡ join_of m o
join_cannot m q is n e g o = refused q n e g o m (none_of m (sym n ∙ is))
  where
    none_of : (m : Option Rec) → None ≡ found_of m → m ≡ none
    none_of none h = refl
    none_of (some j) h = cc

-- THE OUTCOME

-- the size and the front of the output are the record's
whole_outcome : (m : Option Rec) (r : Rec) (o q : List ℕ) (size : ℕ) → m ≡ some r → size ≡ length (bytes_of r) → length (bytes_of r) ≤ length o → q ≡ front (bytes_of r) o
    → join_outcome (Ok size) q ≡ join_of m o
unfolding join_of
whole_outcome m r o q size i n h f = simp (i, le-leb _ _ h, n, f)

-- a short output
short_outcome : (m : Option Rec) (r : Rec) (o : List ℕ) → m ≡ some r → length o < length (bytes_of r) → join_outcome (Err output_short) o ≡ join_of m o
unfolding join_of
short_outcome m r o i h = simp (i, lt-leb _ _ h)

-- THE JOINED RECORD

-- what the first pass finds is something
not_found : {P : Type 0} {d : Found} → Some d ≡ None → P
not_found h = cc

-- it has found the joined record of two that can be joined
found_some : {P : Type 0} (m n : Option Rec) (d : Found) → Some d ≡ found_of (joined_if m n)
    → ((x y : Rec) → m ≡ some x → n ≡ some y → can_join x y ≡ true → joined_if m n ≡ some (joined_of x y) → Some d ≡ found_of (some (joined_of x y)) → P) → P
unfolding joined_if
found_some none n d h k = not_found h
found_some (some x) none d h k = not_found h
found_some (some x) (some y) d h k = by_case (can_join x y) (λ c. k x y refl refl c (simp c) (h ∙ simp c)) (λ c. not_found (h ∙ simp c))

-- the record that two records with these heads make
abbrev pub joined_with : List ℕ → Head → List ℕ → Head → Rec
joined_with a ha b hb = joined_of (record_with a ha) (record_with b hb)

-- two records with these heads that can be joined, and what the first pass has found of them
pub record Ready (a : List ℕ) (ha : Head) (b : List ℕ) (hb : Head) (d : Found) : Type 0 where
  right_a : head_of a ≡ Some ha
  right_b : head_of b ≡ Some hb
  parts_a : Parts a ha (record_with a ha)
  parts_b : Parts b hb (record_with b hb)
  can : can_join (record_with a ha) (record_with b hb) ≡ true
  is : joined_if (parse a) (parse b) ≡ some (joined_with a ha b hb)
  points_are : d.points ≡ length (joined_with a ha b hb).points
  scans_are : d.scans ≡ length (joined_with a ha b hb).scans
  size_is : d.size ≡ length (bytes_of (joined_with a ha b hb))

pub ready : {a : List ℕ} {ha : Head} {b : List ℕ} {hb : Head} {d : Found} {f g : Optional Head} {q : Optional Found} → f ≡ head_of a → f ≡ Some ha → g ≡ head_of b → g ≡ Some hb
    → q ≡ found_of (joined_if (parse a) (parse b)) → q ≡ Some d → Ready a ha b hb d
ready {a = a} {ha = ha} {b = b} {hb = hb} {d = d} is-f at_f is-g at_g is-q at_q =
    let right_a : head_of a ≡ Some ha = sym is-f ∙ at_f in
    let right_b : head_of b ≡ Some hb = sym is-g ∙ at_g in
    found_some (parse a) (parse b) d (sym at_q ∙ is-q) λ x y x-is y-is can is found.
    let parts_a : Parts a ha x = parts_of a ha right_a x x-is in
    let parts_b : Parts b hb y = parts_of b hb right_b y y-is in
    let same : Some d ≡ found_of (some (joined_with a ha b hb)) = rw (parts_a.is, parts_b.is) at found in
    record {
      right_a = right_a;
      right_b = right_b;
      parts_a = rw parts_a.is at parts_a;
      parts_b = rw parts_b.is at parts_b;
      can = rw (parts_a.is, parts_b.is) at can;
      is = rw (parts_a.is, parts_b.is) at is;
      points_are = cc;
      scans_are = cc;
      size_is = cc;
    }

-- an or that is false
or_first : (a b : Bool) → (a || b) ≡ false → a ≡ false
or_first true b e = e
or_first false b e = refl

module _ {a : List ℕ} {ha : Head} {b : List ℕ} {hb : Head} {d : Found} (r : Ready a ha b hb d) where
  -- not too many
  few_joined : d.points ≤ 1024
  few_joined = omega (arith, r.points_are, (can_join_lem (record_with a ha) (record_with b hb) r.can).2)

  few_scans_joined : d.scans ≤ 64
  few_scans_joined = omega (arith, r.scans_are, (can_join_lem (record_with a ha) (record_with b hb) r.can).3)

  -- its version is that of the counts
  version_same : version_for d.points d.scans ≡ version_of (joined_with a ha b hb)
  version_same = rw (r.points_are, r.scans_are)

  -- its size is that of its head, its points and its scans
  sum : d.size ≡ head_size (version_for d.points d.scans) + (length (points_bytes (joined_with a ha b hb).points) + length (scans_bytes (joined_with a ha b hb).scans))
  sum = r.size_is ∙ whole_size (joined_with a ha b hb) ∙ body_size (joined_with a ha b hb) ∙ rw version_same

  -- and small
  small : d.size ≤ 13835
  small =
      omega (
        arith,
        sum,
        version_most d.points d.scans,
        r.points_are,
        few_joined,
        points_size_most (joined_with a ha b hb).points,
        r.scans_are,
        few_scans_joined,
        scans_bytes_size (joined_with a ha b hb).scans,
      )

  -- WHAT THE SECOND PASS ASKS

  -- it has nine bytes at the least
  join_least : 9 ≤ d.size
  join_least = omega (arith, sum, version_least d.points d.scans)

  pub join_two : 2 ≤ d.size
  join_two = omega (arith, join_least)

  pub join_length : d.size - 2 < 65536
  join_length = omega (arith, small)

  pub join_length_fits : d.size - 2 < 2 ^ 32
  join_length_fits = omega (arith, join_length)

  pub join_points_fit : d.points < 2 ^ 32
  join_points_fit = omega (arith, few_joined)

  pub join_scans_fit : d.scans < 2 ^ 32
  join_scans_fit = omega (arith, few_scans_joined)

  pub join_snapshot : 3 + 4 ≤ length a
  join_snapshot = snapshot_within a ha r.right_a

  -- the points can be joined
  pub join_points : PointsJoin (all_points a ha) (all_points b hb)
  join_points =
      record {
        took_a = r.parts_a.points_took;
        took_b = r.parts_b.points_took;
        clear = or_first (clashes_named (record_with a ha).points (record_with b hb).points) (clashes_scanned (record_with a ha).points (record_with b hb).scans)
            (sym (clash_split (record_with a ha).points (record_with b hb)) ∙ (can_join_lem (record_with a ha) (record_with b hb) r.can).1);
      }

  pub join_points_a : PointsFit a ha
  join_points_a = (start_within a ha r.right_a, few_points a ha r.right_a)

  pub join_points_b : PointsFit b hb
  join_points_b = (start_within b hb r.right_b, few_points b hb r.right_b)

  -- the scans are well formed
  pub join_scans : BothTaken (all_scans a ha) (all_scans b hb)
  join_scans = (r.parts_a.scans_took, r.parts_b.scans_took)

  -- and stand within the bytes
  pub join_scans_a : ScansFit a ha
  join_scans_a = (omega (arith, r.parts_a.room), few_scans a ha r.right_a)

  pub join_scans_b : ScansFit b hb
  join_scans_b = (omega (arith, r.parts_b.room), few_scans b hb r.right_b)

  module _ (v : ℕ) (is-v : v ≡ version_for d.points d.scans) where
    -- the version is 1 or 2
    pub join_version_least : 1 ≤ v
    join_version_least = omega (arith, is-v, version_least d.points d.scans)

    pub join_version_most : v ≤ 2
    join_version_most = omega (arith, is-v, version_most d.points d.scans)

    -- its counts have room
    pub join_points_width : d.points < 256 ^ v
    join_points_width = rw is-v (counts_fit d.points d.scans few_joined few_scans_joined).0

    pub join_scans_width : d.scans < 256 ^ v
    join_scans_width = rw is-v (counts_fit d.points d.scans few_joined few_scans_joined).1

    -- there is room for the head
    pub join_head_room : (o : List ℕ) → d.size ≤ length o → head_size v ≤ length o
    join_head_room o room = omega (arith, sum, ap head_size is-v)

    module _ (snapshot : ℕ) (o h : List ℕ) (head : h ≡ sets o 0 (head_bytes v (d.size - 2) snapshot d.points d.scans)) (room : d.size ≤ length o) (start : ℕ) (first : start ≡ head_size v) where
      -- the head leaves the length as it was
      head_length : length h ≡ length o
      head_length = ap length head ∙ length-sets o 0 (head_bytes v (d.size - 2) snapshot d.points d.scans)

      -- there is room for the points
      pub join_points_room : start + length (points_bytes (points_of_both (all_points a ha) (all_points b hb))) ≤ length h
      join_points_room = omega (arith, sum, head_length, ap head_size is-v)

      module _ (p : List ℕ) (at : ℕ) (place : at ≡ start + length (points_bytes (points_of_both (all_points a ha) (all_points b hb))))
          (stored : p ≡ sets h start (points_bytes (points_of_both (all_points a ha) (all_points b hb)))) where
        -- there is room for the scans
        pub join_scans_room : at + length (scans_bytes (scans_of_both (all_scans a ha) (all_scans b hb))) ≤ length p
        join_scans_room =
            omega (arith, sum, ap head_size is-v, ap length stored ∙ length-sets h start (points_bytes (points_of_both (all_points a ha) (all_points b hb))) ∙ head_length)

        -- THE RECORD IS JOINED

        -- the three stores are its bytes
        bytes_stored : (q' : List ℕ) → q' ≡ sets p at (scans_bytes (scans_of_both (all_scans a ha) (all_scans b hb))) → snapshot ≡ word 4 a 3 → q' ≡ sets o 0 (bytes_of (joined_with a ha b hb))
        bytes_stored q' scans-stored is-s =
            let j : Rec = joined_with a ha b hb in
            let body : d.size - 2 ≡ length (body_bytes j) = omega (arith, r.size_is, whole_size j) in
            let version : v ≡ version_of j = is-v ∙ version_same in
            stored_whole j o h p q' start at (head ∙ rw (version, body, is-s, r.points_are, r.scans_are)) (first ∙ ap head_size version) stored place scans-stored

        -- 0, its size, and its bytes at the front
        pub join_whole : (q' : List ℕ) → q' ≡ sets p at (scans_bytes (scans_of_both (all_scans a ha) (all_scans b hb))) → snapshot ≡ word 4 a 3
            → join_outcome (Ok d.size) q' ≡ join_of (joined_if (parse a) (parse b)) o
        join_whole q' scans-stored is-s =
            let fits : length (bytes_of (joined_with a ha b hb)) ≤ length o = omega (arith, r.size_is) in
            whole_outcome (joined_if (parse a) (parse b)) (joined_with a ha b hb) o q' d.size r.is r.size_is fits
            (bytes_stored q' scans-stored is-s ∙ sets_front (bytes_of (joined_with a ha b hb)) o fits)

  -- a short output stays as it was
  pub join_short : (o : List ℕ) → length o < d.size → join_outcome (Err output_short) o ≡ join_of (joined_if (parse a) (parse b)) o
  join_short o h = short_outcome (joined_if (parse a) (parse b)) (joined_with a ha b hb) o r.is (omega (arith, r.size_is))
