-- What `write` meets: the size that the first pass found bounds every store of the second, and the stores are the record's bytes.
-- Assumes nothing.
use Prim.Native.Nat.{ℕ, ◌+◌, ◌^◌, ◌-◌, ◌≤◌, ◌<◌}
use mathlib.Core.Path.{◌≡◌, refl, sym, ap, ◌∙◌}
use mathlib.Core.Option.{Option, none, some}
use mathlib.Core.List.{List}
use native.Mathlib.Omega.{arith}
use lib.ListN.{length}
use lib.Seq.{sets, length-sets}
use borrow.Author.Tests.{le-leb, lt-leb}
use Rattle.std.specs.Option.{ok_or}
use Rattle.std.specs.Prelude.{Option as Optional, Some, None, Ok, Err}
use Rattle.record.specs.declared.answer.Answer.{Answer}
use Rattle.record.specs.Answer.{malformed, output_short}
use Rattle.record.specs.Record.{Rec, points_bytes, scans_bytes, body_bytes, bytes_of, version_for, version_of, head_size}
use Rattle.record.specs.Reader.{Lists, lists, front}
use Rattle.record.proofs.ReadLaws.{sets_front}
use Rattle.record.proofs.Results.{err_same}
use Rattle.record.proofs.Versions.{version_least, version_most, counts_fit}
use Rattle.record.proofs.Sizes.{points_size_most, scans_bytes_size, body_size, whole_size}
use Rattle.writer.specs.Writer.{record_of, write_outcome, write_of, size_end}
use Rattle.writer.specs.Stored.{head_bytes, stored_points, stored_scans}
use Rattle.writer.proofs.StoredBytes.{points_bytes_own, scans_bytes_own, stored_whole}
use Rattle.writer.proofs.Names.{ListsName, lists_name}
use Rattle.writer.proofs.SizeLaws.{Lengths, lengths, any_snapshot}

-- WHAT THE SIZE SAYS

-- no size: no record is named
none_of : (x : Option Rec) → None ≡ size_end x → x ≡ none
none_of none e = refl
none_of (some r) e = cc

-- a size: a record of that size is named
some_of : (x : Option Rec) (size : ℕ) → Some size ≡ size_end x → (r : Rec) × (x ≡ some r) × (size ≡ length (bytes_of r))
some_of none size e = cc
some_of (some r) size e = (r, refl, cc)

-- THE OUTCOMES

-- the size and the front of the output are the record's
whole_outcome : (x : Option Rec) (r : Rec) (o q : List ℕ) (size : ℕ) → x ≡ some r → size ≡ length (bytes_of r) → length (bytes_of r) ≤ length o → q ≡ front (bytes_of r) o
    → write_outcome (Ok size) q ≡ write_of x o
unfolding write_of
whole_outcome x r o q size i n h f = simp (i, le-leb _ _ h, n, f)

-- a short output stays as it was
short_outcome : (x : Option Rec) (r : Rec) (o : List ℕ) → x ≡ some r → length o < length (bytes_of r) → write_outcome (Err output_short) o ≡ write_of x o
unfolding write_of
short_outcome x r o i h = simp (i, lt-leb _ _ h)

-- A SIZE WAS FOUND

module _ (ks es xs ls hs : List ℕ) (size : ℕ) (e : Optional ℕ) (at_size : e ≡ Some size) (is : e ≡ size_end (record_of 0 (lists ks es xs ls hs))) where
  -- THE RECORD NAMED

  module _ (snapshot : ℕ) where
    -- the record named
    found : (r : Rec) × (record_of snapshot (lists ks es xs ls hs) ≡ some r) × (size ≡ length (bytes_of r))
    found = some_of (record_of snapshot (lists ks es xs ls hs)) size (sym at_size ∙ is ∙ any_snapshot 0 snapshot (lists ks es xs ls hs))

    -- the record
    r : Rec
    r = found.0

    -- the lists name it
    record_is : record_of snapshot (lists ks es xs ls hs) ≡ some r
    unfolding r
    record_is = found.1

    -- the size is its own
    size_is : size ≡ length (bytes_of r)
    unfolding r
    size_is = found.2

    -- its lists are the lists lent
    names : ListsName snapshot (lists ks es xs ls hs) r
    names = lists_name snapshot (lists ks es xs ls hs) r record_is

    -- and so are their lengths
    long : Lengths ks es xs ls hs r
    long = lengths snapshot ks es xs ls hs r names

    -- its points' bytes are stored
    stored_points_lem : stored_points ks es xs ≡ points_bytes r.points
    stored_points_lem = ap (λ (l : Lists). stored_points l.kinds l.keys l.payloads) names.lists_are ∙ points_bytes_own r.points

    -- its scans' bytes are stored
    stored_scans_lem : stored_scans ls hs ≡ scans_bytes r.scans
    stored_scans_lem = ap (λ (l : Lists). stored_scans l.lows l.highs) names.lists_are ∙ scans_bytes_own r.scans

    -- its version is that of the lists
    version_is : version_for (length ks) (length ls) ≡ version_of r
    version_is = rw (long.kinds_long, long.lows_long)

    module _ (o h p q : List ℕ) (v start at : ℕ) (is-v : v ≡ version_for (length ks) (length ls)) (first : start ≡ head_size v)
        (scans : q ≡ sets p at (stored_scans ls hs)) (points : p ≡ sets h start (stored_points ks es xs))
        (place : at ≡ start + length (stored_points ks es xs)) (head : h ≡ sets o 0 (head_bytes v (size - 2) snapshot (length ks) (length ls))) (room : size ≤ length o) where
      -- the three stores are its bytes
      bytes_stored : q ≡ sets o 0 (bytes_of r)
      bytes_stored =
          let body : size - 2 ≡ length (body_bytes r) = omega (arith, size_is, whole_size r) in
          let sp : stored_points ks es xs ≡ points_bytes r.points = stored_points_lem in
          let ss : stored_scans ls hs ≡ scans_bytes r.scans = stored_scans_lem in
          let version : v ≡ version_of r = is-v ∙ version_is in
          stored_whole r o h p q start at
          (head ∙ ap (sets o 0) (head_same v (version_of r) (size - 2) (length (body_bytes r)) snapshot r.snapshot (length ks) (length r.points) (length ls) (length r.scans)
          version body (sym names.snapshot_is) long.kinds_long long.lows_long)) (first ∙ ap head_size version)
          (points ∙ ap (sets h start) sp) (place ∙ ap (λ (b : List ℕ). start + length b) sp) (scans ∙ ap (sets p at) ss)
        where
          head_same : (f g n m s t a b c d : ℕ) → f ≡ g → n ≡ m → s ≡ t → a ≡ b → c ≡ d → head_bytes f n s a c ≡ head_bytes g m t b d
          head_same f g n m s t a b c d y i j k z = rw (y, i, j, k, z)

      -- the record is written
      pub write_whole : write_outcome (Ok size) q ≡ write_of (record_of snapshot (lists ks es xs ls hs)) o
      write_whole =
          let fits : length (bytes_of r) ≤ length o = omega (arith, size_is) in
          whole_outcome (record_of snapshot (lists ks es xs ls hs)) r o q size record_is size_is fits (bytes_stored ∙ sets_front (bytes_of r) o fits)

    -- the output is too short
    pub write_short : (o : List ℕ) → length o < size → write_outcome (Err output_short) o ≡ write_of (record_of snapshot (lists ks es xs ls hs)) o
    write_short o h = short_outcome (record_of snapshot (lists ks es xs ls hs)) r o record_is (omega (arith, size_is))

  -- WHAT EACH STEP OF THE SECOND PASS ASKS

  -- head, points and scans make up the size
  sum : size ≡ head_size (version_for (length ks) (length ls)) + length (stored_points ks es xs) + length (stored_scans ls hs)
  sum = omega (arith, size_is 0, whole_size (r 0), body_size (r 0), ap length (stored_points_lem 0), ap length (stored_scans_lem 0), ap head_size (version_is 0))

  -- the length's own two bytes are in the size
  pub write_two : 2 ≤ size
  write_two = omega (arith, sum)

  -- 13,835 at the most
  size_most : size ≤ 13835
  size_most =
      let n = names 0 in
      omega (
        arith,
        size_is 0,
        whole_size (r 0),
        body_size (r 0),
        points_size_most (r 0).points,
        scans_bytes_size (r 0).scans,
        n.few_points,
        n.few_scans,
        version_most (length (r 0).points) (length (r 0).scans),
      )

  -- 1,024 points at the most, and 64 scans
  few : (length ks ≤ 1024) × (length ls ≤ 64)
  few = let n = names 0 in let l = long 0 in (omega (arith, l.kinds_long, n.few_points), omega (arith, l.lows_long, n.few_scans))

  -- the length fits two bytes
  pub write_length : (k : ℕ) → size - k < 65536
  write_length k = omega (arith, size_most)

  -- and a u32
  pub write_length_fits : (k : ℕ) → size - k < 2 ^ 32
  write_length_fits k = omega (arith, size_most)

  -- so do the numbers of points and scans
  pub write_points_fit : length ks < 2 ^ 32
  write_points_fit = omega (arith, few.0)

  pub write_scans_fit : length ls < 2 ^ 32
  write_scans_fit = omega (arith, few.1)

  -- a key for each kind
  pub write_keys_same : length es ≡ length ks
  write_keys_same = let l = long 0 in l.keys_long ∙ sym l.kinds_long

  -- a payload for each kind
  pub write_payloads_same : length xs ≡ length ks
  write_payloads_same = let l = long 0 in l.payloads_long ∙ sym l.kinds_long

  -- a high for each low
  pub write_highs_same : length hs ≡ length ls
  write_highs_same = let l = long 0 in l.highs_long ∙ sym l.lows_long

  module _ (v : ℕ) (is-v : v ≡ version_for (length ks) (length ls)) where
    -- the version is 1 or 2
    pub write_version_least : 1 ≤ v
    write_version_least = omega (arith, version_least (length ks) (length ls))

    pub write_version_most : v ≤ 2
    write_version_most = omega (arith, version_most (length ks) (length ls))

    -- its counts have room for these
    pub write_points_width : length ks < 256 ^ v
    write_points_width =
        rw is-v (counts_fit (length ks) (length ls) few.0 few.1).0

    pub write_scans_width : length ls < 256 ^ v
    write_scans_width =
        rw is-v (counts_fit (length ks) (length ls) few.0 few.1).1

    -- there is room for the head
    pub write_head_room : (o : List ℕ) → size ≤ length o → head_size v ≤ length o
    write_head_room o room = omega (arith, sum, ap head_size is-v)

    module _ (snapshot : ℕ) (o h : List ℕ) (head : h ≡ sets o 0 (head_bytes v (size - 2) snapshot (length ks) (length ls))) (room : size ≤ length o)
        (start : ℕ) (first : start ≡ head_size v) where
      -- the head leaves the length as it was
      head_length : length h ≡ length o
      head_length = ap length head ∙ length-sets o 0 (head_bytes v (size - 2) snapshot (length ks) (length ls))

      -- there is room for the points
      pub write_points_room : start + length (stored_points ks es xs) ≤ length h
      write_points_room = omega (arith, sum, head_length, ap head_size is-v)

      -- there is room for the scans behind them
      pub write_scans_room : (p : List ℕ) (at : ℕ) → at ≡ start + length (stored_points ks es xs) → p ≡ sets h start (stored_points ks es xs)
          → at + length (stored_scans ls hs) ≤ length p
      write_scans_room p at place points =
          omega (arith, sum, ap head_size is-v, ap length points ∙ length-sets h start (stored_points ks es xs) ∙ head_length)

-- lists that break a rule
pub write_malformed : (ks es xs ls hs : List ℕ) (e : Optional ℕ) (a : Answer) → e ≡ size_end (record_of 0 (lists ks es xs ls hs)) → e ≡ None → Err a ≡ ok_or e malformed
    → (snapshot : ℕ) (o : List ℕ) → write_outcome (Err a) o ≡ write_of (record_of snapshot (lists ks es xs ls hs)) o
unfolding write_of
write_malformed ks es xs ls hs e a is n q snapshot o =
    let same : a ≡ malformed = err_same (q ∙ ap (λ (x : Optional ℕ). ok_or x malformed) n) in
    simp (none_of (record_of snapshot (lists ks es xs ls hs)) (sym n ∙ is ∙ any_snapshot 0 snapshot (lists ks es xs ls hs)), same)
