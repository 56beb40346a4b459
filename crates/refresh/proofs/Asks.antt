-- The record that was read into lists, and what `judge` says of it.
-- Assumes nothing.
use Prim.Native.Nat.{ℕ, ◌≤◌}
use Rattle.std.specs.Prelude.{Result, Ok, Err}
use mathlib.Core.Path.{◌≡◌, refl, sym, ap, ◌∙◌}
use mathlib.Core.Option.{Option, none, some}
use mathlib.Core.List.{List, map}
use native.Mathlib.Omega.{arith}
use lib.ListN.{length, get_or, take, drop, length-map, length-append}
use lib.Seq.{take_at}
use mir.Syntax.{w8}
use mir.Val.{Fits}
use Rattle.words.specs.Word.{Bytes}
use Rattle.record.specs.declared.point.Scan.{Scan}
use Rattle.record.specs.declared.reader.Reading.{Reading}
use Rattle.record.specs.declared.answer.Answer.{Answer}
use Rattle.record.specs.Answer.{malformed}
use Rattle.record.specs.Record.{Rec, Valid, key_of}
use Rattle.record.specs.Parse.{parse}
use Rattle.record.specs.Reader.{Lists, ReadOutcome, read_outcome, front, RoomFor, filled, reading_of, read_of, low_of, high_of}
use Rattle.record.proofs.RoundTrip.{bytes_of_parse}
use Rattle.record.proofs.Results.{ok_is_no_err, ok_same}
use Rattle.rules.specs.State.{State}
use Rattle.rules.specs.Footprint.{reach}
use Rattle.rules.specs.Verdict.{Verdict, verdict_answer, refusal_or}
use Rattle.rules.specs.Refresh.{refreshed_answer, with_snapshot, on_zero, refresh}
use Rattle.pool.specs.Image.{Arrangement, Image, state_of}
use Rattle.conflict_search.specs.Sorted.{Sorted, footprint}
use Rattle.conflict_search.proofs.Reach.{sorted_valid, footprint_reach}
use Rattle.judge.specs.declared.judged.Judged.{Judged}
use Rattle.judge.specs.Judged.{judged_of}

-- what was lent is bytes
pub lent_bytes : (bs : List ℕ) → ((i : ℕ) → Fits w8 (get_or bs i 0)) → Bytes bs
lent_bytes bs f = record { byte = λ i. omega (arith, f i) }

-- WHAT WAS READ

-- the front of a list is what was put there
front_taken : (vs l : List ℕ) (n : ℕ) → n ≡ length vs → take n (front vs l) ≡ vs
front_taken vs l n e = take_at vs (drop (length vs) l) n (sym e)

-- and it lies inside
front_fits : (vs l : List ℕ) (n : ℕ) → n ≡ length vs → n ≤ length (front vs l)
front_fits vs l n e = omega (arith, length-append vs (drop (length vs) l))

-- the bytes are record r, and its lists stand at the fronts
pub record Taken (bs : List ℕ) (a : Reading) (l : Lists) : Type 0 where
  pub r : Rec
  pub is : parse bs ≡ some r
  pub valid : Valid r
  pub snapshot : a.snapshot ≡ r.snapshot
  pub keys : take a.points l.keys ≡ map key_of r.points
  pub lows : take a.scans l.lows ≡ map low_of r.scans
  pub highs : take a.scans l.highs ≡ map high_of r.scans
  pub points_inside : a.points ≤ length l.keys
  pub lows_inside : a.scans ≤ length l.lows
  pub highs_inside : a.scans ≤ length l.highs

module _ (bs : List ℕ) (bytes : Bytes bs) (before after : Lists) (room : RoomFor bs before) (q : Result Reading Answer) (e : read_outcome q after ≡ read_of (parse bs) before) where
  -- a record was read
  was_read : (r : Rec) → parse bs ≡ some r → read_outcome q after ≡ read_outcome (Ok (reading_of r)) (filled r before)
  unfolding read_of
  was_read r p = e ∙ simp (p, room r p)

  -- a refusal means that the bytes are no record
  pub none_taken : (a : Answer) → q ≡ Err a → parse bs ≡ none
  none_taken a n = go (parse bs) refl
    where
      go : (o : Option Rec) → parse bs ≡ o → o ≡ none
      go none p = refl
      go (some r) p = ok_is_no_err (sym (ap (λ (o : ReadOutcome). o.reading) (was_read r p)) ∙ n)

  -- a reading means that they are one
  pub taken : (a : Reading) → q ≡ Ok a → Taken bs a after
  unfolding read_of
  taken a z = go (parse bs) refl
    where
      go : (o : Option Rec) → parse bs ≡ o → Taken bs a after
      go none p =
          let refused : read_outcome q after ≡ read_of none before = e ∙ ap (λ (o : Option Rec). read_of o before) p in
          ok_is_no_err (sym z ∙ ap (λ (o : ReadOutcome). o.reading) refused)
      go (some r) p =
          let f : read_outcome q after ≡ read_outcome (Ok (reading_of r)) (filled r before) = was_read r p in
          let same : a ≡ reading_of r = ok_same (sym z ∙ ap (λ (o : ReadOutcome). o.reading) f) in
          let points : a.points ≡ length (map key_of r.points) = ap (λ (x : Reading). x.points) same ∙ sym (length-map r.points key_of) in
          let lows : a.scans ≡ length (map low_of r.scans) = ap (λ (x : Reading). x.scans) same ∙ sym (length-map r.scans low_of) in
          let highs : a.scans ≡ length (map high_of r.scans) = ap (λ (x : Reading). x.scans) same ∙ sym (length-map r.scans high_of) in
          let ek : after.keys ≡ front (map key_of r.points) before.keys = ap (λ (o : ReadOutcome). o.left.keys) f in
          let el : after.lows ≡ front (map low_of r.scans) before.lows = ap (λ (o : ReadOutcome). o.left.lows) f in
          let eh : after.highs ≡ front (map high_of r.scans) before.highs = ap (λ (o : ReadOutcome). o.left.highs) f in
          record {
            r = r;
            is = p;
            valid = (bytes_of_parse bs r bytes p).0;
            snapshot = ap (λ (x : Reading). x.snapshot) same;
            keys = rw ek (front_taken (map key_of r.points) before.keys a.points points);
            lows = rw el (front_taken (map low_of r.scans) before.lows a.scans lows);
            highs = rw eh (front_taken (map high_of r.scans) before.highs a.scans highs);
            points_inside = rw ek (front_fits (map key_of r.points) before.keys a.points points);
            lows_inside = rw el (front_fits (map low_of r.scans) before.lows a.scans lows);
            highs_inside = rw eh (front_fits (map high_of r.scans) before.highs a.scans highs);
          }

-- WHAT IS ANSWERED

-- a refreshed record has answer 0, a refusal its own
same_answer : (v : Verdict) (r : Rec) → verdict_answer v ≡ refreshed_answer (on_zero r v)
same_answer Verdict.committed r = refl
same_answer Verdict.conflict r = refl
same_answer Verdict.too_old r = refl
same_answer Verdict.no_room r = refl
same_answer Verdict.malformed r = refl
same_answer Verdict.ahead r = refl
same_answer Verdict.positions_used_up r = refl

-- what `judge` answers is what refresh refuses with, or 0
judged_answer : (S : State) (r : Rec) → (judged_of S r.snapshot (reach r)).answer ≡ refreshed_answer (refresh S (some r))
unfolding judged_of refresh
judged_answer S r = same_answer (refusal_or S r.snapshot (reach r) Verdict.committed) (with_snapshot S.p r)

module _ (m bs : List ℕ) where
  -- 4 for bytes that are no record
  pub asked_malformed : parse bs ≡ none → (A : Arrangement) → Image m A → malformed ≡ refreshed_answer (refresh (state_of A) (parse bs))
  unfolding refresh
  asked_malformed e A i = rw e

  module _ (a : Reading) (l : Lists) (t : Taken bs a l) where
    -- `judge` may be asked
    pub taken_sorted : Sorted (take a.points l.keys) (take a.scans l.lows) (take a.scans l.highs)
    taken_sorted = rw (t.keys, t.lows, t.highs) (sorted_valid t.valid)

    -- and its answer is refresh's
    pub asked_judged : (j : Judged)
        → ((A : Arrangement) → Image m A → j ≡ judged_of (state_of A) a.snapshot (footprint (take a.points l.keys) (take a.scans l.lows) (take a.scans l.highs)))
        → (A : Arrangement) → Image m A → j.answer ≡ refreshed_answer (refresh (state_of A) (parse bs))
    asked_judged j k A i =
        let f : footprint (take a.points l.keys) (take a.scans l.lows) (take a.scans l.highs) ≡ reach t.r = rw (t.keys, t.lows, t.highs) (footprint_reach t.r) in
        ap (λ (x : Judged). x.answer) (k A i) ∙ ap (λ (x : List Scan). (judged_of (state_of A) a.snapshot x).answer) f
        ∙ ap (λ (s : ℕ). (judged_of (state_of A) s (reach t.r)).answer) t.snapshot ∙ judged_answer (state_of A) t.r
        ∙ ap (λ (o : Option Rec). refreshed_answer (refresh (state_of A) o)) (sym t.is)
