-- What stands in the output after answer 0, and when that is the answer.
-- Assumes nothing.
use Prim.Native.Nat.{ℕ, ◌≤◌, ◌<◌}
use mathlib.Core.Path.{◌≡◌, refl, sym, ap, ◌∙◌}
use mathlib.Core.Logic.{◌⊎◌, ◌↔◌}
use mathlib.Core.Bool.{Bool, true, false}
use mathlib.Core.Option.{some}
use mathlib.Core.List.{List}
use native.Mathlib.Omega.{arith}
use lib.ListN.{length, get_or, take, drop, length-append, length-drop, get_or-append}
use lib.Seq.{take_at, drop_at}
use lib.Dec.{ltb}
use borrow.Author.Tests.{ltb-false, le-ltb}
use Rattle.words.specs.Word.{Bytes}
use Rattle.record.specs.declared.answer.Answer.{Answer}
use Rattle.record.specs.Answer.{committed, output_short}
use Rattle.record.specs.Record.{Rec, bytes_of, Valid}
use Rattle.record.specs.Parse.{parse}
use Rattle.record.specs.Reader.{front}
use Rattle.record.proofs.RoundTrip.{parse_bytes_of, bytes_of_parse}
use Rattle.std.specs.Prelude.{if◌then◌else◌}
use Rattle.rules.specs.State.{State, last_position}
use Rattle.rules.specs.Refresh.{Refreshed, done, refused, refreshed_answer, with_snapshot, refresh, Refreshes}
use Rattle.rules.proofs.Refreshing.{refresh_exactly, refreshed_valid}
use Rattle.refresh.specs.Refreshed.{RefreshOutcome, refresh_outcome, left_by, refreshed_of}
use Rattle.refresh.proofs.NewSnapshot.{same_size, others_as_before}
use Rattle.refresh.proofs.Returns.{Goes, goes}

module _ (before : List ℕ) (a : Answer) (after : List ℕ) where
  -- the test of the room, by its value
  by_room : (r : Rec) (b : Bool) → ltb (length before) (length (bytes_of r)) ≡ b
      → refresh_outcome a after ≡ (if b then refresh_outcome output_short before else refresh_outcome committed (front (bytes_of r) before))
      → ((a.number ≡ 0 → ⊥) → after ≡ before) × (a.number ≡ 0 → (length (bytes_of r) ≤ length before) × (after ≡ front (bytes_of r) before))
  by_room r true t e = (λ _. ap (λ (o : RefreshOutcome). o.output) e, λ z. absurd (omega (arith, ap (λ (o : RefreshOutcome). o.answer.number) e)))
  by_room r false t e =
      (λ n. absurd (n (ap (λ (o : RefreshOutcome). o.answer.number) e)), λ z. (ltb-false _ _ t, ap (λ (o : RefreshOutcome). o.output) e))

  -- an answer other than 0 leaves the output as it was
  pub left_untouched : (x : Refreshed) → refresh_outcome a after ≡ left_by x before → (a.number ≡ 0 → ⊥) → after ≡ before
  unfolding left_by
  left_untouched (done r) e n = (by_room r (ltb (length before) (length (bytes_of r))) refl e).0 n
  left_untouched (refused v) e n = ap (λ (o : RefreshOutcome). o.output) e

  -- answer 0 has found room
  left_front : (r : Rec) → refresh_outcome a after ≡ left_by (done r) before → a.number ≡ 0 → (length (bytes_of r) ≤ length before) × (after ≡ front (bytes_of r) before)
  unfolding left_by
  left_front r e z = (by_room r (ltb (length before) (length (bytes_of r))) refl e).1 z

  -- and nothing was refused
  left_zero : (x : Refreshed) → refresh_outcome a after ≡ left_by x before → a.number ≡ 0 → (refreshed_answer x).number ≡ 0
  unfolding left_by
  left_zero (done r) e z = refl
  left_zero (refused v) e z = sym (ap (λ (o : RefreshOutcome). o.answer.number) e) ∙ z

-- AFTER 0

-- the original is a record, and the front of the output, as long as the original, is "the same record with snapshot p, its other bytes
-- as before"; what follows is as it was
pub record FrontIs (p : ℕ) (original before after : List ℕ) : Type 0 where
  pub r : Rec
  pub was : parse original ≡ some r
  pub valid : Valid r
  pub fits : length original ≤ length before
  pub size : length after ≡ length before
  pub bytes : take (length original) after ≡ bytes_of (with_snapshot p r)
  pub reads : parse (take (length original) after) ≡ some (with_snapshot p r)
  pub others : (i : ℕ) → i < length original → (i < 3) ⊎ (7 ≤ i) → get_or after i 0 ≡ get_or original i 0
  pub rest : drop (length original) after ≡ drop (length original) before

-- it is refreshed and there is room: what answer 0 asks for
pub record Refreshable (S : State) (original before : List ℕ) : Type 0 where
  pub r : Rec
  pub is : parse original ≡ some r
  pub passes : Refreshes S r (with_snapshot S.p r)
  pub room : length original ≤ length before

module _ (S : State) (last : S.p ≤ last_position) (original before : List ℕ) (y : Bytes original) (a : Answer) (after : List ℕ)
    (e : refresh_outcome a after ≡ refreshed_of S (parse original) before) where
  -- a record was refreshed
  went : a.number ≡ 0 → Goes S (parse original)
  went z = goes S (parse original) (left_zero before a after (refresh S (parse original)) e z)

  module _ (z : a.number ≡ 0) (g : Goes S (parse original)) where
    -- the original is its bytes
    lent : Valid g.r × (original ≡ bytes_of g.r)
    lent = bytes_of_parse original g.r y g.is

    -- the new bytes are as many
    size : length (bytes_of (with_snapshot S.p g.r)) ≡ length original
    size = same_size S.p g.r ∙ ap length (sym lent.1)

    -- they stand at the front
    there : (length (bytes_of (with_snapshot S.p g.r)) ≤ length before) × (after ≡ front (bytes_of (with_snapshot S.p g.r)) before)
    there = left_front before a after (with_snapshot S.p g.r) (e ∙ ap (λ (x : Refreshed). left_by x before) g.does) z

    -- as many bytes of the output are the new record
    front_bytes : take (length original) after ≡ bytes_of (with_snapshot S.p g.r)
    front_bytes = rw there.1 (take_at (bytes_of (with_snapshot S.p g.r)) _ (length original) size)

    -- which is valid
    front_valid : Valid (with_snapshot S.p g.r)
    front_valid = refreshed_valid S last lent.0 (ap (refresh S) (sym g.is) ∙ g.does)

    -- the bytes outside the snapshot are the original's
    front_others : (i : ℕ) → i < length original → (i < 3) ⊎ (7 ≤ i) → get_or after i 0 ≡ get_or original i 0
    front_others i h w =
        ap (λ (l : List ℕ). get_or l i 0) there.1 ∙ get_or-append (bytes_of (with_snapshot S.p g.r)) _ 0 i (omega (arith, size))
        ∙ others_as_before S.p g.r i w ∙ ap (λ (l : List ℕ). get_or l i 0) (sym lent.1)

    -- all of it
    front_is : FrontIs S.p original before after
    front_is = record {
      r = g.r;
      was = g.is;
      valid = lent.0;
      fits = omega (arith, there.0, size);
      size = omega (
        arith,
        there.0,
        ap length there.1,
        length-append (bytes_of (with_snapshot S.p g.r)) (drop (length (bytes_of (with_snapshot S.p g.r))) before),
        length-drop (length (bytes_of (with_snapshot S.p g.r))) before,
      );
      bytes = front_bytes;
      reads = ap parse front_bytes ∙ parse_bytes_of (with_snapshot S.p g.r) front_valid;
      others = front_others;
      rest = rw there.1 (drop_at (bytes_of (with_snapshot S.p g.r)) _ (length original) size ∙ ap (λ (n : ℕ). drop n before) size);
    }

  -- R38: on 0 the front of the output is the record with snapshot p
  pub after_zero : a.number ≡ 0 → FrontIs S.p original before after
  after_zero z = front_is z (went z)

  -- it answers 0 exactly if the record is well formed, neither ahead nor too old, in no conflict, and there is room for it
  pub zero_exactly : (a.number ≡ 0) ↔ Refreshable S original before
  unfolding left_by
  zero_exactly = (
    λ z. let g = went z in record {
      r = g.r;
      is = g.is;
      passes = (refresh_exactly S g.r (with_snapshot S.p g.r)).0 (ap (refresh S) (sym g.is) ∙ g.does);
      room = (front_is z g).fits;
    },
    λ w.
        let d : refresh S (parse original) ≡ done (with_snapshot S.p w.r) = ap (refresh S) w.is ∙ (refresh_exactly S w.r (with_snapshot S.p w.r)).1 w.passes in
        let n : length (bytes_of (with_snapshot S.p w.r)) ≡ length original = same_size S.p w.r ∙ ap length (sym (bytes_of_parse original w.r y w.is).1) in
        let h : length (bytes_of (with_snapshot S.p w.r)) ≤ length before = omega (arith, w.room) in
        let q : (left_by (done (with_snapshot S.p w.r)) before).answer.number ≡ 0 = (rw (le-ltb (length before) (length (bytes_of (with_snapshot S.p w.r))) h)) in
        ap (λ (o : RefreshOutcome). o.answer.number) (e ∙ ap (λ (x : Refreshed). left_by x before) d) ∙ q,
  )
