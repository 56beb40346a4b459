-- One law for each return of `refresh_fit`: the tests before it decide what is left by refresh's definition.
-- Assumes nothing.
use Prim.Native.Nat.{ℕ, ◌+◌, ◌≤◌, ◌<◌}
use mathlib.Core.Path.{◌≡◌, refl, sym, ap, ◌∙◌}
use mathlib.Core.Option.{Option, none, some}
use mathlib.Core.List.{List, ◌++◌}
use native.Mathlib.Omega.{arith}
use lib.ListN.{length, drop, length-append}
use borrow.Author.Tests.{lt-ltb, le-ltb}
use Rattle.words.specs.Word.{Bytes, put_word}
use Rattle.record.specs.declared.answer.Answer.{Answer}
use Rattle.record.specs.Answer.{committed, output_short}
use Rattle.record.specs.Record.{Rec, bytes_of}
use Rattle.record.specs.Parse.{parse}
use Rattle.record.specs.Reader.{front}
use Rattle.record.proofs.RoundTrip.{bytes_of_parse, valid_size}
use Rattle.nodes.specs.declared.header.Header.{Header}
use Rattle.nodes.specs.Nodes.{header_at}
use Rattle.rules.specs.State.{State}
use Rattle.rules.specs.Footprint.{reach}
use Rattle.rules.specs.Verdict.{Verdict, conflict, too_old, no_room, malformed, ahead, positions_used_up, refusal_or}
use Rattle.rules.specs.Refresh.{Refreshed, done, refused, refreshed_answer, on_zero, with_snapshot, refresh}
use Rattle.pool.specs.Image.{Arrangement, Image, Fit, state_of}
use Rattle.refresh.specs.Refreshed.{refresh_outcome, left_by, refreshed_of}
use Rattle.refresh.proofs.NewSnapshot.{same_size, snapshot_stored}

-- WHICH ANSWER

-- a refusal's answer leaves the output as it was
refused_is : (before : List ℕ) (a : Answer) (x : Refreshed) → a ≡ refreshed_answer x → (a.number ≡ 0 → ⊥) → refresh_outcome a before ≡ left_by x before
unfolding left_by
refused_is before a (done r) e n = absurd (n (ap (λ (b : Answer). b.number) e))
refused_is before a (refused v) e n = ap (λ (b : Answer). refresh_outcome b before) e

-- no refusal is 0
only_done : (v : Verdict) (r : Rec) → (refreshed_answer (on_zero r v)).number ≡ 0 → on_zero r v ≡ done r
only_done Verdict.committed r e = refl
only_done conflict r e = absurd (omega arith)
only_done too_old r e = absurd (omega arith)
only_done no_room r e = absurd (omega arith)
only_done malformed r e = absurd (omega arith)
only_done ahead r e = absurd (omega arith)
only_done positions_used_up r e = absurd (omega arith)

-- the bytes are a record, and it is refreshed
pub record Goes (S : State) (m : Option Rec) : Type 0 where
  pub r : Rec
  pub is : m ≡ some r
  pub does : refresh S m ≡ done (with_snapshot S.p r)

-- answer 0 means that
pub goes : (S : State) (m : Option Rec) → (refreshed_answer (refresh S m)).number ≡ 0 → Goes S m
unfolding refresh
goes S none e = absurd (omega arith)
goes S (some r) e =
    record { r = r; is = refl; does = only_done (refusal_or S r.snapshot (reach r) Verdict.committed) (with_snapshot S.p r) e }

-- WHAT IS LEFT

module _ (S : State) (bs before : List ℕ) (bytes : Bytes bs) (g : Goes S (parse bs)) where
  -- the bytes lent are the record's
  lent : bs ≡ bytes_of g.r
  lent = (bytes_of_parse bs g.r bytes g.is).1

  -- the refreshed record is as long
  size : length (bytes_of (with_snapshot S.p g.r)) ≡ length bs
  size = same_size S.p g.r ∙ ap length (sym lent)

  -- nine bytes at the least
  long : 9 ≤ length bs
  long = omega (arith, (valid_size g.r (bytes_of_parse bs g.r bytes g.is).0).least, ap length lent)

  -- less room than the record needs
  too_short : length before < length bs → refresh_outcome output_short before ≡ refreshed_of S (parse bs) before
  unfolding left_by
  too_short h = rw (g.does, lt-ltb (length before) (length (bytes_of (with_snapshot S.p g.r))) (rw size h))

  -- the original copied to the front, then p in the place of its snapshot
  put_over : put_word 4 (front bs before) 3 S.p ≡ front (bytes_of (with_snapshot S.p g.r)) before
  put_over =
      ap (λ (l : List ℕ). put_word 4 (l ++ drop (length bs) before) 3 S.p) lent ∙ snapshot_stored S.p g.r (drop (length bs) before)
      ∙ ap (λ (n : ℕ). bytes_of (with_snapshot S.p g.r) ++ drop n before) (sym size)

  -- room enough
  long_enough : length bs ≤ length before → refresh_outcome committed (put_word 4 (front bs before) 3 S.p) ≡ refreshed_of S (parse bs) before
  unfolding left_by
  long_enough h = rw (g.does, le-ltb (length before) (length (bytes_of (with_snapshot S.p g.r))) (rw size h)) (ap (refresh_outcome committed) put_over)

-- THE RETURNS

module _ (m bs before : List ℕ) (bytes : Bytes bs) (a : Answer) (asked : (A : Arrangement) → Image m A → a ≡ refreshed_answer (refresh (state_of A) (parse bs))) where
  -- 4, 5, 2 or 1
  pub returns_refused : (a.number ≡ 0 → ⊥) → (A : Arrangement) → Image m A → refresh_outcome a before ≡ refreshed_of (state_of A) (parse bs) before
  returns_refused n A i = refused_is before a (refresh (state_of A) (parse bs)) (asked A i) n

  module _ (zero : a.number ≡ 0) where
    -- 0 was the answer at every arrangement
    gone : (A : Arrangement) → Image m A → Goes (state_of A) (parse bs)
    gone A i = goes (state_of A) (parse bs) (ap (λ (b : Answer). b.number) (sym (asked A i)) ∙ zero)

    -- 8
    pub returns_short : length before < length bs → (A : Arrangement) → Image m A → refresh_outcome output_short before ≡ refreshed_of (state_of A) (parse bs) before
    returns_short h A i = too_short (state_of A) bs before bytes (gone A i) h

    -- the record reaches past its snapshot
    pub original_long : Fit m → 3 + 4 ≤ length bs
    original_long f = omega (arith, long (state_of f.arrangement) bs before bytes (gone f.arrangement f.image))

    module _ (room : length bs ≤ length before) (copied : List ℕ) (copy : copied ≡ front bs before) where
      -- there is room for the snapshot
      pub snapshot_inside : Fit m → 3 + 4 ≤ length copied
      snapshot_inside f = omega (arith, ap length copy, length-append bs (drop (length bs) before), original_long f)

      -- 0
      pub returns_done : (h : Header) → h ≡ header_at m → (after : List ℕ) → after ≡ put_word 4 copied 3 h.position
          → (A : Arrangement) → Image m A → refresh_outcome committed after ≡ refreshed_of (state_of A) (parse bs) before
      returns_done h eh after put A i =
          let p : h.position ≡ A.p = ap (λ (x : Header). x.position) (eh ∙ i.header) in
          ap (refresh_outcome committed) (put ∙ ap (λ (l : List ℕ). put_word 4 l 3 h.position) copy ∙ ap (put_word 4 (front bs before) 3) p)
          ∙ long_enough (state_of A) bs before bytes (gone A i) room
