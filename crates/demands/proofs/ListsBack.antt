-- R12 on lists: what the writer has written with answer 0, the reader reads as it was given.
-- The idea: answer 0 means that the lists name a valid record; they are then that record's own lists, and `write_read` speaks of those.
-- Assumes nothing.
use Prim.Native.Nat.{ℕ, ◌≤◌}
use mathlib.Core.Path.{◌≡◌, refl, sym, ap, ◌∙◌, subst}
use mathlib.Core.Bool.{Bool, true, false, ◌&&◌}
use mathlib.Core.Option.{Option, none, some}
use mathlib.Core.List.{List, map}
use native.Mathlib.Omega.{arith}
use lib.ListN.{length, take, drop, length-map}
use lib.Seq.{take-append_seam}
use lib.Dec.{leb}
use borrow.Author.Tests.{leb-true, le-leb}
use Rattle.std.specs.Prelude.{Result, Ok, Err}
use Rattle.record.specs.declared.answer.Answer.{Answer}
use Rattle.record.specs.declared.reader.Reading.{Reading}
use Rattle.record.specs.Answer as Names
use Rattle.record.specs.Record.{Rec, kind_of, key_of, payload_of, bytes_of}
use Rattle.record.specs.Parse.{parse}
use Rattle.record.specs.Reader.{Lists, low_of, high_of, front, roomy, filled, read_of}
use Rattle.record.specs.Reader as Reader
use Rattle.record.proofs.Cases.{by_case}
use Rattle.record.proofs.Results.{ok_is_no_err}
use Rattle.writer.specs.Writer.{record_of, lists_of, WriteOutcome, write_outcome, write_of}
use Rattle.writer.specs.Writer.{Fitting}
use Rattle.writer.proofs.Names.{record_of_lists, record_of_valid, lists_record_of}
use Rattle.record.specs.Reader.{reading_of}
use Rattle.writer.proofs.RoundTrip.{write_read}
use Rattle.demands.specs.ListsBack.{HasRoom, ReadBack}

-- the writer gives a size only where the lists name a record and the output has room for it
written_inv : {P : Type 0} (x : Option Rec) (output left : List ℕ) (size : ℕ) → write_outcome (Ok size) left ≡ write_of x output
    → ((r : Rec) → x ≡ some r → length (bytes_of r) ≤ length output → P) → P
unfolding write_of
written_inv none output left size e k = ok_is_no_err (ap (λ (o : WriteOutcome). o.written) e)
written_inv (some r) output left size e k =
    by_case (leb (length (bytes_of r)) (length output))
    (λ t. k r refl (leb-true (length (bytes_of r)) (length output) t))
    (λ t.
    let f : write_outcome (Ok size) left ≡ write_outcome (Err Names.output_short) output = e ∙ simp t in
    ok_is_no_err (ap (λ (o : WriteOutcome). o.written) f))

-- both tests are true
and_true : (a b : Bool) → a ≡ true → b ≡ true → (a && b) ≡ true
and_true true b e f = f
and_true false b e f = e

-- room for a record's own lists is room for the record
room_roomy : (r : Rec) (room : Lists) → HasRoom (lists_of r) room → roomy r room ≡ true
room_roomy r room h =
    and_true _ _ (test kind_of r.points room.kinds h.kinds) (
    and_true _ _ (test key_of r.points room.keys h.keys) (
    and_true _ _ (test payload_of r.points room.payloads h.payloads) (
    and_true _ _ (test low_of r.scans room.lows h.lows) (test high_of r.scans room.highs h.highs))))
  where
    test : {A : Type 0} (f : A → ℕ) (es : List A) (l : List ℕ) → length (map f es) ≤ length l → leb (length es) (length l) ≡ true
    test f es l h = le-leb (length es) (length l) (omega (arith, length-map es f))

-- what was put at the front of a list stands there
front_back : (vs l l' : List ℕ) → l' ≡ front vs l → take (length vs) l' ≡ vs
front_back vs l l' e = ap (take (length vs)) e ∙ take-append_seam vs (drop (length vs) l)

-- a record that was read gives its own lists back
record_back : (r : Rec) (before after : Lists) (q : Result Reading Answer) → q ≡ Ok (reading_of r) → after ≡ filled r before → ReadBack r.snapshot (lists_of r) q after
record_back r before after q e d = record {
  reading_is = e ∙ (λ i. Ok (record { snapshot = r.snapshot; points = sym (length-map r.points kind_of) i; scans = sym (length-map r.scans low_of) i }));
  kinds = front_back (map kind_of r.points) before.kinds after.kinds (ap (λ (x : Lists). x.kinds) d);
  keys = front_back (map key_of r.points) before.keys after.keys (ap (λ (x : Lists). x.keys) d);
  payloads = front_back (map payload_of r.points) before.payloads after.payloads (ap (λ (x : Lists). x.payloads) d);
  lows = front_back (map low_of r.scans) before.lows after.lows (ap (λ (x : Lists). x.lows) d);
  highs = front_back (map high_of r.scans) before.highs after.highs (ap (λ (x : Lists). x.highs) d);
}

-- Lists of numbers that fit their types are written, with a size, and the bytes written, as many as the size says, are read into any lists
-- with room: the reader gives the snapshot and the counts of what was written, and the lists written stand at the fronts.
pub lists_written_read_back : (snapshot : ℕ) (l : Lists) → Fitting snapshot l
    → (output left : List ℕ) (size : ℕ) → write_outcome (Ok size) left ≡ write_of (record_of snapshot l) output
    → (before after : Lists) (q : Result Reading Answer) → HasRoom l before → Reader.read_outcome q after ≡ read_of (parse (take size left)) before
    → ReadBack snapshot l q after
lists_written_read_back snapshot l fits output left size written before after q room reading =
    written_inv (record_of snapshot l) output left size written λ r is long.
    let v = record_of_valid snapshot l r fits is in
    let (s, own) = lists_record_of snapshot l r is in
    let (x, y) =
    write_read r v output left (Ok size) (written ∙ ap (λ (o : Option Rec). write_of o output) (is ∙ sym (record_of_lists r v))) long
    before after q reading (room_roomy r before (subst (λ (k : Lists). HasRoom k before) own room)) in
    subst (λ (k : Lists). ReadBack snapshot k q after) (sym own) (subst (λ (n : ℕ). ReadBack n (lists_of r) q after) s (record_back r before after q x y))
