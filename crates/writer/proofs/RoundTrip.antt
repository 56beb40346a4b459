-- The round trip on the functions' own promises: what is written is read back the same, and what is read is written back the same.
-- Assumes nothing.
use Prim.Native.Nat.{ℕ, ◌≤◌}
use mathlib.Core.Path.{◌≡◌, refl, sym, ap, ◌∙◌}
use mathlib.Core.Bool.{true}
use mathlib.Core.Option.{Option, none, some}
use mathlib.Core.List.{List, map}
use native.Mathlib.Omega.{arith}
use lib.ListN.{length, take, drop, length-map}
use lib.Seq.{take-append_seam}
use borrow.Author.Tests.{le-leb}
use Rattle.words.specs.Word.{Bytes}
use Rattle.record.specs.declared.answer.Answer.{Answer}
use Rattle.record.specs.declared.reader.Reading.{Reading}
use Rattle.record.specs.Answer.{given, output_short}
use Rattle.record.specs.Record.{Rec, kind_of, key_of, payload_of, bytes_of, Valid}
use Rattle.record.specs.Parse.{parse}
use Rattle.record.specs.Reader.{Lists, low_of, high_of, front, roomy, filled, reading_of, read_of, fronts}
use Rattle.record.specs.Reader as Reader
use Rattle.record.proofs.Cases.{by_case}
use Rattle.record.proofs.Results.{ok_is_no_err, ok_same}
use Rattle.record.proofs.RoundTrip.{parse_bytes_of, bytes_of_parse}
use Rattle.std.specs.Prelude.{Result, Ok, Err}
use Rattle.writer.specs.Writer.{record_of, lists_of, WriteOutcome, write_outcome, written_of, write_of}
use Rattle.writer.proofs.Names.{record_of_lists, lists_same}

-- WHAT THE PROMISES GIVE FOR A RECORD

-- lists with room are filled
read_some : (r : Rec) (l : Lists) → roomy r l ≡ true → read_of (some r) l ≡ Reader.read_outcome (Ok (reading_of r)) (filled r l)
unfolding read_of
read_some r l h = simp h

-- an output with room is written
write_some : (r : Rec) (output : List ℕ) → length (bytes_of r) ≤ length output → write_of (some r) output ≡ write_outcome (written_of (bytes_of r)) (front (bytes_of r) output)
unfolding write_of
write_some r output h = simp (le-leb _ _ h)

-- the front of a list is what was put there
take_front : (n : ℕ) (vs l : List ℕ) → length vs ≡ n → take n (front vs l) ≡ vs
take_front n vs l e = ap (λ (k : ℕ). take k (front vs l)) (sym e) ∙ take-append_seam vs (drop (length vs) l)

-- the fronts of lists that were filled are the record's own lists
fronts_filled : (r : Rec) (l : Lists) → fronts (reading_of r) (filled r l) ≡ lists_of r
fronts_filled r l =
    lists_same _ _ _ _ _ _ _ _ _ _
    (take_front (length r.points) (map kind_of r.points) l.kinds (length-map r.points kind_of))
    (take_front (length r.points) (map key_of r.points) l.keys (length-map r.points key_of))
    (take_front (length r.points) (map payload_of r.points) l.payloads (length-map r.points payload_of))
    (take_front (length r.scans) (map low_of r.scans) l.lows (length-map r.scans low_of))
    (take_front (length r.scans) (map high_of r.scans) l.highs (length-map r.scans high_of))

-- WRITE, THEN READ

-- A valid record's lists are written to an output with room, and the bytes written are read into lists with room:
-- the reader answers 0 with the record's snapshot and counts, and the record stands in the lists.
pub write_read : (r : Rec) → Valid r → (output left : List ℕ) (w : Result ℕ Answer) → write_outcome w left ≡ write_of (record_of r.snapshot (lists_of r)) output
    → length (bytes_of r) ≤ length output → (before after : Lists) (q : Result Reading Answer) → Reader.read_outcome q after ≡ read_of (parse (take (given w) left)) before
    → roomy r before ≡ true → (q ≡ Ok (reading_of r)) × (after ≡ filled r before)
write_read r v output left w written room before after q reading roomy-is =
    let e : write_outcome w left ≡ write_outcome (written_of (bytes_of r)) (front (bytes_of r) output) =
    written ∙ ap (λ (x : Option Rec). write_of x output) (record_of_lists r v) ∙ write_some r output room in
    let bytes : take (given w) left ≡ bytes_of r = ap (λ (o : WriteOutcome). take (given o.written) o.left) e ∙ take_front (length (bytes_of r)) (bytes_of r) output refl in
    let f : Reader.read_outcome q after ≡ Reader.read_outcome (Ok (reading_of r)) (filled r before) =
    reading ∙ ap (λ (b : List ℕ). read_of (parse b) before) bytes ∙ ap (λ (x : Option Rec). read_of x before) (parse_bytes_of r v) ∙ read_some r before roomy-is in
    (ap (λ (o : Reader.ReadOutcome). o.reading) f, ap (λ (o : Reader.ReadOutcome). o.left) f)

-- READ, THEN WRITE

-- a reading that was no refusal has read a record
read_inv : {P : Type 0} (x : Option Rec) (before after : Lists) (q : Reading) → Reader.read_outcome (Ok q) after ≡ read_of x before
    → ((r : Rec) → x ≡ some r → q ≡ reading_of r → after ≡ filled r before → P) → P
unfolding read_of
read_inv none before after q e k = ok_is_no_err (ap (λ (o : Reader.ReadOutcome). o.reading) e)
read_inv (some r) before after q e k =
    by_case (roomy r before)
    (λ h.
    let f : Reader.read_outcome (Ok q) after ≡ Reader.read_outcome (Ok (reading_of r)) (filled r before) = e ∙ simp h in
    k r refl (ok_same (ap (λ (o : Reader.ReadOutcome). o.reading) f)) (ap (λ (o : Reader.ReadOutcome). o.left) f))
    (λ h.
    let f : Reader.read_outcome (Ok q) after ≡ Reader.read_outcome (Err output_short) before = e ∙ simp h in
    ok_is_no_err (ap (λ (o : Reader.ReadOutcome). o.reading) f))

-- Bytes are read with answer 0, and what then stands at the fronts of the lists is written to an output with room:
-- the writer gives the bytes' number, and the same bytes stand at the front of the output, the rest as before.
pub read_write : (bytes : List ℕ) → Bytes bytes → (before after : Lists) (q : Reading) → Reader.read_outcome (Ok q) after ≡ read_of (parse bytes) before
    → (output left : List ℕ) (w : Result ℕ Answer) → write_outcome w left ≡ write_of (record_of q.snapshot (fronts q after)) output → length bytes ≤ length output
    → (w ≡ written_of bytes) × (left ≡ front bytes output)
read_write bytes y before after q reading output left w written room =
    read_inv (parse bytes) before after q reading λ r is q-is after_is.
    let both : Valid r × (bytes ≡ bytes_of r) = bytes_of_parse bytes r y is in
    let record_is : record_of q.snapshot (fronts q after) ≡ some r =
    ap (λ (p : Reading). record_of p.snapshot (fronts p after)) q-is ∙ ap (λ (l : Lists). record_of r.snapshot (fronts (reading_of r) l)) after_is
    ∙ ap (record_of r.snapshot) (fronts_filled r before) ∙ record_of_lists r both.0 in
    let e : write_outcome w left ≡ write_outcome (written_of bytes) (front bytes output) =
    written ∙ ap (λ (x : Option Rec). write_of x output) record_is ∙ write_some r output (omega (arith, ap length both.1))
    ∙ ap (λ (b : List ℕ). write_outcome (written_of b) (front b output)) (sym both.1) in
    (ap (λ (o : WriteOutcome). o.written) e, ap (λ (o : WriteOutcome). o.left) e)
