-- No second answer, for every public function, in one place. Where the promise is an equation it is the one law `one_if_equal`.
-- The slices that `part`, `part_at` and `in_force` give back are the same bytes at the same place of the same memory (`SameSlice`); the
-- name under which the logic tracks a slice stays open, and no program sees it.
-- Assumes nothing.
use Prim.Native.Nat.{ℕ}
use mathlib.Core.Path.{◌≡◌, sym, ap, ◌∙◌}
use mathlib.Core.Bool.{Bool}
use mathlib.Core.List.{List, [], ◌∷◌, map}
use denote.Ref.{Bor}
use Rattle.words.specs.Word.{Bytes}
use Rattle.std.specs.Prelude.{Result}
use Rattle.record.specs.declared.answer.Answer.{Answer}
use Rattle.record.specs.declared.point.Point.{Point}
use Rattle.record.specs.declared.point.Scan.{Scan}
use Rattle.record.specs.declared.reader.Reading.{Reading}
use Rattle.record.specs.Record.{kind_of, key_of, size_of, payload_of, KindIs, KeyIs, SizeIs, PayloadIs}
use Rattle.record.specs.Parse.{parse, check_of, CheckIs}
use Rattle.record.specs.Reader.{Lists, lists, low_of, high_of, ReadOutcome, read_outcome, ReadsAs}
use Rattle.writer.specs.Writer.{WriteOutcome, write_outcome, WritesAs}
use Rattle.pairs.specs.Pairs.{PairsWritten, OneWritten}
use Rattle.joiner.specs.Joiner.{JoinsAs}
use Rattle.joiner.proofs.Only.{only_join}
use Rattle.record_log.specs.declared.found.Cut.{Cut}
use Rattle.record_log.specs.Log.{impossible, CutIs, HandedOut, SameSlice}
use Rattle.record_log.proofs.Only.{only_cut, only_part}
use Rattle.log_reader.specs.declared.LogReader.{LogReader}
use Rattle.log_reader.specs.declared.Step.{Step}
use Rattle.log_reader.specs.declared.Move.{Move}
use Rattle.log_reader.specs.LogReader.{Opened, PlaceIs, Stepped, SameStep, Moved}
use Rattle.log_reader.proofs.Only.{only_new, only_step, only_step_at}
use Rattle.pool.specs.Image.{Fit}
use Rattle.fit.specs.Whole.{Decides}
use Rattle.fit.proofs.Promises as Fitness
use Rattle.create.specs.Fresh.{Created}
use Rattle.create.proofs.Only as Creation
use Rattle.meld.specs.declared.kept.Lookup.{Lookup}
use Rattle.meld.specs.declared.kept.Status.{Status}
use Rattle.meld.specs.declared.melding.Melded.{Melded}
use Rattle.meld.specs.Lookups.{LooksUp}
use Rattle.meld.specs.Statuses.{StatusIs}
use Rattle.meld.specs.Melds.{Melds}
use Rattle.meld.proofs.Only.{only_meld, only_lookup, only_status}
use Rattle.refresh.specs.Refreshed.{RefreshIs}
use Rattle.refresh.proofs.Only.{refresh_only}
use Rattle.in_force.specs.InForce.{InForce}
use Rattle.in_force.proofs.Only.{in_force_only}
use Rattle.pages.specs.declared.told.Fed.{Fed}
use Rattle.pages.specs.Pages.{Feeds}
use Rattle.pages.proofs.Only.{only_feed}
use Rattle.reason.specs.declared.told.Explained.{Explained}
use Rattle.reason.specs.Reason.{Explains}
use Rattle.reason.proofs.Only.{only_explain}
use Rattle.demands.specs.Answers.{OneAnswer}

-- WHERE THE PROMISE IS AN EQUATION

-- what equals one thing is one
pub one_if_equal : {A : Type 0} (z : A) → OneAnswer (λ (x : A). x ≡ z)
one_if_equal z x y e f = e ∙ sym f

pub check_one : (bytes : List ℕ) → OneAnswer (CheckIs bytes)
check_one bytes = one_if_equal (check_of (parse bytes))

pub is_impossible_one : (length : ℕ) → OneAnswer (λ (b : Bool). b ≡ impossible length)
is_impossible_one length = one_if_equal (impossible length)

pub kind_one : (q : Point) → OneAnswer (KindIs q)
kind_one q = one_if_equal (kind_of q)

pub key_one : (q : Point) → OneAnswer (KeyIs q)
key_one q = one_if_equal (key_of q)

pub size_one : (q : Point) → OneAnswer (SizeIs q)
size_one q = one_if_equal (size_of q)

pub payload_one : (q : Point) → OneAnswer (PayloadIs q)
payload_one q = one_if_equal (payload_of q)

pub place_one : (reader : LogReader) → OneAnswer (λ (n : ℕ). PlaceIs reader n)
place_one reader = one_if_equal reader.place

-- WHERE IT IS MORE

-- the reading and all five lists
pub read_one : (bytes : List ℕ) (before : Lists) → OneAnswer (λ (x : Result Reading Answer × Lists). ReadsAs bytes before x.0 x.1)
read_one bytes before x y p q =
    let e : read_outcome x.0 x.1 ≡ read_outcome y.0 y.1 = p ∙ sym q in
    λ i. (ap (λ (o : ReadOutcome). o.reading) e i, ap (λ (o : ReadOutcome). o.left) e i)

-- what is given back and the whole output
pub write_one : (snapshot : ℕ) (l : Lists) (before : List ℕ) → OneAnswer (λ (x : Result ℕ Answer × List ℕ). WritesAs snapshot l before x.0 x.1)
write_one snapshot l before x y p q =
    let e : write_outcome x.0 x.1 ≡ write_outcome y.0 y.1 = p ∙ sym q in
    λ i. (ap (λ (o : WriteOutcome). o.written) e i, ap (λ (o : WriteOutcome). o.left) e i)

pub write_pairs_one : (snapshot : ℕ) (ks es xs : List ℕ) (cs : List Scan) (before : List ℕ)
    → OneAnswer (λ (x : Result ℕ Answer × List ℕ). PairsWritten snapshot ks es xs cs before x.0 x.1)
write_pairs_one snapshot ks es xs cs before = write_one snapshot (lists ks es xs (map low_of cs) (map high_of cs)) before

pub write_single_one : (snapshot : ℕ) (ks es xs : List ℕ) (c : Scan) (before : List ℕ)
    → OneAnswer (λ (x : Result ℕ Answer × List ℕ). OneWritten snapshot ks es xs c before x.0 x.1)
write_single_one snapshot ks es xs c before = write_one snapshot (lists ks es xs (c.low ∷ []) (c.high ∷ [])) before

-- what is given back and the whole output
pub join_one : (a b before : List ℕ) → OneAnswer (λ (x : Result ℕ Answer × List ℕ). JoinsAs a b before x.0 x.1)
join_one a b before x y p q = let e = only_join a b before x.0 y.0 x.1 y.1 p q in λ i. (e.0 i, e.1 i)

-- the log lent, the same slice, and the place
pub new_one : (log : Bor (List ℕ)) → OneAnswer (λ (r : LogReader). Opened log r)
new_one log = only_new log

pub cut_one : (log : List ℕ) (place : ℕ) → OneAnswer (λ (c : Cut). CutIs log place c)
cut_one log place = only_cut log place

pub step_at_one : (log : List ℕ) (place : ℕ) → OneAnswer (λ (x : Move). Moved log place x)
step_at_one log place = only_step_at log place

pub fit_one : (m : List ℕ) → OneAnswer (λ (r : Bool). Decides (Fit m) r)
fit_one m = Fitness.only (Fit m)

-- the answer and the whole pool
pub create_one : (m : List ℕ) (n z : ℕ) → OneAnswer (λ (x : Answer × List ℕ). Created m n z x.0 x.1)
create_one m n z x y p q = let e = Creation.only m n z x.0 y.0 x.1 y.1 p q in λ i. (e.0 i, e.1 i)

pub lookup_one : (m : List ℕ) (k : ℕ) → Bytes m → OneAnswer (λ (x : Lookup). LooksUp m k x)
lookup_one m k b x y p q = only_lookup m k x y b p q

-- the answer and all five numbers
pub status_one : (m : List ℕ) → Bytes m → OneAnswer (λ (x : Result Status Answer). StatusIs m x)
status_one m b x y p q = only_status m x y b p q

-- answer, looks and the whole pool
pub meld_one : (m bytes : List ℕ) → Bytes m → OneAnswer (λ (x : Melded × List ℕ). Melds m bytes x.1 x.0)
meld_one m bytes b x y p q = let e = only_meld m bytes x.1 y.1 x.0 y.0 b p q in λ i. (e.0 i, e.1 i)

-- all that is told, the whole pool and the whole carry
pub feed_one : (m carry : List ℕ) (carried : ℕ) (part : List ℕ) (over : Bool) → Bytes m
    → OneAnswer (λ (x : Fed × List ℕ × List ℕ). Feeds m carry carried part over x.0 x.1 x.2)
feed_one m carry carried part over b x y p q = let e = only_feed b p q in λ i. (e.0 i, e.1 i, e.2 i)

-- the answer and the whole output
pub refresh_one : (m original before : List ℕ) → OneAnswer (λ (x : Answer × List ℕ). RefreshIs m original before x.0 x.1)
refresh_one m original before x y p q = let e = refresh_only m original before x.0 y.0 x.1 y.1 p q in λ i. (e.0 i, e.1 i)

-- answer, looks and reason
pub explain_one : (m bytes : List ℕ) → Bytes m → Bytes bytes → OneAnswer (λ (x : Explained). Explains m bytes x)
explain_one m bytes lent b x y p q = only_explain m bytes x y lent b p q

-- SLICES

pub part_one : (log : Bor (List ℕ)) (place : ℕ) (r q : Bor (List ℕ)) → HandedOut log place r → HandedOut log place q → SameSlice r q
part_one = only_part

pub step_one : (before after then : LogReader) (r q : Step) → Stepped before after r → Stepped before then q → SameStep r q × (after ≡ then)
step_one = only_step

pub in_force_one : (a : Answer) (o b r q : Bor (List ℕ)) → InForce a o b r → InForce a o b q → SameSlice r q
in_force_one = in_force_only
