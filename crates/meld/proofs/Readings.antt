-- What `read` leaves in lists that have room for the record: a refusal of malformed bytes, or the record's own lists at their fronts.
-- Assumes nothing.
use Prim.Native.Nat.{ℕ, ◌+◌, ◌≤◌}
use mathlib.Core.Path.{◌≡◌, refl, sym, ap, ◌∙◌}
use mathlib.Core.Option.{Option, none, some}
use mathlib.Core.List.{List, map}
use native.Mathlib.Omega.{arith}
use lib.ListN.{length, take, drop, length-map, length-append}
use lib.Seq.{take_at}
use Rattle.std.specs.Prelude.{Result, Ok, Err}
use Rattle.words.specs.Word.{Bytes}
use Rattle.record.specs.declared.answer.Answer.{Answer}
use Rattle.record.specs.declared.reader.Reading.{Reading}
use Rattle.record.specs.Record.{Rec, kind_of, key_of, payload_of}
use Rattle.record.specs.Parse.{parse}
use Rattle.record.specs.Reader.{Lists, ReadOutcome, read_outcome, front, RoomFor, filled, reading_of, read_of, low_of, high_of}
use Rattle.record.proofs.RoundTrip.{bytes_of_parse}
use Rattle.record.proofs.Results.{ok_is_no_err, ok_same}
use Rattle.meld.specs.Lists.{Names}

-- a list whose front was filled: that stands there, and lies inside
filled_at : {A : Type 0} (f : A → ℕ) (xs : List A) (l l' : List ℕ) (n : ℕ) → l' ≡ front (map f xs) l → n ≡ length xs → (take n l' ≡ map f xs) × (n ≤ length l')
filled_at f xs l l' n e h =
    let long : length l' ≡ length (map f xs) + length (drop (length (map f xs)) l) = ap length e ∙ length-append (map f xs) (drop (length (map f xs)) l) in
    (rw e (take_at (map f xs) (drop (length (map f xs)) l) n (length-map xs f ∙ sym h)), omega (arith, long, length-map xs f, h))

-- what was read where the bytes are a record: that record, and that the fronts of the lists are its own
pub record Got (bs : List ℕ) (after : Lists) (d : Reading) : Type 0 where
  pub r : Rec
  pub is : parse bs ≡ some r
  pub names : Names d.snapshot (take d.points after.kinds) (take d.points after.keys) (take d.points after.payloads) (take d.scans after.lows) (take d.scans after.highs) r
  pub kinds_inside : d.points ≤ length after.kinds
  pub keys_inside : d.points ≤ length after.keys
  pub payloads_inside : d.points ≤ length after.payloads
  pub lows_inside : d.scans ≤ length after.lows
  pub highs_inside : d.scans ≤ length after.highs

module _ (bs : List ℕ) (bytes : Bytes bs) (before after : Lists) (room : RoomFor bs before)
    (q : Result Reading Answer) (e : read_outcome q after ≡ read_of (parse bs) before) where
  -- a record was read
  was_read : (r : Rec) → parse bs ≡ some r → read_outcome q after ≡ read_outcome (Ok (reading_of r)) (filled r before)
  unfolding read_of
  was_read r p = e ∙ simp (p, room r p)

  pub read_none : (a : Answer) → q ≡ Err a → parse bs ≡ none
  read_none a h = go (parse bs) refl
    where
      go : (o : Option Rec) → parse bs ≡ o → o ≡ none
      go none p = refl
      go (some r) p = ok_is_no_err (sym (ap (λ (o : ReadOutcome). o.reading) (was_read r p)) ∙ h)

  pub read_some : (d : Reading) → q ≡ Ok d → Got bs after d
  unfolding read_of
  read_some d h = go (parse bs) refl
    where
      go : (o : Option Rec) → parse bs ≡ o → Got bs after d
      go none p =
          let refused : read_outcome q after ≡ read_of none before = e ∙ ap (λ (o : Option Rec). read_of o before) p in
          ok_is_no_err (sym h ∙ ap (λ (o : ReadOutcome). o.reading) refused)
      go (some r) p =
          let f : read_outcome q after ≡ read_outcome (Ok (reading_of r)) (filled r before) = was_read r p in
          let same : d ≡ reading_of r = ok_same (sym h ∙ ap (λ (o : ReadOutcome). o.reading) f) in
          let n : d.points ≡ length r.points = ap (λ (x : Reading). x.points) same in
          let k : d.scans ≡ length r.scans = ap (λ (x : Reading). x.scans) same in
          let kinds = filled_at kind_of r.points before.kinds after.kinds d.points (ap (λ (o : ReadOutcome). o.left.kinds) f) n in
          let keys = filled_at key_of r.points before.keys after.keys d.points (ap (λ (o : ReadOutcome). o.left.keys) f) n in
          let payloads = filled_at payload_of r.points before.payloads after.payloads d.points (ap (λ (o : ReadOutcome). o.left.payloads) f) n in
          let lows = filled_at low_of r.scans before.lows after.lows d.scans (ap (λ (o : ReadOutcome). o.left.lows) f) k in
          let highs = filled_at high_of r.scans before.highs after.highs d.scans (ap (λ (o : ReadOutcome). o.left.highs) f) k in
          record {
            r = r;
            is = p;
            names = record {
              valid = (bytes_of_parse bs r bytes p).0;
              snapshot_is = ap (λ (x : Reading). x.snapshot) same;
              kinds_are = kinds.0;
              keys_are = keys.0;
              payloads_are = payloads.0;
              lows_are = lows.0;
              highs_are = highs.0;
            };
            kinds_inside = kinds.1;
            keys_inside = keys.1;
            payloads_inside = payloads.1;
            lows_inside = lows.1;
            highs_inside = highs.1;
          }
