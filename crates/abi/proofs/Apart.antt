-- The numbers tell the cases apart: what C is given says which case of the enum stood behind it, where the record in force lies, and why a record
-- gets its answer.
-- Assumes nothing.
use Prim.Native.Nat.{ℕ, ◌-◌, ◌≤◌}
use mathlib.Core.Path.{◌≡◌, refl, ap, subst}
use mathlib.Core.Bool.{Bool, cond}
use mathlib.Core.Option.{Option, none, some}
use mathlib.Core.List.{List}
use native.Mathlib.Omega.{arith}
use lib.ListN.{length, take, drop}
use lib.Seq.{take-length, length-take-le}
use Rattle.record.specs.Record.{Rec}
use Rattle.record.specs.Parse.{parse}
use Rattle.rules.specs.State.{Entry, State, Lawful}
use Rattle.rules.proofs.Finding.{find_of}
use Rattle.rules.specs.Verdict.{Verdict, committed, conflict, too_old, no_room, malformed, ahead, positions_used_up, verdict}
use Rattle.rules.specs.Lookup.{Seen, absent, found, find, payload_at, seen, lookup}
use Rattle.pool.specs.Image.{Arrangement, Image, state_of}
use Rattle.record_log.specs.declared.found.Cut.{Cut}
use Rattle.record_log.specs.declared.found.Cut.TheVariants.{End, Torn, Impossible, Record}
use Rattle.record_log.specs.Log.{cut_at, part_of}
use Rattle.record_log.proofs.Stands.{record_tells}
use Rattle.record_abi.specs.Numbers.{answer}
use Rattle.in_force.specs.InForce.{Source, original, refreshed, nothing, source_of, bytes_from}
use Rattle.meld.specs.Lookups.{lookup_of}
use Rattle.reason.specs.declared.told.Touch.{Touch}
use Rattle.reason.specs.declared.told.Touch.TheVariants.{Point, Scan}
use Rattle.reason.specs.declared.told.Reason.{Reason}
use Rattle.reason.specs.Reason.{IsNumber, first, later, TouchedBy, by_point, by_scan, ReasonFor, TrueReason}
use Rattle.abi.specs.declared.numbers.LookupNumbers.{LookupNumbers}
use Rattle.abi.specs.Numbers as Numbers
use Rattle.abi.specs.Told.{LooksUpAs, LookupTells, in_refreshed, InForceAs, ExplainsInNumbers, TouchTells, is_point, is_scan, ReasonTells, ExplainTells}

-- A LOOKUP

-- what is absent is not found
absent_not_found : {P : Type 0} {x w : ℕ} → absent ≡ found x w → P
absent_not_found e = let z : ◌≡◌ {A = ℕ} 0 1 = cc in absurd (omega arith)

-- a write's position is at least 1
pub position_least : (S : State) → Lawful S → (k x w : ℕ) → lookup k S ≡ found x w → 1 ≤ w
unfolding lookup
position_least S l k x w h = of_find (find k S.kept) refl h
  where
    of_payload : (e : Entry) → 1 ≤ e.position → (y : Option ℕ) → payload_at e.position y ≡ found x w → 1 ≤ w
    of_payload e g none h = absent_not_found h
    of_payload e g (some y) h = let z : e.position ≡ w = cc in omega arith

    of_find : (o : Option Entry) → find k S.kept ≡ o → seen o ≡ found x w → 1 ≤ w
    of_find none q h = absent_not_found h
    of_find (some e) q h = of_payload e (l.positions e (find_of k S.kept q)).0 e.payload h

pub lookup_tells : (m : List ℕ) (k n x w : ℕ) → LooksUpAs m k (Numbers.looked_up n x w) → LookupTells m k n x w
lookup_tells m k n x w h =
    record {
      unfit = λ e f. not_seven e (lookup k (state_of f.arrangement)) (h.fit f.arrangement f.image);
      absent_is = λ _ e A i. no_position e A i (lookup k (state_of A)) refl (h.fit A i);
      found_is = λ _ g A i. some_position g (lookup k (state_of A)) (h.fit A i);
    }
  where
    not_seven : n ≡ 7 → (s : Seen) → Numbers.looked_up n x w ≡ Numbers.of_lookup (lookup_of s) → ⊥
    not_seven e absent q = let z : n ≡ 0 = ap (λ (t : LookupNumbers). t.number) q in omega arith
    not_seven e (found y v) q = let z : n ≡ 0 = ap (λ (t : LookupNumbers). t.number) q in omega arith

    no_position : w ≡ 0 → (A : Arrangement) → Image m A → (s : Seen) → lookup k (state_of A) ≡ s
        → Numbers.looked_up n x w ≡ Numbers.of_lookup (lookup_of s) → s ≡ absent
    no_position e A i absent is q = refl
    no_position e A i (found y v) is q =
        let z : w ≡ v = ap (λ (t : LookupNumbers). t.position) q in
        let g : 1 ≤ v = position_least (state_of A) i.arranged.lawful k y v is in
        absurd (omega arith)

    some_position : 1 ≤ w → (s : Seen) → Numbers.looked_up n x w ≡ Numbers.of_lookup (lookup_of s) → s ≡ found x w
    some_position g absent q = let z : w ≡ 0 = ap (λ (t : LookupNumbers). t.position) q in absurd (omega arith)
    some_position g (found y v) q =
        let z : x ≡ y = ap (λ (t : LookupNumbers). t.payload) q in
        let u : w ≡ v = ap (λ (t : LookupNumbers). t.position) q in
        cc

-- THE RECORD IN FORCE

-- what the log rule finds at the front is as many of the first bytes as it is long
front_part : (b : List ℕ) (c : Cut) → cut_at b 0 ≡ c → take (length (part_of c b 0)) (drop 0 b) ≡ part_of c b 0
front_part b End is = refl
front_part b Torn is = refl
front_part b Impossible is = refl
front_part b (Record next) is =
    let inside = (record_tells b 0 next is).inside in
    ap (λ (j : ℕ). take j (drop 0 b)) (length-take-le (next - 0) (drop 0 b) (omega arith))

-- the slice that is told, from the offset on and so long, holds the bytes that `in_force` hands back
pub in_force_tells : (n : ℕ) (o b : List ℕ) (r : Bool) (offset size : ℕ) → InForceAs n o b r offset size
    → take size (drop offset (cond r b o)) ≡ bytes_from (source_of (answer n) b) o b
in_force_tells n o b r offset size h = rw (h.slice, h.start, h.bytes) (of_source (source_of (answer n) b))
  where
    of_source : (s : Source) → take (length (bytes_from s o b)) (drop 0 (cond (in_refreshed s) b o)) ≡ bytes_from s o b
    of_source original = take-length o
    of_source refreshed = front_part b (cut_at b 0) refl
    of_source nothing = refl

-- THE REASON

-- numbers in a list begin at 1
pub number_least : {A : Type 0} {x : A} {i : ℕ} {xs : List A} → IsNumber x i xs → 1 ≤ i
number_least first = omega arith
number_least (later h) = omega arith

-- exactly one of the two is above 0
touch_tells : (r : Rec) (k : ℕ) (t : Touch) → TouchedBy r k t → TouchTells r k (Numbers.of_touch t).point (Numbers.of_touch t).scan
touch_tells r k (Point i) (by_point n e) = is_point (number_least n) (by_point n e)
touch_tells r k (Scan i) (by_scan others n a b) = is_scan (number_least n) (by_scan others n a b)

-- so the numbers are those of the true reason
reason_tells : (S : State) (r : Rec) (x : Reason) (v : Verdict) → ReasonFor S r x v → ReasonTells S r (Numbers.of_reason x) v
reason_tells S r x committed h = ap Numbers.reason_numbers h
reason_tells S r x conflict h =
    record {
      e = h.e;
      smallest = h.smallest;
      point = (Numbers.of_touch h.touch).point;
      scan = (Numbers.of_touch h.touch).scan;
      touched = touch_tells r h.e.key h.touch h.touched;
      told = ap Numbers.reason_numbers h.tells;
    }
reason_tells S r x too_old h = ap Numbers.reason_numbers h
reason_tells S r x no_room h = ap Numbers.reason_numbers h
reason_tells S r x malformed h = ap Numbers.reason_numbers h
reason_tells S r x ahead h = ap Numbers.reason_numbers h
reason_tells S r x positions_used_up h = ap Numbers.reason_numbers h

-- all eight numbers, for any bytes
pub explain_tells : (m bytes : List ℕ) (t : Numbers.ExplainedNumbers) → ExplainsInNumbers m bytes t → ExplainTells m bytes t
explain_tells m bytes t h = rw h.told
    record {
      unfit = λ u. ap Numbers.of_explained (h.explains.unfit u);
      as_melded = λ A i. (h.explains.fit A i).as_melded;
      no_record = λ A i is. ap Numbers.reason_numbers (true_of A i none is);
      reason_is = λ A i r is. reason_tells (state_of A) r h.said.reason (verdict (state_of A) (some r)) (true_of A i (some r) is);
    }
  where
    true_of : (A : Arrangement) → Image m A → (o : Option Rec) → parse bytes ≡ o → TrueReason (state_of A) o h.said.reason
    true_of A i o is = subst (λ (x : Option Rec). TrueReason (state_of A) x h.said.reason) is (h.explains.fit A i).true_reason
