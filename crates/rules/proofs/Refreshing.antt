-- What refresh gives (R38), as facts. None of them asks for a position left.
-- Assumes nothing.
use Prim.Native.Nat.{ℕ, ◌-◌, ◌≤◌, ◌<◌}
use native.Mathlib.Omega.{arith}
use mathlib.Core.Path.{◌≡◌, sym, ap, ◌∙◌}
use mathlib.Core.Logic.{◌↔◌}
use mathlib.Core.Bool.{Bool, true, false, not}
use mathlib.Core.Option.{Option, none, some}
use lib.Dec.{T, ltb, nltb→le}
use Rattle.record.specs.Record.{Rec, Valid}
use Rattle.std.specs.Prelude.{if◌then◌else◌}
use Rattle.rules.specs.State.{State, last_position}
use Rattle.rules.specs.Verdict.{Verdict, committed, conflict, too_old, ahead, conflicts, refusal_or, no_room_or_committed, judge, verdict}
use Rattle.rules.specs.Refresh.{with_snapshot, Refreshed, done, refused, refreshed_answer, on_zero, refresh, Refreshes}
use Rattle.rules.proofs.Tests.{if_ind, is_false, no_le}
use Rattle.rules.proofs.Near.{refresh_near}

-- equal results have equal answer numbers
same_number : {a b : Refreshed} → a ≡ b → (refreshed_answer a).number ≡ (refreshed_answer b).number
same_number e = ap (λ (x : Refreshed). (refreshed_answer x).number) e

-- a record refreshed without refusal
same_record : {S : State} {r r' : Rec} → r.snapshot ≤ S.p → S.p - r.snapshot ≤ S.Z → T (not (conflicts S r)) → done (with_snapshot S.p r) ≡ done r' → Refreshes S r r'
same_record {S} {r} {r'} a b c e = let q : r' ≡ with_snapshot S.p r = cc in record {
  not_ahead = a;
  not_too_old = b;
  no_conflict = c;
  snapshot_p = ap (λ (x : Rec). x.snapshot) q;
  same_points = ap (λ (x : Rec). x.points) q;
  same_scans = ap (λ (x : Rec). x.scans) q;
}

-- refresh answers 0 exactly if nothing refuses, and gives the same record with snapshot p
pub refresh_exactly : (S : State) (r r' : Rec) → (refresh S (some r) ≡ done r') ↔ Refreshes S r r'
unfolding refresh refusal_or
refresh_exactly S r r' = (
  if_ind G (ltb S.p r.snapshot) (λ _ e. absurd (omega (arith, same_number e))) (λ a.
      if_ind G (ltb S.Z (S.p - r.snapshot)) (λ _ e. absurd (omega (arith, same_number e))) (λ b.
      if_ind G (conflicts S r) (λ _ e. absurd (omega (arith, same_number e)))
      (λ c e. same_record (nltb→le S.p r.snapshot a) (nltb→le S.Z (S.p - r.snapshot) b) c e))),
  λ w. refresh_near S r w.not_ahead (omega (arith, w.not_ahead, w.not_too_old)) ∙ rw (is_false (conflicts S r) w.no_conflict) (ap done (back w)),
)
  where
    G : Verdict → Type 0
    G a = on_zero (with_snapshot S.p r) a ≡ done r' → Refreshes S r r'

    back : Refreshes S r r' → with_snapshot S.p r ≡ r'
    back w = λ i. record { snapshot = sym w.snapshot_p i; points = sym w.same_points i; scans = sym w.same_scans i }

-- a refreshed record is well formed
pub refreshed_valid : (S : State) {r r' : Rec} → S.p ≤ last_position → Valid r → refresh S (some r) ≡ done r' → Valid r'
refreshed_valid S {r} {r'} l v e = let w = (refresh_exactly S r r').0 e in record {
  snapshot_fits = omega (arith, w.snapshot_p);
  few_points = rw w.same_points v.few_points;
  few_scans = rw w.same_scans v.few_scans;
  rising = rw w.same_points v.rising;
  apart = rw w.same_scans v.apart;
}

-- what refuses a refresh refuses a meld, whatever else the meld would answer
first_answer : (b₁ b₂ b₃ : Bool) (c a : Verdict) (r' : Rec)
    → on_zero r' (if b₁ then ahead else if b₂ then too_old else if b₃ then conflict else committed) ≡ refused a
    → (if b₁ then ahead else if b₂ then too_old else if b₃ then conflict else c) ≡ a
first_answer true b₂ b₃ c a r' e = cc
first_answer false true b₃ c a r' e = cc
first_answer false false true c a r' e = cc
first_answer false false false c a r' e = let z : ◌≡◌ {A = ℕ} 0 1 = cc in absurd (omega arith)

-- a refusal is what melding at that state would say, where a position is left
pub refused_as_meld : (S : State) (m : Option Rec) {a : Verdict} → S.p < last_position → refresh S m ≡ refused a → verdict S m ≡ a
unfolding refresh verdict judge refusal_or
refused_as_meld S none l e = rw (no_le {a = last_position} {b = S.p} l) (cc)
refused_as_meld S (some r) {a} l e = rw (no_le {a = last_position} {b = S.p} l)
    (first_answer (ltb S.p r.snapshot) (ltb S.Z (S.p - r.snapshot)) (conflicts S r) (no_room_or_committed S r.points) a (with_snapshot S.p r) e)
