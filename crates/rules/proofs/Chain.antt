-- Demand 3: a record refreshed at one or more states of a log, then melded.
-- The idea: with no conflict at a stop, the refreshed record melds as the original at every later place (Places.antt); so stops can be
-- taken away from the front one by one. A conflict at a stop stays one up to the place of the meld.
-- Assumes nothing.
use Prim.Native.Nat.{ℕ, ◌+◌, ◌-◌, ◌≤◌, ◌<◌}
use native.Mathlib.Omega.{arith}
use native.Mathlib.Nat.{le_trans, le_refl}
use mathlib.Core.Path.{◌≡◌, sym, ap, ◌∙◌}
use mathlib.Core.Logic.{⊎_elim}
use mathlib.Core.Bool.{not}
use mathlib.Core.List.{List, [], ◌∷◌, map}
use mathlib.Core.Option.{some}
use lib.Dec.{T}
use lib.ListN.{length}
use Rattle.record.specs.Record.{Rec}
use Rattle.std.specs.Prelude.{if◌then◌else◌}
use Rattle.rules.specs.State.{State, last_position}
use Rattle.rules.specs.Verdict.{Verdict, committed, conflict, too_old, no_room, malformed, ahead, positions_used_up, conflicts, verdict, left, next}
use Rattle.rules.specs.Log.{Log, state_at}
use Rattle.rules.specs.Tree.{looks_for, looks_of}
use Rattle.rules.specs.Refresh.{with_snapshot, Refreshed, done, refused, refresh, and_then, chain}
use Rattle.rules.specs.Demands.{InOrder, last_of}
use Rattle.rules.specs.ChainOutcome.{AnswersAlike, ChainOutcome, stopped, carried}
use Rattle.rules.proofs.Tests.{is_true, is_false, test}
use Rattle.rules.proofs.Near.{refresh_near, verdict_near}
use Rattle.rules.proofs.Places.{place_p, place_Z, stays_conflict, same_conflicts, walks}

-- no more looks in the walk, no more looks reported
looks_for_le : {n' n : ℕ} (a : Verdict) → n' ≤ n → looks_for n' a ≤ looks_for n a
looks_for_le committed h = h
looks_for_le conflict h = h
looks_for_le too_old h = le_refl 0
looks_for_le no_room h = h
looks_for_le malformed h = le_refl 0
looks_for_le ahead h = le_refl 0
looks_for_le positions_used_up h = le_refl 0

module _ (N Z : ℕ) (log : Log) (p : ℕ) (fits : p ≤ length log) (left_over : p < last_position) where
  -- the place has a position
  positions : p ≤ last_position
  positions = omega arith

  -- the state after q records
  abbrev St : ℕ → State
  St q = state_at N Z log q

  -- it stands at position q
  at_p : {q : ℕ} → q ≤ p → (St q).p ≡ q
  at_p = place_p N Z log p fits positions

  -- its zone limit is Z
  at_Z : (q : ℕ) → (St q).Z ≡ Z
  at_Z = place_Z N Z log p fits positions

  -- ONE STOP: THE REFRESHED RECORD MELDS AT p AS THE ORIGINAL DOES

  module _ (r : Rec) (q : ℕ) (low : r.snapshot ≤ q) (top : q ≤ p) (near : p ≤ r.snapshot + Z) (free : T (not (conflicts (St q) r))) where
    -- with the same answer
    same_answer : verdict (St p) (some (with_snapshot q r)) ≡ verdict (St p) (some r)
    same_answer = let e = at_p (le_refl p) in let d = at_Z p in
        verdict_near (St p) (with_snapshot q r) (omega arith) (omega arith) (omega arith)
        ∙ rw (same_conflicts N Z log p fits positions r q p low top (le_refl p) near free) (sym (verdict_near (St p) r (omega arith) (omega arith) (omega arith)))

    -- the refreshed record melds as the original, in no more looks
    melds : AnswersAlike (St p) (with_snapshot q r) r
    unfolding next looks_of
    melds = record {
      answer = same_answer;
      state = ap (left (St p) r.points) same_answer;
      looks_le = rw same_answer (looks_for_le (verdict (St p) (some r)) (walks N Z log p fits positions r q p low top (le_refl p) near free));
    }

  -- what a refresh at q says
  refresh_at : (r : Rec) (q : ℕ) → r.snapshot ≤ q → q ≤ p → q ≤ r.snapshot + Z → refresh (St q) (some r) ≡ (if conflicts (St q) r then refused conflict else done (with_snapshot q r))
  refresh_at r q low top near = let e = at_p top in let d = at_Z q in
      refresh_near (St q) r (omega arith) (omega arith) ∙ rw e

  -- the last stop lies between the first and the place
  last_from : (q : ℕ) (qs : List ℕ) → InOrder q qs p → (q ≤ last_of q qs) × (last_of q qs ≤ p)
  last_from q [] o = (le_refl q, o)
  last_from q (q' ∷ qs) o = let x = last_from q' qs o.1 in (omega arith, x.1)

  -- a conflict at the first stop
  halts : (r : Rec) (q : ℕ) (L : State) (f : Rec → Refreshed) → r.snapshot ≤ q → q ≤ p → p ≤ r.snapshot + Z → T (conflicts (St q) r)
      → ChainOutcome (St p) L r (and_then (refresh (St q) (some r)) f)
  halts r q L f low top near t = let e = at_p (le_refl p) in let d = at_Z p in stopped
      (rw (refresh_at r q low top (omega arith), is_true (conflicts (St q) r) t))
      (verdict_near (St p) r (omega arith) (omega arith) (omega arith)
      ∙ rw (is_true (conflicts (St p) r) (stays_conflict N Z log p fits positions r q p low top (le_refl p) near t)))

  -- without a conflict at q the record goes on with snapshot q
  goes : (r : Rec) (q : ℕ) → r.snapshot ≤ q → q ≤ p → q ≤ r.snapshot + Z → T (not (conflicts (St q) r)) → refresh (St q) (some r) ≡ done (with_snapshot q r)
  goes r q low top near t = rw (refresh_at r q low top near, is_false (conflicts (St q) r) t)

  -- one stop more in front
  longer : (r : Rec) (q k : ℕ) (c : Refreshed) → r.snapshot ≤ q → q ≤ k → k ≤ p → p ≤ r.snapshot + Z → T (not (conflicts (St q) r))
      → ChainOutcome (St p) (St k) (with_snapshot q r) c → ChainOutcome (St p) (St k) r c
  longer r q k c low up top near t (stopped e v) = stopped e (sym (same_answer r q low (le_trans up top) near t) ∙ v)
  longer r q k c low up top near t (carried r' e f m) =
      let w = melds r q low (le_trans up top) near t in
      carried r' e
      (refresh_at r k (omega arith) top (omega arith)
      ∙ rw (← (same_conflicts N Z log p fits positions r q k low up top (omega arith) t)) (sym (refresh_at (with_snapshot q r) k up top (omega arith)) ∙ f))
      (record { answer = m.answer ∙ w.answer; state = m.state ∙ w.state; looks_le = le_trans m.looks_le w.looks_le })

  -- what a chain comes to: q and qs are the stops
  chain_comes_to : (r : Rec) (q : ℕ) (qs : List ℕ) → InOrder r.snapshot (q ∷ qs) p → p ≤ r.snapshot + Z → ChainOutcome (St p) (St (last_of q qs)) r (chain (map St (q ∷ qs)) r)
  unfolding chain
  chain_comes_to r q [] o near = ⊎_elim
      (λ t. halts r q (St q) (chain []) o.0 o.1 near t)
      (λ t. let e = goes r q o.0 o.1 (omega (arith, o.1)) t in carried (with_snapshot q r) (rw e) e (melds r q o.0 o.1 near t))
      (test (conflicts (St q) r))
  chain_comes_to r q (q' ∷ qs) o near = let x = last_from q (q' ∷ qs) o.1 in ⊎_elim
      (λ t. halts r q (St (last_of q' qs)) (chain (map St (q' ∷ qs))) o.0 (omega arith) near t)
      (λ t. rw (goes r q o.0 (omega arith) (omega arith) t)
      (longer r q (last_of q' qs) (chain (map St (q' ∷ qs)) (with_snapshot q r)) o.0 x.0 x.1 near t (chain_comes_to (with_snapshot q r) q' qs o.1 (omega arith))))
      (test (conflicts (St q) r))

-- DEMAND 3

-- N and Z are the limits, p the place, q and qs the stops
pub demand_three : (N Z : ℕ) (log : Log) (p : ℕ) → p ≤ length log → p < last_position
    → (r : Rec) → r.snapshot ≤ p → p - r.snapshot ≤ Z
    → (q : ℕ) (qs : List ℕ) → InOrder r.snapshot (q ∷ qs) p
    → ChainOutcome (state_at N Z log p) (state_at N Z log (last_of q qs)) r (chain (map (state_at N Z log) (q ∷ qs)) r)
demand_three N Z log p fits over r low near q qs o = chain_comes_to N Z log p fits over r q qs o (omega arith)
