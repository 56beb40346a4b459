-- Refresh (R38), over states: 4, 5, 2, 1, 0 in this order. (7 and 8 concern bytes.)
-- Assumes nothing: these are definitions.
use Rattle.std.specs.Prelude.{ℕ, ◌-◌, ◌≤◌, ◌≡◌, not, List, [], ◌∷◌, T}
use Rattle.std.proofs.Math.Option.{Option, none, some}
use Rattle.record.specs.Record.{Rec}
use Rattle.record.specs.Answer as Names
use Rattle.record.specs.declared.answer.Answer.{Answer}
use Rattle.rules.specs.State.{State}
use Rattle.rules.specs.Footprint.{reach}
use Rattle.rules.specs.Verdict.{Verdict, committed, conflict, too_old, no_room, malformed, ahead, positions_used_up, verdict_answer, conflicts, refusal_or}

-- R38: the same record with another snapshot
abbrev pub with_snapshot : ℕ → Rec → Rec
with_snapshot s r = record { snapshot = s; points = r.points; scans = r.scans }

-- R38: a record on 0, the answer otherwise
pub data Refreshed : Type 0 where
  done : Rec → Refreshed
  refused : Verdict → Refreshed

-- R3: its number
abbrev pub refreshed_answer : Refreshed → Answer
refreshed_answer (done r) = Names.committed
refreshed_answer (refused a) = verdict_answer a

-- R38: this record on 0, the answer otherwise
abbrev pub on_zero : Rec → Verdict → Refreshed
on_zero r committed = done r
on_zero r conflict = refused conflict
on_zero r too_old = refused too_old
on_zero r no_room = refused no_room
on_zero r malformed = refused malformed
on_zero r ahead = refused ahead
on_zero r positions_used_up = refused positions_used_up

-- R38: 5, 2 and 1 as in a meld, and else the record with snapshot p; it asks neither for a position nor for room
unfoldable pub refresh : State → Option Rec → Refreshed
refresh S none = refused malformed
refresh S (some r) = on_zero (with_snapshot S.p r) (refusal_or S r.snapshot (reach r) committed)

-- R38: r is neither ahead nor too old, nothing conflicts, and r' is the same record with snapshot p
pub record Refreshes (S : State) (r r' : Rec) : Type 0 where
  pub not_ahead : r.snapshot ≤ S.p
  pub not_too_old : S.p - r.snapshot ≤ S.Z
  pub no_conflict : T (not (conflicts S r))
  pub snapshot_p : r'.snapshot ≡ S.p
  pub same_points : r'.points ≡ r.points
  pub same_scans : r'.scans ≡ r.scans

-- R40: on with the refreshed record, or the refusal
abbrev pub and_then : Refreshed → (Rec → Refreshed) → Refreshed
and_then (done r) f = f r
and_then (refused a) f = refused a

-- R40: refreshed at one state after the other, as long as none refuses
unfoldable pub chain : List State → Rec → Refreshed
chain [] r = done r
chain (S ∷ Ss) r = and_then (refresh S (some r)) (chain Ss)
