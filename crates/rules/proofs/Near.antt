-- Where a record is neither ahead nor too old, verdict and refresh turn on the conflict alone, and nothing else reads the snapshot.
-- Assumes nothing.
use Prim.Native.Nat.{ℕ, ◌+◌, ◌-◌, ◌≤◌, ◌<◌}
use native.Mathlib.Omega.{arith}
use mathlib.Core.Path.{◌≡◌, refl}
use mathlib.Core.Bool.{Bool, true, false}
use mathlib.Core.Option.{Option, some}
use lib.Dec.{leb, le→leb}
use Rattle.record.specs.Record.{Rec}
use Rattle.std.specs.Prelude.{if◌then◌else◌}
use Rattle.rules.specs.State.{State, last_position}
use Rattle.rules.specs.Footprint.{reach}
use Rattle.rules.specs.Verdict.{committed, conflict, positions_used_up, conflicts, refusal_or, no_room_or_committed, judge, verdict}
use Rattle.rules.specs.Refresh.{with_snapshot, done, refused, on_zero, refresh}
use Rattle.rules.proofs.Tests.{is_true, no_lt, no_le}

-- the conflict is all that refuses
by_conflict : (b : Bool) (r : Rec) → on_zero r (if b then conflict else committed) ≡ (if b then refused conflict else done r)
by_conflict true r = refl
by_conflict false r = refl

module _ (S : State) (r : Rec) (low : r.snapshot ≤ S.p) (near : S.p ≤ r.snapshot + S.Z) where
  -- refresh
  pub refresh_near : refresh S (some r) ≡ (if conflicts S r then refused conflict else done (with_snapshot S.p r))
  unfolding refresh refusal_or
  refresh_near = rw (no_lt {a = S.p} {b = r.snapshot} low, no_lt {a = S.Z} {b = S.p - r.snapshot} (omega arith)) (by_conflict (conflicts S r) (with_snapshot S.p r))

  -- the verdict, where a position is left
  pub verdict_near : S.p < last_position → verdict S (some r) ≡ (if conflicts S r then conflict else no_room_or_committed S r.points)
  unfolding verdict judge refusal_or
  verdict_near l = rw (no_le {a = last_position} {b = S.p} l, no_lt {a = S.p} {b = r.snapshot} low, no_lt {a = S.Z} {b = S.p - r.snapshot} (omega arith))

-- at the last position the answer is 6
pub verdict_last : (S : State) (m : Option Rec) → last_position ≤ S.p → verdict S m ≡ positions_used_up
unfolding verdict
verdict_last S m l = rw (is_true (leb last_position S.p) (le→leb last_position S.p l))

-- another snapshot does not change what is named or scanned
pub reach_at : (s : ℕ) (r : Rec) → reach (with_snapshot s r) ≡ reach r
unfolding reach
reach_at s r = refl
