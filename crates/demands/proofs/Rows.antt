-- What each row of R23 makes of the rules' verdict, where the rows before it do not apply; and that a verdict is known by its number.
-- Assumes nothing.
use Prim.Native.Nat.{ℕ, zero, suc, ◌+◌, ◌-◌, ◌≤◌, ◌<◌}
use mathlib.Core.Path.{◌≡◌, refl, sym, ap, ◌∙◌}
use mathlib.Core.Bool.{not}
use mathlib.Core.Option.{none, some}
use native.Mathlib.Omega.{arith}
use lib.Dec.{T}
use Rattle.record.specs.declared.answer.Answer.{Answer}
use Rattle.record.specs.Record.{Rec}
use Rattle.rules.specs.State.{State, last_position}
use Rattle.rules.specs.Verdict.{Verdict, committed, conflict, too_old, no_room, malformed, ahead, positions_used_up, verdict_answer, conflicts, refusal_or, count, judge, verdict}
use Rattle.rules.proofs.Tests.{is_true, is_false, yes_lt, no_lt, no_le}
use Rattle.rules.proofs.Near.{verdict_near}

-- BY ITS NUMBER

-- the verdict with a number
abbrev verdict_of : ℕ → Verdict
verdict_of zero = committed
verdict_of (suc zero) = conflict
verdict_of (suc (suc zero)) = too_old
verdict_of (suc (suc (suc zero))) = no_room
verdict_of (suc (suc (suc (suc zero)))) = malformed
verdict_of (suc (suc (suc (suc (suc zero))))) = ahead
verdict_of (suc (suc (suc (suc (suc (suc n)))))) = positions_used_up

of_number : (v : Verdict) → verdict_of (verdict_answer v).number ≡ v
of_number committed = refl
of_number conflict = refl
of_number too_old = refl
of_number no_room = refl
of_number malformed = refl
of_number ahead = refl
of_number positions_used_up = refl

-- two verdicts with one answer are one
pub verdict_of_lem : {v w : Verdict} → verdict_answer v ≡ verdict_answer w → v ≡ w
verdict_of_lem {v} {w} e = sym (of_number v) ∙ ap (λ (a : Answer). verdict_of a.number) e ∙ of_number w

-- ROW BY ROW

-- row 4
pub verdict_malformed : (S : State) → S.p < last_position → verdict S none ≡ malformed
unfolding verdict
verdict_malformed S l = rw (no_le {a = last_position} {b = S.p} l)

module _ (S : State) (r : Rec) (left : S.p < last_position) where
  -- row 5
  pub verdict_ahead : S.p < r.snapshot → verdict S (some r) ≡ ahead
  unfolding verdict judge refusal_or
  verdict_ahead a = rw (no_le {a = last_position} {b = S.p} left, yes_lt {a = S.p} {b = r.snapshot} a)

  -- row 2
  pub verdict_too_old : r.snapshot ≤ S.p → S.Z < S.p - r.snapshot → verdict S (some r) ≡ too_old
  unfolding verdict judge refusal_or
  verdict_too_old a o = rw (no_le {a = last_position} {b = S.p} left, no_lt {a = S.p} {b = r.snapshot} a, yes_lt {a = S.Z} {b = S.p - r.snapshot} o)

  -- rows 1, 3 and 0
  module _ (low : r.snapshot ≤ S.p) (zone : S.p - r.snapshot ≤ S.Z) where
    near : S.p ≤ r.snapshot + S.Z
    near = omega (arith, low, zone)

    pub verdict_conflict : T (conflicts S r) → verdict S (some r) ≡ conflict
    verdict_conflict c = verdict_near S r low near left ∙ rw (is_true (conflicts S r) c)

    pub verdict_no_room : T (not (conflicts S r)) → S.N < count S r.points → verdict S (some r) ≡ no_room
    verdict_no_room c k = verdict_near S r low near left ∙ rw (is_false (conflicts S r) c, yes_lt {a = S.N} {b = count S r.points} k)

    pub verdict_committed : T (not (conflicts S r)) → count S r.points ≤ S.N → verdict S (some r) ≡ committed
    verdict_committed c k = verdict_near S r low near left ∙ rw (is_false (conflicts S r) c, no_lt {a = S.N} {b = count S r.points} k)
