-- Demand 2 in one sentence: a record commits exactly when it passes the checks, with the writers of the log and not the kept keys.
-- Assumes nothing.
use Prim.Native.Nat.{ℕ, ◌-◌, ◌≤◌, ◌<◌}
use native.Mathlib.Omega.{arith}
use mathlib.Core.Path.{◌≡◌, refl, ap, ◌∙◌}
use mathlib.Core.Logic.{◌↔◌}
use mathlib.Core.Bool.{not}
use mathlib.Core.Option.{Option, none, some}
use lib.Dec.{T, ltb, leb, nltb→le, nleb→lt, T_not, not_T}
use Rattle.record.specs.Record.{Rec}
use Rattle.rules.specs.State.{State, fresh, last_position}
use Rattle.rules.specs.Footprint.{reach}
use Rattle.rules.specs.Verdict.{Verdict, committed, verdict_answer, conflicts, count, refusal_or, judge, formed, verdict}
use Rattle.rules.specs.Log.{Log, after, commits}
use Rattle.rules.specs.Demands.{Beaten, Passes}
use Rattle.rules.proofs.Tests.{if_ind, is_false, no_lt}
use Rattle.rules.proofs.Reach.{meets_reaches, reaches_meets}
use Rattle.rules.proofs.Positions.{after_N, after_Z}
use Rattle.rules.proofs.RowOne.{of_written, written_of, row_one}
use Rattle.rules.proofs.Near.{verdict_near}

-- two answers with different numbers differ
same_number : {a b : Verdict} → a ≡ b → (verdict_answer a).number ≡ (verdict_answer b).number
same_number e = ap (λ (x : Verdict). (verdict_answer x).number) e

module _ (N Z : ℕ) (log : Log) where
  -- the state where the record stands
  abbrev place : State
  place = after (fresh N Z) log

  -- row 1 in words: a kept key conflicts exactly if a committed record of the log beat this one
  pub beaten : (r : Rec) → r.snapshot ≤ (after (fresh N Z) log).p → (after (fresh N Z) log).p - r.snapshot ≤ Z → T (conflicts (after (fresh N Z) log) r) ↔ Beaten N Z log r
  beaten r a b = (
    λ t. let x = of_written r.snapshot place.p (reach r) (commits (fresh N Z) log) (rw (row_one N Z log r a b) at t) in
        (x.0, x.1, x.2, x.3, meets_reaches r x.0.key x.4),
    λ x. rw (row_one N Z log r a b) (written_of r.snapshot place.p (reach r) x.1 x.2 x.3 (reaches_meets r x.0.key x.4)),
  )

  -- the checks from row 5 on
  judged : (r : Rec) → place.p < last_position → judge place r ≡ committed → Passes N Z log (some r)
  unfolding judge refusal_or
  judged r p =
      if_ind G (ltb place.p r.snapshot) (λ _ e. absurd (omega (arith, same_number e))) (λ a.
      if_ind G (ltb place.Z (place.p - r.snapshot)) (λ _ e. absurd (omega (arith, same_number e))) (λ b.
      if_ind G (conflicts place r) (λ _ e. absurd (omega (arith, same_number e))) (λ c.
      if_ind G (ltb place.N (count place r.points)) (λ _ e. absurd (omega (arith, same_number e))) (λ d _. pass a b c d))))
    where
      G : Verdict → Type 0
      G a = a ≡ committed → Passes N Z log (some r)

      pass : T (not (ltb place.p r.snapshot)) → T (not (ltb place.Z (place.p - r.snapshot))) → T (not (conflicts place r)) → T (not (ltb place.N (count place r.points))) → Passes N Z log (some r)
      pass a b c d =
          let low : r.snapshot ≤ place.p = nltb→le place.p r.snapshot a in
          let near : place.p - r.snapshot ≤ Z = omega (arith, nltb→le place.Z (place.p - r.snapshot) b, after_Z (fresh N Z) log) in
          record {
            position_left = p;
            r = r;
            well_formed = refl;
            not_ahead = low;
            not_too_old = near;
            no_conflict = λ x. T_not (conflicts place r) c ((beaten r low near).1 x);
            room = omega (arith, nltb→le place.N (count place r.points) d, after_N (fresh N Z) log);
          }

  -- with row 4 before them
  formed_passes : (m : Option Rec) → place.p < last_position → formed place m ≡ committed → Passes N Z log m
  formed_passes none p e = absurd (omega (arith, same_number e))
  formed_passes (some r) p e = judged r p e

  -- with row 6 before them: what commits passes
  passes : (m : Option Rec) → verdict place m ≡ committed → Passes N Z log m
  unfolding verdict
  passes m = if_ind (λ (a : Verdict). a ≡ committed → Passes N Z log m) (leb last_position place.p)
      (λ _ e. absurd (omega (arith, same_number e))) (λ t. formed_passes m (nleb→lt last_position place.p t))

  -- what passes commits
  passed : {m : Option Rec} → Passes N Z log m → verdict place m ≡ committed
  passed {m} w = ap (verdict place) w.well_formed
      ∙ verdict_near place w.r w.not_ahead (omega (arith, w.not_ahead, w.not_too_old, after_Z (fresh N Z) log)) w.position_left
      ∙ rw (
        is_false (conflicts place w.r) (not_T (conflicts place w.r) (λ t. w.no_conflict ((beaten w.r w.not_ahead w.not_too_old).0 t))),
        no_lt {a = place.N} {b = count place w.r.points} (omega (arith, w.room, after_N (fresh N Z) log)),
      )

  -- over a log from a fresh pool
  pub commits_exactly : (m : Option Rec) → (verdict (after (fresh N Z) log) m ≡ committed) ↔ Passes N Z log m
  commits_exactly m = (passes m, passed)
