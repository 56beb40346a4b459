-- A refreshed record refreshed once more at the same state stays as it is: no write is above p.
-- Assumes nothing.
use Prim.Native.Nat.{ℕ, ◌≤◌}
use mathlib.Core.Path.{◌≡◌, refl, sym, ap, ◌∙◌}
use mathlib.Core.Bool.{not}
use mathlib.Core.Option.{some}
use mathlib.Core.List.{List, ◌++◌}
use native.Mathlib.Omega.{arith}
use lib.Dec.{T, not_T}
use lib.ListN.{length, take, drop, take-append-drop}
use lib.Seq.{length-take-le}
use borrow.Author.Tests.{le-ltb}
use Rattle.record.specs.Answer.{committed}
use Rattle.record.specs.Record.{Rec, bytes_of}
use Rattle.record.specs.Parse.{parse}
use Rattle.record.specs.Reader.{front}
use Rattle.rules.specs.State.{State, Lawful}
use Rattle.rules.specs.Footprint.{reach}
use Rattle.rules.specs.Verdict.{conflicts, hits}
use Rattle.rules.specs.Refresh.{done, with_snapshot, refresh}
use Rattle.rules.proofs.Tests.{of_any}
use Rattle.rules.proofs.Reach.{of_hits}
use Rattle.rules.proofs.Refreshing.{refresh_exactly}
use Rattle.refresh.specs.Refreshed.{refresh_outcome, left_by, refreshed_of}
use Rattle.refresh.proofs.Output.{FrontIs}

-- with snapshot p nothing is in conflict
no_conflict_at_p : (S : State) → Lawful S → (r : Rec) → T (not (conflicts S (with_snapshot S.p r)))
no_conflict_at_p S l r =
    not_T (conflicts S (with_snapshot S.p r)) (λ t.
    let x = of_any (hits S.p (reach (with_snapshot S.p r))) S.kept t in
    omega (arith, (l.positions x.0 x.1).1, (of_hits S.p (reach (with_snapshot S.p r)) x.0 x.2).0))

-- over records
pub refresh_again : (S : State) → Lawful S → (r : Rec) → refresh S (some (with_snapshot S.p r)) ≡ done (with_snapshot S.p r)
refresh_again S l r =
    (refresh_exactly S (with_snapshot S.p r) (with_snapshot S.p r)).1 (record {
      not_ahead = omega arith;
      not_too_old = omega arith;
      no_conflict = no_conflict_at_p S l r;
      snapshot_p = refl;
      same_points = refl;
      same_scans = refl;
    })

-- over bytes: the front of the output, refreshed over the same output, answers 0 and changes no byte
pub refreshed_again : (S : State) → Lawful S → (original before after : List ℕ) → FrontIs S.p original before after
    → refreshed_of S (parse (take (length original) after)) after ≡ refresh_outcome committed after
unfolding left_by
refreshed_again S l original before after f =
    let b : List ℕ = bytes_of (with_snapshot S.p f.r) in
    let d : refresh S (parse (take (length original) after)) ≡ done (with_snapshot S.p f.r) = ap (refresh S) f.reads ∙ refresh_again S l f.r in
    let n : length b ≡ length original = ap length (sym f.bytes) ∙ length-take-le (length original) after (omega (arith, f.fits, f.size)) in
    let h : length b ≤ length after = omega (arith, f.fits, f.size) in
    let s : front b after ≡ after =
    ap (λ (k : ℕ). b ++ drop k after) n ∙ ap (λ (l : List ℕ). l ++ drop (length original) after) (sym f.bytes) ∙ take-append-drop (length original) after in
    rw (d, le-ltb (length after) (length b) h) (ap (refresh_outcome committed) s)
