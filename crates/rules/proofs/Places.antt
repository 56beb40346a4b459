-- Two places of a log, q and later q', and a record that is neither ahead nor too old there: what a conflict, or none, at q means at q'.
-- Assumes nothing.
use Prim.Native.Nat.{ℕ, ◌+◌, ◌-◌, ◌≤◌}
use native.Mathlib.Omega.{arith}
use native.Mathlib.Nat.{le_trans, add-sub_of_le}
use mathlib.Core.Path.{◌≡◌, sym, ap, subst, ◌∙◌}
use mathlib.Core.Bool.{not}
use mathlib.Core.List.{[], ◌++◌, Memᴰ as Mem}
use mathlib.Core.Option.{some}
use lib.Dec.{T}
use lib.ListN.{length, take, drop}
use lib.Seq.{take-add, length-take-le}
use Rattle.record.specs.Record.{Rec}
use Rattle.rules.specs.Lists.{any}
use Rattle.rules.specs.State.{Entry, State, fresh, last_position}
use Rattle.rules.specs.Footprint.{reach}
use Rattle.rules.specs.Verdict.{hits, conflicts}
use Rattle.rules.specs.Log.{Log, after, state_at, commits}
use Rattle.rules.specs.Tree.{tree_of, walk_of}
use Rattle.rules.specs.Refresh.{with_snapshot}
use Rattle.rules.proofs.Tests.{same, any_of, of_any}
use Rattle.rules.proofs.Reach.{hits_of, of_hits}
use Rattle.rules.proofs.Positions.{after_p, after_Z, after_append}
use Rattle.rules.proofs.RowOne.{HoldsWrites, holds_fresh, holds_after}
use Rattle.rules.proofs.Later.{conflict_stays, hits_rise}
use Rattle.rules.proofs.LaterSearch.{walk_le, tree_mem}
use Rattle.rules.proofs.Near.{reach_at}

module _ (N Z : ℕ) (log : Log) (p : ℕ) (fits : p ≤ length log) (positions : p ≤ last_position) where
  -- the state after q records
  abbrev St : ℕ → State
  St q = state_at N Z log q

  -- the state after q records stands at position q
  pub place_p : {q : ℕ} → q ≤ p → (St q).p ≡ q
  place_p {q} h = let e = length-take-le q log (omega arith) in omega (arith, e, after_p (fresh N Z) (take q log) (omega arith))

  -- its zone limit is Z
  pub place_Z : (q : ℕ) → (St q).Z ≡ Z
  place_Z q = after_Z (fresh N Z) (take q log)

  -- it holds what was committed
  place_holds : (q : ℕ) → HoldsWrites (St q) ([] ++ commits (fresh N Z) (take q log))
  place_holds q = holds_after (holds_fresh N Z) (take q log)

  -- the later place is reached from the first by the records between
  place_later : {q q' : ℕ} → q ≤ q' → after (St q) (take (q' - q) (drop q log)) ≡ St q'
  place_later {q} {q'} h = sym (after_append (fresh N Z) (take q log) (take (q' - q) (drop q log))) ∙ ap (after (fresh N Z)) (sym (take-add q (q' - q) log) ∙ ap (λ (k : ℕ). take k log) (add-sub_of_le h))

  module _ (r : Rec) (q q' : ℕ) (low : r.snapshot ≤ q) (up : q ≤ q') (top : q' ≤ p) (near : q' ≤ r.snapshot + Z) where
    -- the records between
    ms : Log
    ms = take (q' - q) (drop q log)

    -- the snapshot is not above q
    low_q : r.snapshot ≤ (St q).p
    low_q = omega (arith, place_p (le_trans up top))

    -- nor too far below q'
    near_q : (after (St q) ms).p ≤ r.snapshot + (St q).Z
    unfolding ms
    near_q = omega (arith, ap (λ (X : State). X.p) (place_later up), place_p top, place_Z q)

    -- a conflict stays one
    pub stays_conflict : T (conflicts (St q) r) → T (conflicts (St q') r)
    unfolding ms
    stays_conflict t = subst (λ (X : State). T (conflicts X r)) (place_later up) (conflict_stays (place_holds q) ms r.snapshot (reach r) low_q near_q t)

    -- with none at q, what is hit later on was written after q
    rises : T (not (conflicts (St q) r)) → (e : Entry) → Mem e (St q').kept → T (hits r.snapshot (reach r) e) → T (hits q (reach r) e)
    unfolding ms
    rises t e m u = subst (λ (k : ℕ). T (hits k (reach r) e)) (place_p (le_trans up top))
        (hits_rise (place_holds q) ms r.snapshot (reach r) low_q near_q t e (subst (λ (X : State). Mem e X.kept) (sym (place_later up)) m) u)

    -- with none at q, the record with snapshot q conflicts later on exactly if the original does
    pub same_conflicts : T (not (conflicts (St q) r)) → conflicts (St q') (with_snapshot q r) ≡ conflicts (St q') r
    same_conflicts t = rw (reach_at q r) (same (any (hits q (reach r)) (St q').kept) (any (hits r.snapshot (reach r)) (St q').kept)
        (λ u. let x = of_any (hits q (reach r)) (St q').kept u in
        let y = of_hits q (reach r) x.0 x.2 in
        any_of (hits r.snapshot (reach r)) x.1 (hits_of r.snapshot (reach r) x.0 (omega arith) y.1))
        (λ u. let x = of_any (hits r.snapshot (reach r)) (St q').kept u in any_of (hits q (reach r)) x.1 (rises t x.0 x.1 x.2)))

    -- and looks no more often
    pub walks : T (not (conflicts (St q) r)) → (walk_of (St q') (some (with_snapshot q r))).looks ≤ (walk_of (St q') (some r)).looks
    walks t = rw (reach_at q r) (walk_le r.snapshot q (reach r) low (tree_of 32 0 (St q').kept) (λ e m. rises t e (tree_mem 32 0 (St q').kept m))).looks_le
