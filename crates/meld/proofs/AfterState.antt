-- The arrangement that a record leaves is one of the state that the rules leave.
-- Assumes nothing.
use Prim.Native.Nat.{◌+◌, ◌-◌, ◌≤◌, ◌<◌}
use mathlib.Core.Path.{◌≡◌, refl, sym, ap, ◌∙◌, subst}
use mathlib.Core.Bool.{Bool, true, false}
use mathlib.Core.Option.{Option, none, some}
use mathlib.Core.List.{List, Memᴰ as Mem}
use native.Mathlib.Omega.{arith}
use lib.ListN.{length}
use lib.Dec.{ltb, leb}
use borrow.Author.Tests.{ltb-false, leb-false}
use Rattle.record.specs.declared.point.Point.{Point}
use Rattle.record.specs.Record.{Rec}
use Rattle.std.specs.Prelude.{if◌then◌else◌}
use Rattle.rules.specs.Lists.{keep}
use Rattle.rules.specs.State.{Entry, State, last_position}
use Rattle.rules.specs.Footprint.{writes_of}
use Rattle.rules.specs.Verdict.{Verdict, committed, conflict, too_old, no_room, malformed, ahead, positions_used_up, store_all, young, whole, lean, drops, apply, count, conflicts, refusal_or, judge, verdict, points_of, step, left, next}
use Rattle.rules.specs.EntryFits.{EntryFits}
use Rattle.rules.specs.Log.{ValidIf}
use Rattle.rules.proofs.Written.{writes_at, record_sized}
use Rattle.rules.proofs.Counted.{count_stored, drops_whole}
use Rattle.pool.specs.Image.{Arrangement, Arranged, state_of}
use Rattle.drop.specs.Drop.{drop_in}
use Rattle.advance.specs.Moved.{moved_on}
use Rattle.drop.proofs.Arranging.{drop_arranged, drop_young}
use Rattle.advance.proofs.Moving.{onward_arranged}
use Rattle.commit.specs.Applied.{store_in, AllStorable}
use Rattle.commit.specs.Commit.{old_at}
use Rattle.commit.proofs.Storing.{state_store}
use Rattle.meld.specs.After.{committed_in, left_in, after_in}

-- what a record that commits has passed
pub record PassedChecks (S : State) (m : Option Rec) : Type 0 where
  pub position_left : S.p < last_position
  pub r : Rec
  pub is : m ≡ some r
  pub room : count S r.points ≤ S.N

-- of the verdict's tests the first and the last are read off
first_and_last : (a b c d e : Bool) → (if a then positions_used_up else (if b then ahead else (if c then too_old else (if d then conflict else (if e then no_room else committed))))) ≡ committed → (a ≡ false) × (e ≡ false)
first_and_last true b c d e h = absurd (cc)
first_and_last false true c d e h = absurd (cc)
first_and_last false false true d e h = absurd (cc)
first_and_last false false false true e h = absurd (cc)
first_and_last false false false false true h = absurd (cc)
first_and_last false false false false false h = (refl, refl)

none_commits : (a : Bool) → (if a then positions_used_up else malformed) ≡ committed → ⊥
none_commits true h = cc
none_commits false h = cc

pub passed_checks : (S : State) (m : Option Rec) → verdict S m ≡ committed → PassedChecks S m
unfolding verdict judge refusal_or
passed_checks S none h = absurd (none_commits (leb last_position S.p) h)
passed_checks S (some r) h =
    let x = first_and_last (leb last_position S.p) (ltb S.p r.snapshot) (ltb S.Z (S.p - r.snapshot)) (conflicts S r) (ltb S.N (count S r.points)) h in
    record { position_left = leb-false last_position S.p x.0; r = r; is = refl; room = ltb-false S.N (count S r.points) x.1 }

-- A COMMIT

module _ (A : Arrangement) (q : Arranged A) (ps : List Point) (more : A.p < last_position) (sized : (e : Entry) → Mem e (writes_of (state_of A) ps) → EntryFits e) where
  abbrev ws : List Entry
  ws = writes_of (state_of A) ps

  onward_storable : length (whole (state_of A) ps) ≤ A.N → AllStorable (moved_on A) ws
  onward_storable h = record { started = omega arith; sized = sized; at_p = λ e m. writes_at (state_of A) ps m; room = h }

  kept_lean : (state_of (drop_in (old_at A) (moved_on A))).kept ≡ keep (young A.Z (A.p + 1)) (state_of A).kept
  kept_lean = drop_young A.Z (A.p + 1) (moved_on A) (onward_arranged A more q)

  lean_storable : count (state_of A) ps ≤ A.N → AllStorable (drop_in (old_at A) (moved_on A)) ws
  lean_storable h =
      record {
        started = omega arith;
        sized = sized;
        at_p = λ e m. writes_at (state_of A) ps m;
        room = subst (λ (es : List Entry). length (store_all ws es) ≤ A.N) (sym kept_lean) (omega (arith, h, count_stored (state_of A) ps q.lawful.rising sized));
      }

  pub committed_state : count (state_of A) ps ≤ A.N → state_of (committed_in A ps) ≡ step (state_of A) (apply (state_of A) ps)
  unfolding committed_in apply
  committed_state h = go (drops (state_of A) ps) refl
    where
      go : (b : Bool) → drops (state_of A) ps ≡ b
          → state_of (store_in (if b then drop_in (old_at A) (moved_on A) else moved_on A) ws) ≡ step (state_of A) (if b then lean (state_of A) ps else whole (state_of A) ps)
      go true e =
          state_store ws (drop_arranged (old_at A) (moved_on A) (onward_arranged A more q)) (lean_storable h)
          ∙ ap (λ (es : List Entry). step (state_of A) (store_all ws es)) kept_lean
      go false e =
          let n : length (whole (state_of A) ps) ≤ A.N = ltb-false A.N (length (whole (state_of A) ps)) (sym (drops_whole (state_of A) ps q.lawful.rising sized) ∙ e) in
          state_store ws (onward_arranged A more q) (onward_storable n)

-- ANY RECORD

pub after_state : (A : Arrangement) → Arranged A → (m : Option Rec) → ValidIf m → state_of (after_in A m) ≡ next (state_of A) m
unfolding after_in next
after_state A q m valid = go (verdict (state_of A) m) refl
  where
    go : (v : Verdict) → verdict (state_of A) m ≡ v → state_of (left_in A (points_of m) v) ≡ left (state_of A) (points_of m) v
    go committed e =
        let x = passed_checks (state_of A) m e in
        let c : count (state_of A) (points_of m) ≤ A.N = rw x.is x.room in
        committed_state A q (points_of m) x.position_left (record_sized (state_of A) m valid) c
    go conflict e = refl
    go too_old e = refl
    go no_room e = refl
    go malformed e = refl
    go ahead e = refl
    go positions_used_up e = refl
