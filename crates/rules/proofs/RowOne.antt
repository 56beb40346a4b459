-- Row 1 of the verdict, two ways: by the entries that are kept, and by the writes that were committed.
-- The idea: along a log, every committed write younger than the zone limit is still covered by a kept entry of its key, as new or newer,
-- and every kept entry is a committed write. Dropped tombstones are too old for any record that gets as far as row 1.
-- Assumes nothing.
use Prim.Native.Nat.{ℕ, ◌+◌, ◌-◌, ◌≤◌, ◌<◌}
use native.Mathlib.Omega.{arith}
use mathlib.Core.Path.{◌≡◌}
use mathlib.Core.Logic.{◌⊎◌, inl, inr}
use mathlib.Core.List.Memᴰ.{append_cases as in-append}
use mathlib.Core.List.Memᴰ.{append_left as in_left}
use mathlib.Core.List.Memᴰ.{append_right as in_right}
use mathlib.Core.List.{List, [], ◌∷◌, ◌++◌, append_assoc, append-nil, Memᴰ as Mem}
use lib.Dec.{T, leb, le→leb, leb→le}
use Rattle.record.specs.Record.{Rec}
use Rattle.record.specs.declared.point.Point.{Point}
use Rattle.record.specs.declared.point.Scan.{Scan}
use Rattle.rules.specs.Lists.{any}
use Rattle.rules.specs.State.{Entry, State, fresh}
use Rattle.rules.specs.Footprint.{reach, meets, writes_of}
use Rattle.rules.specs.Verdict.{Verdict, committed, conflict, too_old, no_room, malformed, ahead, positions_used_up, hits, conflicts, apply, points_of, verdict, step, left, next}
use Rattle.rules.specs.Log.{Log, after, wrote, commits, between, written_in}
use Rattle.rules.proofs.Tests.{and_of, left_of_lem, right_of_lem, same, any_of, of_any}
use Rattle.rules.proofs.Reach.{hits_of, of_hits}
use Rattle.rules.proofs.Positions.{after_Z}
use Rattle.rules.proofs.Written.{writes_at}
use Rattle.rules.proofs.Stored.{Covered, apply_mem, apply_covers, apply_self}

-- S holds what the committed writes C leave behind
pub record HoldsWrites (S : State) (C : List Entry) : Type 0 where
  pub bound : (c : Entry) → Mem c C → c.position ≤ S.p
  pub written : (e : Entry) → Mem e S.kept → Mem e C
  pub covered : (c : Entry) → Mem c C → S.p < c.position + S.Z → Covered S.kept c.key c.position

-- at first nothing is written and nothing kept
pub holds_fresh : (N Z : ℕ) → HoldsWrites (fresh N Z) []
holds_fresh N Z = record { bound = λ c m. elim m [ ]; written = λ e m. m; covered = λ c m. elim m [ ] }

-- a record that writes nothing
holds_on : {S : State} {C : List Entry} → HoldsWrites S C → HoldsWrites (step S S.kept) (C ++ [])
holds_on {S} {C} h = rw append-nil record {
  bound = λ c m. omega (arith, h.bound c m);
  written = h.written;
  covered = λ c m l. h.covered c m (omega arith);
}

-- a record that commits
holds_commit : {S : State} {C : List Entry} (ps : List Point) → HoldsWrites S C → HoldsWrites (step S (apply S ps)) (C ++ writes_of S ps)
holds_commit {S} {C} ps h = record { bound = λ c m. bound' c (in-append C m); written = λ e m. written' e (apply_mem S ps m); covered = λ c m. covered' c (in-append C m) }
  where
    bound' : (c : Entry) → Mem c C ⊎ Mem c (writes_of S ps) → c.position ≤ S.p + 1
    bound' c (inl m) = omega (arith, h.bound c m)
    bound' c (inr m) = omega (arith, writes_at S ps m)

    written' : (e : Entry) → Mem e (writes_of S ps) ⊎ Mem e S.kept → Mem e (C ++ writes_of S ps)
    written' e (inl m) = in_right C m
    written' e (inr m) = in_left (writes_of S ps) (h.written e m)

    covered' : (c : Entry) → Mem c C ⊎ Mem c (writes_of S ps) → S.p + 1 < c.position + S.Z → Covered (apply S ps) c.key c.position
    covered' c (inl m) l = apply_covers S ps (omega (arith, h.bound c m)) l (h.covered c m (omega arith))
    covered' c (inr m) l = apply_self S ps m

-- a record with any verdict
holds_left : {S : State} {C : List Entry} (ps : List Point) → HoldsWrites S C → (a : Verdict) → HoldsWrites (left S ps a) (C ++ wrote S ps a)
holds_left ps h committed = holds_commit ps h
holds_left ps h conflict = holds_on h
holds_left ps h too_old = holds_on h
holds_left ps h no_room = holds_on h
holds_left ps h malformed = holds_on h
holds_left ps h ahead = holds_on h
holds_left ps h positions_used_up = rw append-nil h

-- a log
pub holds_after : {S : State} {C : List Entry} → HoldsWrites S C → (ms : Log) → HoldsWrites (after S ms) (C ++ commits S ms)
unfolding after commits next
holds_after {S} {C} h [] = rw append-nil h
holds_after {S} {C} h (m ∷ ms) = rw append_assoc at (holds_after {S = next S m} (holds_left (points_of m) h (verdict S m)) ms)

-- a write of a key within reach at s + 1 to p
pub of_written : (s p : ℕ) (f : List Scan) (C : List Entry) → T (written_in s p f C) → (c : Entry) × Mem c C × (s < c.position) × (c.position ≤ p) × T (meets f c.key (c.key + 1))
unfolding written_in
of_written s p f C t =
    let x = of_any (between s p f) C t in
    let c = x.0 in
    let h = of_hits s f c (left_of_lem (hits s f c) (leb c.position p) x.2) in
    (c, x.1, h.0, leb→le c.position p (right_of_lem (hits s f c) (leb c.position p) x.2), h.1)

-- and the reverse
pub written_of : (s p : ℕ) (f : List Scan) {C : List Entry} {c : Entry} → Mem c C → s < c.position → c.position ≤ p → T (meets f c.key (c.key + 1)) → T (written_in s p f C)
unfolding written_in
written_of s p f {C} {c} m a b t =
    any_of (between s p f) m (and_of (hits s f c) (leb c.position p) (hits_of s f c a t) (le→leb c.position p b))

-- a state that holds the committed writes decides row 1 as R25 has it
pub holds_agree : {S : State} {C : List Entry} → HoldsWrites S C → (s : ℕ) (f : List Scan) → S.p ≤ s + S.Z → any (hits s f) S.kept ≡ written_in s S.p f C
holds_agree {S} {C} h s f near = same (any (hits s f) S.kept) (written_in s S.p f C) to from
  where
    to : T (any (hits s f) S.kept) → T (written_in s S.p f C)
    to t =
        let x = of_any (hits s f) S.kept t in
        let m = h.written x.0 x.1 in
        let y = of_hits s f x.0 x.2 in
        written_of s S.p f m y.0 (h.bound x.0 m) y.1

    from : T (written_in s S.p f C) → T (any (hits s f) S.kept)
    from t =
        let x = of_written s S.p f C t in
        let c = h.covered x.0 x.1 (omega arith) in
        any_of (hits s f) c.1 (hits_of s f c.0 (omega arith) (rw c.2 x.4))

-- row 1: for every record that gets as far as that row, a kept key named or scanned has a write position above s exactly if some key
-- named or scanned was written by a committed record at s + 1 to p
pub row_one : (N Z : ℕ) (log : Log) (r : Rec) → r.snapshot ≤ (after (fresh N Z) log).p → (after (fresh N Z) log).p - r.snapshot ≤ Z
    → conflicts (after (fresh N Z) log) r ≡ written_in r.snapshot (after (fresh N Z) log).p (reach r) (commits (fresh N Z) log)
row_one N Z log r a b = holds_agree (holds_after (holds_fresh N Z) log) r.snapshot (reach r) (omega (arith, after_Z (fresh N Z) log))
