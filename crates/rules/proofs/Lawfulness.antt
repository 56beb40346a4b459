-- Every state of a log from a fresh pool is lawful: at most N kept keys, each once, with write positions 1 to p.
-- Assumes nothing.
use Prim.Native.Nat.{ℕ, ◌+◌, ◌-◌, ◌^◌, ◌≤◌, ◌<◌}
use native.Mathlib.Omega.{arith}
use mathlib.Core.Path.{◌≡◌, sym, subst}
use mathlib.Core.Logic.{◌⊎◌, inl, inr}
use mathlib.Core.Bool.{not}
use mathlib.Core.List.Memᴰ.{head as here}
use mathlib.Core.List.Memᴰ.{tail as there}
use mathlib.Core.List.{List, [], ◌∷◌, Memᴰ as Mem}
use mathlib.Core.Option.{Option, none, some}
use lib.Dec.{T, ltb, leb, nltb→le, nleb→lt}
use lib.ListN.{length}
use Rattle.record.specs.Record.{Rec}
use Rattle.record.specs.declared.point.Point.{Point}
use Rattle.rules.specs.State.{Entry, State, fresh, last_position, Rising, end, Fits, Lawful}
use Rattle.rules.specs.Footprint.{writes_of}
use Rattle.rules.specs.Verdict.{Verdict, conflicts, store_all, young, whole, drops, apply, count, refusal_or, judge, formed, points_of, verdict, step, left, next}
use Rattle.rules.specs.Log.{Log, ValidIf, WellFormed, after}
use Rattle.rules.proofs.Tests.{if_ind, no_lt}
use Rattle.rules.proofs.Stored.{apply_mem}
use Rattle.rules.proofs.Sorted.{keep_rising, store_all_rising}
use Rattle.rules.specs.EntryFits.{EntryFits}
use Rattle.rules.proofs.Written.{writes_at, record_sized}
use Rattle.rules.proofs.Counted.{count_stored, drops_whole}

-- R17: before the first record
pub lawful_fresh : {N Z : ℕ} → (1 ≤ N) × (N ≤ 65536) → (1 ≤ Z) × (Z ≤ 4096) → Lawful (fresh N Z)
lawful_fresh {N} {Z} a b = record {
  limit_N = a;
  limit_Z = b;
  last = omega arith;
  few = omega arith;
  rising = end {low = 0} (omega arith);
  positions = λ e m. elim m [ ];
  payloads = λ e m. elim m [ ];
}

-- what is left of a commit that found room is within the limit
apply_few : (S : State) (ps : List Point) → ((e : Entry) → Mem e (writes_of S ps) → EntryFits e) → Rising (2 ^ 32) 0 S.kept
    → T (not (ltb S.N (count S ps))) → length (apply S ps) ≤ S.N
unfolding apply
apply_few S ps k r t = rw (drops_whole S ps r k) (if_ind (λ (es : List Entry). length es ≤ S.N) (ltb S.N (length (whole S ps)))
    (λ _. omega (arith, nltb→le S.N (count S ps) t, count_stored S ps r k)) (λ u. nltb→le S.N (length (whole S ps)) u))

-- its keys rise
apply_rising : (S : State) (ps : List Point) → ((e : Entry) → Mem e (writes_of S ps) → EntryFits e) → Rising (2 ^ 32) 0 S.kept → Rising (2 ^ 32) 0 (apply S ps)
unfolding apply
apply_rising S ps k r = if_ind (λ (es : List Entry). Rising (2 ^ 32) 0 es) (drops S ps)
    (λ _. store_all_rising (writes_of S ps) (λ e m. (k e m).0) (keep_rising (young S.Z (S.p + 1)) r))
    (λ _. store_all_rising (writes_of S ps) (λ e m. (k e m).0) r)

-- R28: a record that writes nothing stores nothing
pub reads_store_nothing : {S : State} (ps : List Point) → Lawful S → writes_of S ps ≡ [] → apply S ps ≡ S.kept
unfolding apply store_all
reads_store_nothing {S} ps l e =
    rw (drops_whole S ps l.rising (λ x m. elim (subst (λ (ws : List Entry). Mem x ws) e m) [ ]), e, no_lt {a = S.N} {b = length S.kept} l.few)

-- one position on, with nothing written
lawful_on : {S : State} → Lawful S → S.p < last_position → Lawful (step S S.kept)
lawful_on {S} l p = record {
  limit_N = l.limit_N;
  limit_Z = l.limit_Z;
  last = omega arith;
  few = l.few;
  rising = l.rising;
  positions = λ e m. let x = l.positions e m in (x.0, omega arith);
  payloads = l.payloads;
}

-- one position on, with the writes
lawful_commit : {S : State} (ps : List Point) → ((e : Entry) → Mem e (writes_of S ps) → EntryFits e) → Lawful S → S.p < last_position
    → T (not (ltb S.N (count S ps))) → Lawful (step S (apply S ps))
lawful_commit {S} ps k l p room = record {
  limit_N = l.limit_N;
  limit_Z = l.limit_Z;
  last = omega arith;
  few = apply_few S ps k l.rising room;
  rising = apply_rising S ps k l.rising;
  positions = λ e m. at_most e (apply_mem S ps m);
  payloads = λ e m. fit e (apply_mem S ps m);
}
  where
    at_most : (e : Entry) → Mem e (writes_of S ps) ⊎ Mem e S.kept → (1 ≤ e.position) × (e.position ≤ S.p + 1)
    at_most e (inl m) = let x = writes_at S ps m in omega arith
    at_most e (inr m) = let x = l.positions e m in omega arith

    fit : (e : Entry) → Mem e (writes_of S ps) ⊎ Mem e S.kept → Fits e.payload
    fit e (inl m) = (k e m).1
    fit e (inr m) = l.payloads e m

-- after any verdict but 6
lawful_formed : {S : State} → Lawful S → S.p < last_position → (m : Option Rec) → ValidIf m → Lawful (left S (points_of m) (formed S m))
unfolding judge refusal_or
lawful_formed l p none v = lawful_on l p
lawful_formed {S} l p (some r) v =
    if_ind G (ltb S.p r.snapshot) (λ _. lawful_on l p) (λ _.
    if_ind G (ltb S.Z (S.p - r.snapshot)) (λ _. lawful_on l p) (λ _.
    if_ind G (conflicts S r) (λ _. lawful_on l p) (λ _.
    if_ind G (ltb S.N (count S r.points)) (λ _. lawful_on l p) (λ t. lawful_commit r.points (record_sized S (some r) v) l p t))))
  where
    G : Verdict → Type 0
    G a = Lawful (left S r.points a)

-- a record leaves a lawful state lawful
pub lawful_next : {S : State} → Lawful S → (m : Option Rec) → ValidIf m → Lawful (next S m)
unfolding next verdict
lawful_next {S} l m v = if_ind (λ a. Lawful (left S (points_of m) a)) (leb last_position S.p) (λ _. l) (λ t. lawful_formed l (nleb→lt last_position S.p t) m v)

-- after a log
pub lawful_after : {S : State} → Lawful S → (ms : Log) → WellFormed ms → Lawful (after S ms)
unfolding after
lawful_after l [] w = l
lawful_after {S} l (m ∷ ms) w = lawful_after {S = next S m} (lawful_next l m (λ r e. w r (here (sym e)))) ms (λ r i. w r (there i))

-- every state of a log from a fresh pool is lawful
pub lawful_log : {N Z : ℕ} → (1 ≤ N) × (N ≤ 65536) → (1 ≤ Z) × (Z ≤ 4096) → (log : Log) → WellFormed log → Lawful (after (fresh N Z) log)
lawful_log a b log w = lawful_after (lawful_fresh a b) log w
