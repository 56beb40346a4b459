-- A lookup in the state after a log sees the last committed write of its key: the state is the committed puts and the deletes that write, in log order.
-- Assumes nothing.
use Prim.Native.Nat.{ℕ, ◌+◌, ◌^◌}
use native.Mathlib.Omega.{arith}
use mathlib.Core.Path.{◌≡◌, refl, sym, ◌∙◌}
use mathlib.Core.Logic.{◌⊎◌, inl, inr, ⊎_elim}
use mathlib.Core.Bool.{Bool, not, ◌||◌}
use mathlib.Core.List.Memᴰ.{head as here}
use mathlib.Core.List.Memᴰ.{tail as there}
use mathlib.Core.List.{List, [], ◌∷◌, ◌++◌, append-nil, append_assoc, Memᴰ as Mem}
use mathlib.Core.Option.{Option, none, some}
use lib.Dec.{T, ltb, eqb, eqb→eq}
use Rattle.record.specs.declared.point.Point.{Point}
use Rattle.std.specs.Prelude.{if◌then◌else◌}
use Rattle.rules.specs.Lists.{keep}
use Rattle.rules.specs.State.{Entry, State, fresh, is_live, Rising, end, link}
use Rattle.rules.specs.Footprint.{writes_of}
use Rattle.rules.specs.Verdict.{Verdict, committed, conflict, too_old, no_room, malformed, ahead, positions_used_up, store_all, young, drops, apply, points_of, verdict, left, next}
use Rattle.rules.specs.Log.{Log, WellFormed, after, wrote, commits}
use Rattle.rules.specs.Lookup.{absent, find, seen, payload_at, lookup}
use Rattle.rules.specs.Demands.{last_write}
use Rattle.rules.proofs.Tests.{if_ind, is_true, is_false, test, keep_mem}
use Rattle.rules.proofs.Sorted.{keep_rising, store_all_rising}
use Rattle.rules.proofs.Finding.{find_none, find_mem, find_of, find_store_all, last_write_append, last_write_cases}
use Rattle.rules.specs.EntryFits.{EntryFits}
use Rattle.rules.proofs.Written.{record_sized}

-- what is seen after more writes goes by what was seen before them
seen_after : (k : ℕ) (o o' : Option Entry) (ws : List Entry) → seen o ≡ seen o' → seen (last_write k o ws) ≡ seen (last_write k o' ws)
seen_after k o o' [] e = e
seen_after k o o' (w ∷ ws) e = seen_after k (if eqb w.key k then some w else o) (if eqb w.key k then some w else o') ws
    (⊎_elim (λ t. rw (is_true (eqb w.key k) t)) (λ t. rw (is_false (eqb w.key k) t) e) (test (eqb w.key k)))

-- a tombstone that is dropped was not seen
dead : (w : ℕ) (o : Option ℕ) (b : Bool) → T (not (is_live o || b)) → payload_at w o ≡ absent
dead w none b t = refl
dead w (some x) b t = absurd t

-- a drop of old tombstones changes nothing that is seen
keep_seen : (k z v : ℕ) {hi lo : ℕ} {es : List Entry} → Rising hi lo es → seen (find k (keep (young z v) es)) ≡ seen (find k es)
unfolding young
keep_seen k z v (end h) = refl
keep_seen k z v (link {e = e} {es = es} h r) = ⊎_elim
    (λ t. rw (is_true (young z v e) t) (⊎_elim (λ u. rw (is_true (eqb e.key k) u)) (λ u. rw (is_false (eqb e.key k) u) (keep_seen k z v r)) (test (eqb e.key k))))
    (λ t. rw (is_false (young z v e) t) (⊎_elim
    (λ u. let q = eqb→eq e.key k u in
    rw (is_true (eqb e.key k) u, find_none k (omega arith) (keep_rising (young z v) r)) (sym (dead e.position e.payload (ltb v (e.position + z)) t)))
    (λ u. rw (is_false (eqb e.key k) u) (keep_seen k z v r)) (test (eqb e.key k))))
    (test (young z v e))

-- ALONG A LOG

-- entries show what the committed writes C leave behind: what is found is seen as after the last of them, and each entry is the last of its key
pub record Shows (es C : List Entry) : Type 0 where
  pub sorted : Rising (2 ^ 32) 0 es
  pub sees : (k : ℕ) → seen (find k es) ≡ seen (last_write k none C)
  pub last : (e : Entry) → Mem e es → last_write e.key none C ≡ some e

-- a drop of old tombstones shows the same
shows_keep : (z v : ℕ) {es C : List Entry} → Shows es C → Shows (keep (young z v) es) C
shows_keep z v {es} f = record {
  sorted = keep_rising (young z v) f.sorted;
  sees = λ k. keep_seen k z v f.sorted ∙ f.sees k;
  last = λ e m. f.last e (keep_mem (young z v) es m);
}

-- writes that are stored come last
shows_store : (ws : List Entry) {es C : List Entry} → ((e : Entry) → Mem e ws → EntryFits e) → Shows es C → Shows (store_all ws es) (C ++ ws)
shows_store ws {es} {C} b f = record {
  sorted = store_all_rising ws (λ e m. (b e m).0) f.sorted;
  sees = λ k. rw (find_store_all k ws es, last_write_append k none C ws) (seen_after k (find k es) (last_write k none C) ws (f.sees k));
  last = λ e m. last_write_append e.key none C ws ∙ ends e (sym (find_store_all e.key ws es) ∙ find_mem (store_all_rising ws (λ x i. (b x i).0) f.sorted) m) (last_write_cases e.key ws);
}
  where
    Keeps : ℕ → Type 0
    Keeps k = (o : Option Entry) → last_write k o ws ≡ o

    Decides : ℕ → Type 0
    Decides k = (o o' : Option Entry) → last_write k o ws ≡ last_write k o' ws

    ends : (e : Entry) → last_write e.key (find e.key es) ws ≡ some e → Keeps e.key ⊎ Decides e.key → last_write e.key (last_write e.key none C) ws ≡ some e
    ends e q (inl g) = g (last_write e.key none C) ∙ f.last e (find_of e.key es (sym (g (find e.key es)) ∙ q))
    ends e q (inr g) = g (last_write e.key none C) (find e.key es) ∙ q

-- after a commit
shows_commit : (S : State) {C : List Entry} (ps : List Point) → ((e : Entry) → Mem e (writes_of S ps) → EntryFits e) → Shows S.kept C → Shows (apply S ps) (C ++ writes_of S ps)
unfolding apply
shows_commit S {C} ps b f = if_ind (λ (es : List Entry). Shows es (C ++ writes_of S ps)) (drops S ps)
    (λ _. shows_store (writes_of S ps) b (shows_keep S.Z (S.p + 1) f)) (λ _. shows_store (writes_of S ps) b f)

-- after a record with any verdict
shows_left : (S : State) {C : List Entry} (ps : List Point) → ((e : Entry) → Mem e (writes_of S ps) → EntryFits e) → Shows S.kept C → (a : Verdict)
    → Shows (left S ps a).kept (C ++ wrote S ps a)
shows_left S ps b f committed = shows_commit S ps b f
shows_left S ps b f conflict = rw append-nil f
shows_left S ps b f too_old = rw append-nil f
shows_left S ps b f no_room = rw append-nil f
shows_left S ps b f malformed = rw append-nil f
shows_left S ps b f ahead = rw append-nil f
shows_left S ps b f positions_used_up = rw append-nil f

-- after a log
shows_after : (S : State) {C : List Entry} (ms : Log) → WellFormed ms → Shows S.kept C → Shows (after S ms).kept (C ++ commits S ms)
unfolding after commits next
shows_after S [] b f = rw append-nil f
shows_after S (m ∷ ms) b f =
    rw append_assoc at (shows_after (next S m) ms (λ r i. b r (there i)) (shows_left S (points_of m) (record_sized S m (λ r e. b r (here (sym e)))) f (verdict S m)))

-- over a log from a fresh pool the kept entries show what its committed writes leave behind
pub shows_log : (N Z : ℕ) (log : Log) → WellFormed log → Shows (after (fresh N Z) log).kept (commits (fresh N Z) log)
shows_log N Z log w = shows_after (fresh N Z) {C = []} log w (record { sorted = end {low = 0} (omega arith); sees = λ k. refl; last = λ e m. elim m [ ] })

-- R30: a lookup sees the last committed write
pub last_write_lem : (N Z : ℕ) (log : Log) → WellFormed log → (k : ℕ) → lookup k (after (fresh N Z) log) ≡ seen (last_write k none (commits (fresh N Z) log))
unfolding lookup
last_write_lem N Z log w k = (shows_log N Z log w).sees k

-- R17: what is kept of a key is its last committed write
pub kept_last : (N Z : ℕ) (log : Log) → WellFormed log → (e : Entry) → Mem e (after (fresh N Z) log).kept → last_write e.key none (commits (fresh N Z) log) ≡ some e
kept_last N Z log w = (shows_log N Z log w).last
