-- The last committed write of a key, as a record of the log: the one whose number is the write's position.
-- The idea: go along the log; the last write is one of a record that committed, and behind it none is of the key.
-- Assumes nothing.
use Prim.Native.Nat.{ℕ, ◌+◌, ◌<◌}
use native.Mathlib.Omega.{arith}
use mathlib.Core.Path.{◌≡◌, refl, sym, ap, ◌∙◌, subst}
use mathlib.Core.Logic.{◌⊎◌, inl, inr}
use mathlib.Core.Bool.{not}
use mathlib.Core.List.Memᴰ.{append_cases as in-append}
use mathlib.Core.List.Memᴰ.{head as here}
use mathlib.Core.List.Memᴰ.{tail as there}
use mathlib.Core.List.{List, [], ◌∷◌, ◌++◌, Memᴰ as Mem}
use mathlib.Core.Option.{Option, none, some}
use lib.Dec.{T, eqb, eqb→eq, T_not}
use lib.ListN.{length}
use Rattle.record.specs.Record.{Rec}
use Rattle.std.specs.Prelude.{if◌then◌else◌}
use Rattle.rules.specs.State.{Entry, State, fresh, last_position}
use Rattle.rules.specs.Footprint.{writes_of}
use Rattle.rules.specs.Verdict.{Verdict, committed, conflict, too_old, no_room, malformed, ahead, positions_used_up, points_of, verdict, next}
use Rattle.rules.specs.Log.{Log, after, wrote, commits}
use Rattle.rules.specs.Demands.{last_write}
use Rattle.rules.proofs.Tests.{is_true, is_false, test, yes_eq}
use Rattle.rules.proofs.Finding.{last_write_append}
use Rattle.rules.proofs.Written.{writes_at, writes_none}
use Rattle.rules.proofs.Positions.{next_p, after_up}
use Rattle.rules.proofs.Passing.{commits_exactly}
use Rattle.demands.specs.Reasons.{BeatenBy, LastWriter}

-- none of these writes is of the key
abbrev NoneOf : ℕ → List Entry → Type 0
NoneOf k ws = (e : Entry) → Mem e ws → e.key ≡ k → ⊥

-- what a list of writes leaves under a key was there before, and none of them is of the key; or it is one of them
last_or : (k : ℕ) (o : Option Entry) (ws : List Entry) {e : Entry} → last_write k o ws ≡ some e → ((o ≡ some e) × NoneOf k ws) ⊎ (Mem e ws × (e.key ≡ k))
last_or k o [] q = inl (q, λ c m. elim m [ ])
last_or k o (x ∷ ws) {e} q = go (test (eqb x.key k)) (last_or k (if eqb x.key k then some x else o) ws q)
  where
    same : some x ≡ some e → e ≡ x
    same p = cc

    none_more : T (not (eqb x.key k)) → NoneOf k ws → NoneOf k (x ∷ ws)
    none_more t n c (here p) z = T_not (eqb x.key k) t (yes_eq (ap (λ (y : Entry). y.key) (sym p) ∙ z))
    none_more t n c (there m) z = n c m z

    go : T (eqb x.key k) ⊎ T (not (eqb x.key k)) → (((if eqb x.key k then some x else o) ≡ some e) × NoneOf k ws) ⊎ (Mem e ws × (e.key ≡ k))
        → ((o ≡ some e) × NoneOf k (x ∷ ws)) ⊎ (Mem e (x ∷ ws) × (e.key ≡ k))
    go t (inr h) = inr (there h.0, h.1)
    go (inl t) (inl h) =
        let p : e ≡ x = same (rw (is_true (eqb x.key k) t) at h.0) in
        inr (here p, ap (λ (y : Entry). y.key) p ∙ eqb→eq x.key k t)
    go (inr t) (inl h) = inl (rw (is_false (eqb x.key k) t) at h.0, none_more t h.1)

-- what was written was written by a record that committed
wrote_committed : (S : State) (m : Option Rec) {e : Entry} → Mem e (wrote S (points_of m) (verdict S m))
    → (r : Rec) × (m ≡ some r) × (verdict S (some r) ≡ committed) × Mem e (writes_of S r.points)
wrote_committed S none {e} m = absurd (go (verdict S none) m)
  where
    go : (a : Verdict) → Mem e (wrote S [] a) → ⊥
    go committed m = elim (subst (λ (ws : List Entry). Mem e ws) (writes_none S) m) [ ]
    go conflict m = elim m [ ]
    go too_old m = elim m [ ]
    go no_room m = elim m [ ]
    go malformed m = elim m [ ]
    go ahead m = elim m [ ]
    go positions_used_up m = elim m [ ]
wrote_committed S (some r) {e} m = let x = go (verdict S (some r)) m in (r, refl, x.0, x.1)
  where
    go : (a : Verdict) → Mem e (wrote S r.points a) → (a ≡ committed) × Mem e (writes_of S r.points)
    go committed m = (refl, m)
    go conflict m = elim m [ ]
    go too_old m = elim m [ ]
    go no_room m = elim m [ ]
    go malformed m = elim m [ ]
    go ahead m = elim m [ ]
    go positions_used_up m = elim m [ ]

-- from a state on, a record of the log wrote the entry, and none behind it wrote the key
record LastIn (S : State) (log : Log) (k : ℕ) (e : Entry) : Type 0 where
  before : Log
  writer : Rec
  behind : Log
  stands : log ≡ before ++ (some writer ∷ behind)
  committed_there : verdict (after S before) (some writer) ≡ committed
  wrote_there : Mem e (writes_of (after S before) writer.points)
  none_behind : NoneOf k (commits (next (after S before) (some writer)) behind)

-- what a log leaves under a key was there before, and no record of it wrote the key; or one did
last_in : (k : ℕ) (S : State) (o : Option Entry) (log : Log) {e : Entry} → last_write k o (commits S log) ≡ some e
    → ((o ≡ some e) × NoneOf k (commits S log)) ⊎ ((e.key ≡ k) × LastIn S log k e)
unfolding commits after
last_in k S o [] q = inl (q, λ c m. elim m [ ])
last_in k S o (m ∷ log) {e} q = go (last_in k (next S m) (last_write k o first) log (sym (last_write_append k o first (commits (next S m) log)) ∙ q))
  where
    first : List Entry
    first = wrote S (points_of m) (verdict S m)

    Answer : Type 0
    Answer = ((o ≡ some e) × NoneOf k (first ++ commits (next S m) log)) ⊎ ((e.key ≡ k) × LastIn S (m ∷ log) k e)

    here_or : NoneOf k (commits (next S m) log) → ((o ≡ some e) × NoneOf k first) ⊎ (Mem e first × (e.key ≡ k)) → Answer
    here_or n (inl h) = inl (h.0, λ c i z. elim (in-append first i) [ inl a ↦ h.1 c a z | inr b ↦ n c b z ])
    here_or n (inr h) =
        let (r, is, done, i) = wrote_committed S m h.0 in
        inr (
          h.1,
          record {
            before = [];
            writer = r;
            behind = log;
            stands = ap (λ (x : Option Rec). x ∷ log) is;
            committed_there = done;
            wrote_there = i;
            none_behind = subst (λ (x : Option Rec). NoneOf k (commits (next S x) log)) is n;
          },
        )

    go : ((last_write k o first ≡ some e) × NoneOf k (commits (next S m) log)) ⊎ ((e.key ≡ k) × LastIn (next S m) log k e) → Answer
    go (inl h) = here_or h.1 (last_or k o first h.0)
    go (inr h) = let l = h.1 in inr (
      h.0,
      record {
        before = m ∷ l.before;
        writer = l.writer;
        behind = l.behind;
        stands = ap (λ (xs : Log). m ∷ xs) l.stands;
        committed_there = l.committed_there;
        wrote_there = l.wrote_there;
        none_behind = l.none_behind;
      },
    )

-- where a position is left, the position is the number of records
position_counts : (S : State) (log : Log) → (after S log).p < last_position → (after S log).p ≡ S.p + length log
unfolding after
position_counts S [] l = omega arith
position_counts S (m ∷ log) l =
    let on : (next S m).p ≡ S.p + 1 = next_p S m (omega (arith, l, after_up S (m ∷ log))) in
    omega (arith, on, position_counts (next S m) log l)

-- R51: what has beaten a record is a record of the log
pub writer_in_the_log : (N Z : ℕ) (log : Log) (r : Rec) (k w : ℕ) → BeatenBy N Z log r k w → LastWriter N Z log k w
writer_in_the_log N Z log r k w h = go (last_in k (fresh N Z) none log h.last)
  where
    go : ((none ≡ some h.write) × NoneOf k (commits (fresh N Z) log)) ⊎ ((h.write.key ≡ k) × LastIn (fresh N Z) log k h.write) → LastWriter N Z log k w
    go (inl x) = let q : none ≡ some h.write = x.0 in let z : ◌≡◌ {A = ℕ} 0 1 = cc in absurd (omega arith)
    go (inr x) =
        let l = x.1 in
        let v : (after (fresh N Z) l.before).p + 1 ≡ w = sym (writes_at (after (fresh N Z) l.before) l.writer.points l.wrote_there) ∙ h.at_position in
        let left = ((commits_exactly N Z l.before (some l.writer)).0 l.committed_there).position_left in
        record {
          before = l.before;
          writer = l.writer;
          behind = l.behind;
          stands = l.stands;
          number = omega (arith, v, position_counts (fresh N Z) l.before left);
          committed_there = l.committed_there;
          wrote = (h.write, l.wrote_there, x.0);
          none_behind = l.none_behind;
        }
