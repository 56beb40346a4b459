-- Joined or one by one, at the level of states (R58): a lawful state, two records and the one that they make.
-- The idea: a and b reach no more than j, so a conflict of theirs with what was kept is one of j; what a wrote b does not reach. Every key that has to
-- find room for a, or for b behind a, has to find room for j. A kept key above the snapshot is too young to be dropped by a, so a conflict of j that lies in
-- what b reaches is still met by b.
-- Assumes nothing.
use Prim.Native.Nat.{ℕ, ◌+◌, ◌-◌, ◌≤◌, ◌<◌}
use native.Mathlib.Omega.{arith}
use mathlib.Core.Path.{◌≡◌, refl, sym, ap, ◌∙◌, subst}
use mathlib.Core.Logic.{◌⊎◌, inl, inr, ⊎_elim}
use mathlib.Core.Bool.{true}
use mathlib.Core.Option.{Option, none, some}
use mathlib.Core.List.{Memᴰ as Mem}
use lib.Dec.{T, not_T}
use Rattle.record.specs.declared.point.Point.{Point}
use Rattle.record.specs.declared.point.Point.TheVariants.{Read, Put, Delete}
use Rattle.record.specs.Record.{Rec, Valid}
use Rattle.joiner.specs.Joined.{puts_or_deletes}
use Rattle.joiner.specs.ByKey.{entry_at, both_entries}
use Rattle.rules.specs.State.{Entry, State, last_position, Lawful}
use Rattle.rules.specs.Footprint.{live_at, writes, writes_of}
use Rattle.rules.specs.Lookup.{find}
use Rattle.rules.specs.Verdict.{Verdict, committed, conflict, too_old, no_room, malformed, ahead, positions_used_up, conflicts, apply, count, verdict, step, left, next}
use Rattle.rules.specs.Demands.{Reaches}
use Rattle.rules.proofs.Stored.{Covered, apply_mem, apply_covers}
use Rattle.rules.proofs.Finding.{find_mem, find_of}
use Rattle.rules.proofs.Positions.{next_p}
use Rattle.rules.proofs.Lawfulness.{lawful_next}
use Rattle.rules.proofs.RoomKeys.{written_by, young_before, Counts, count_within}
use Rattle.rules.proofs.Told.{InTime, of_committed, of_conflict, beats, beaten, find_key}
use Rattle.demands.proofs.Rows.{verdict_conflict, verdict_committed}
use Rattle.demands.proofs.JoinsUnder.{under, changed, under_apply}
use Rattle.demands.proofs.JoinsRecord.{AsOne}

-- a point that writes puts or deletes
changes : (S : State) (q : Point) → T (writes S q) → puts_or_deletes q ≡ true
changes S (Read k) t = absurd t
changes S (Put k x) t = refl
changes S (Delete k) t = refl

-- R57: what the entry of both makes of a payload is what b's makes of what a's makes
both_change : (x y : Option Point) (o : Option ℕ) → changed (both_entries x y) o ≡ changed y (changed x o)
both_change none y o = refl
both_change (some p) none o = refl
both_change (some p) (some (Read k)) o = refl
both_change (some p) (some (Put k x)) o = refl
both_change (some p) (some (Delete k)) o = refl

-- of two records that are said to be one
some_same : {x y : Rec} → some x ≡ some y → x ≡ y
some_same e = cc

-- the state behind a record that commits
behind_commit : (S : State) (r : Rec) → verdict S (some r) ≡ committed → next S (some r) ≡ step S (apply S r.points)
unfolding next
behind_commit S r e = ap (left S r.points) e

-- R58 of states: j answered 0 or 1, and what a answers there and b behind it
pub record AlikeAt (S : State) (a b j : Rec) : Type 0 where
  pub commits : verdict S (some j) ≡ committed → (verdict S (some a) ≡ committed) × (verdict (next S (some a)) (some b) ≡ committed)
      × ((k : ℕ) → under k (next S (some j)) ≡ under k (next (next S (some a)) (some b)))
  pub conflicts : verdict S (some j) ≡ conflict → (verdict S (some a) ≡ conflict) ⊎ (verdict (next S (some a)) (some b) ≡ conflict)

-- THE STATE, THE TWO AND THE ONE

module _ (S : State) (a b j : Rec) (l : Lawful S) (va : Valid a) (vb : Valid b) (vj : Valid j) (one : AsOne a b j)
    (positions : S.p + 1 < last_position) (zone : S.p + 1 - j.snapshot ≤ S.Z) where
  -- the state behind a, if it commits
  abbrev behind : State
  behind = step S (apply S a.points)

  -- what a writes, b does not reach
  apart : (e : Entry) → Mem e (writes_of S a.points) → Reaches b e.key → ⊥
  apart e m x = let y = written_by S a.points m in one.clear y.0 y.1 (changes S y.0 y.2) (subst (Reaches b) y.3 x)

  -- what b reaches behind a was kept before
  kept_before : (e : Entry) → Mem e (apply S a.points) → Reaches b e.key → Mem e S.kept
  kept_before e m x = ⊎_elim (λ (i : Mem e (writes_of S a.points)). absurd (apart e i x)) (λ (i : Mem e S.kept). i) (apply_mem S a.points m)

  -- a key that b deletes and that is live behind a was live before
  live_before : (k : ℕ) → Mem (Delete k) b.points → T (live_at (find k (apply S a.points))) → T (live_at (find k S.kept))
  live_before k m t = go (find k (apply S a.points)) refl t
    where
      go : (o : Option Entry) → find k (apply S a.points) ≡ o → T (live_at o) → T (live_at (find k S.kept))
      go none e u = absurd u
      go (some x) e u =
          let q : x.key ≡ k = find_key k (apply S a.points) e in
          let i = kept_before x (find_of k (apply S a.points) e) (inl (Delete k, m, sym q)) in
          subst (λ (o : Option Entry). T (live_at o)) (sym (find_mem l.rising i) ∙ ap (λ (n : ℕ). find n S.kept) q) u

  -- ROOM

  -- what a writes, j writes; so j needs no less room than a
  a_room : count S a.points ≤ count S j.points
  a_room = count_within S S a.points j.points among
    where
      among : (k : ℕ) → Counts S a.points k → Counts S j.points k
      among k (inl x) = inl x
      among k (inr x) = inr (x.0, one.a_writes x.0 x.1 (changes S x.0 x.2), x.2, x.3)

  -- what b writes behind a, it would write at S
  writes_before_lem : (q : Point) → Mem q b.points → T (writes behind q) → T (writes S q)
  writes_before_lem (Read k) m t = t
  writes_before_lem (Put k x) m t = t
  writes_before_lem (Delete k) m t = live_before k m t

  -- what is counted for b behind a is counted for j: what a wrote, what was kept and is still young, and what b writes
  b_room : count behind b.points ≤ count S j.points
  b_room = count_within behind S b.points j.points among
    where
      among : (k : ℕ) → Counts behind b.points k → Counts S j.points k
      among k (inl x) = ⊎_elim
          (λ (i : Mem x.0 (writes_of S a.points)).
          let y = written_by S a.points i in inr (y.0, one.a_writes y.0 y.1 (changes S y.0 y.2), y.2, x.3 ∙ y.3))
          (λ (i : Mem x.0 S.kept). inl (x.0, i, young_before S.Z (S.p + 1) x.0 x.2, x.3))
          (apply_mem S a.points x.1)
      among k (inr x) = inr (x.0, one.b_writes x.0 x.1 (changes behind x.0 x.2), writes_before_lem x.0 x.1 x.2, x.3)

  -- ANSWER 0

  module _ (h : verdict S (some j) ≡ committed) where
    -- j is neither ahead nor too old
    near : InTime S j
    near = (of_committed S j h).0

    -- no kept key above s is reached by j
    none_beats : (e : Entry) → Mem e S.kept → j.snapshot < e.position → Reaches j e.key → ⊥
    none_beats e m g x = subst T (of_committed S j h).1 (beaten S j e m g x)

    -- a commits at S
    a_commits : verdict S (some a) ≡ committed
    a_commits = verdict_committed S a (omega arith) (omega (arith, near.not_ahead, one.same_a)) (omega (arith, near.not_too_old, one.same_a))
        (not_T (conflicts S a) (λ t. let x = beats S a t in none_beats x.0 x.1 (omega (arith, x.2, one.same_a)) (one.a_reaches x.0.key x.3)))
        (omega (arith, a_room, (of_committed S j h).2))

    -- b commits behind a: v − s ≤ Z says that it is not too old there
    b_commits : verdict behind (some b) ≡ committed
    b_commits = verdict_committed behind b positions (omega (arith, near.not_ahead, one.same_b)) (omega (arith, zone, one.same_b))
        (not_T (conflicts behind b) (λ t. let x = beats behind b t in none_beats x.0 (kept_before x.0 x.1 x.3) (omega (arith, x.2, one.same_b)) (one.b_reaches x.0.key x.3)))
        (omega (arith, b_room, (of_committed S j h).2))

    -- that state is the next
    behind_a : next S (some a) ≡ behind
    behind_a = behind_commit S a a_commits

    -- a payload is what b's entry makes of what a's entry makes of it, either way
    alike : (k : ℕ) → under k (next S (some j)) ≡ under k (next (next S (some a)) (some b))
    alike k =
        ap (under k) (behind_commit S j h) ∙ under_apply k j.points l vj.rising
        ∙ ap (λ (o : Option Point). changed o (under k S)) (one.entries k)
        ∙ both_change (entry_at k a.points) (entry_at k b.points) (under k S)
        ∙ sym (ap (λ (R : State). under k (next R (some b))) behind_a ∙ ap (under k) (behind_commit behind b b_commits)
        ∙ under_apply k b.points (subst Lawful behind_a (lawful_next l (some a) (λ r e. subst Valid (some_same e) va))) vb.rising
        ∙ ap (changed (entry_at k b.points)) (under_apply k a.points l va.rising))

  -- ANSWER 1

  -- whatever a answers, the zone stays, and what was kept above s is kept, as new or newer
  pub record Stays (R : State) (e : Entry) : Type 0 where
    pub zone_is : R.Z ≡ S.Z
    pub still : Covered R.kept e.key e.position

  -- w > s ≥ v − Z: a drop does not take it
  stays : (e : Entry) → Mem e S.kept → j.snapshot < e.position → Stays (next S (some a)) e
  unfolding next
  stays e m g = go (verdict S (some a))
    where
      go : (v : Verdict) → Stays (left S a.points v) e
      go committed = record { zone_is = refl; still = apply_covers S a.points (omega (arith, l.positions e m)) (omega (arith, zone)) (e, m, refl, omega arith) }
      go conflict = record { zone_is = refl; still = (e, m, refl, omega arith) }
      go too_old = record { zone_is = refl; still = (e, m, refl, omega arith) }
      go no_room = record { zone_is = refl; still = (e, m, refl, omega arith) }
      go malformed = record { zone_is = refl; still = (e, m, refl, omega arith) }
      go ahead = record { zone_is = refl; still = (e, m, refl, omega arith) }
      go positions_used_up = record { zone_is = refl; still = (e, m, refl, omega arith) }

  -- the key in conflict is reached by a, or by b, and then b still meets it
  one_conflicts : verdict S (some j) ≡ conflict → (verdict S (some a) ≡ conflict) ⊎ (verdict (next S (some a)) (some b) ≡ conflict)
  one_conflicts h =
      let near = (of_conflict S j h).0 in
      let x = beats S j (subst T (sym (of_conflict S j h).1) tt) in
      let p = next_p S (some a) (omega arith) in
      let z = stays x.0 x.1 x.2 in
      let c = z.still in
      ⊎_elim
      (λ (y : Reaches a x.0.key). inl (verdict_conflict S a (omega arith) (omega (arith, near.not_ahead, one.same_a)) (omega (arith, near.not_too_old, one.same_a))
      (beaten S a x.0 x.1 (omega (arith, x.2, one.same_a)) y)))
      (λ (y : Reaches b x.0.key). inr (verdict_conflict (next S (some a)) b (omega (arith, p)) (omega (arith, p, near.not_ahead, one.same_b)) (omega (arith, p, zone, z.zone_is, one.same_b))
      (beaten (next S (some a)) b c.0 c.1 (omega (arith, x.2, c.3, one.same_b)) (subst (Reaches b) (sym c.2) y))))
      (one.reached x.0.key x.3)

  -- R58, for a state
  pub one_by_one : AlikeAt S a b j
  one_by_one = record {
    commits = λ h. (a_commits h, subst (λ (R : State). verdict R (some b) ≡ committed) (sym (behind_a h)) (b_commits h), alike h);
    conflicts = one_conflicts;
  }
