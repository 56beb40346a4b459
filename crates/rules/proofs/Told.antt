-- What an answer of 0 or 1 tells of a record at a state, and what a conflict is: a kept key.
-- Assumes nothing.
use Prim.Native.Nat.{ℕ, ◌-◌, ◌≤◌, ◌<◌}
use native.Mathlib.Omega.{arith}
use mathlib.Core.Path.{◌≡◌, refl, sym, ap, ◌∙◌}
use mathlib.Core.Bool.{Bool, true, false}
use mathlib.Core.Option.{Option, some}
use mathlib.Core.List.{List, [], ◌∷◌, Memᴰ as Mem}
use lib.Dec.{T, ltb, leb, eqb, eqb→eq}
use borrow.Author.Tests.{ltb-false}
use Rattle.std.specs.Prelude.{if◌then◌else◌}
use Rattle.record.specs.Record.{Rec}
use Rattle.rules.specs.State.{Entry, State, key_in, last_position}
use Rattle.rules.specs.Footprint.{reach}
use Rattle.rules.specs.Lookup.{find}
use Rattle.rules.specs.Verdict.{Verdict, committed, conflict, too_old, no_room, ahead, positions_used_up, hits, conflicts, count, refusal_or, judge, verdict}
use Rattle.rules.specs.Demands.{Reaches}
use Rattle.rules.proofs.Tests.{if_ind, any_of, of_any}
use Rattle.rules.proofs.Reach.{hits_of, of_hits, meets_reaches, reaches_meets}

-- R23: a record is neither ahead nor too old
pub record InTime (S : State) (r : Rec) : Type 0 where
  pub not_ahead : r.snapshot ≤ S.p
  pub not_too_old : S.p - r.snapshot ≤ S.Z

-- R23's rows, by what each test says
abbrev tests : Bool → Bool → Bool → Bool → Bool → Verdict
tests a b c d e = if a then positions_used_up else (if b then ahead else (if c then too_old else (if d then conflict else (if e then no_room else committed))))

-- 0: each test but the first is read off
committed_tests : (a b c d e : Bool) → tests a b c d e ≡ committed → (b ≡ false) × (c ≡ false) × (d ≡ false) × (e ≡ false)
committed_tests true b c d e h = let z : ◌≡◌ {A = ℕ} 0 1 = cc in absurd (omega arith)
committed_tests false true c d e h = let z : ◌≡◌ {A = ℕ} 0 1 = cc in absurd (omega arith)
committed_tests false false true d e h = let z : ◌≡◌ {A = ℕ} 0 1 = cc in absurd (omega arith)
committed_tests false false false true e h = let z : ◌≡◌ {A = ℕ} 0 1 = cc in absurd (omega arith)
committed_tests false false false false true h = let z : ◌≡◌ {A = ℕ} 0 1 = cc in absurd (omega arith)
committed_tests false false false false false h = (refl, refl, refl, refl)

-- 1: the tests up to the conflict are
conflict_tests : (a b c d e : Bool) → tests a b c d e ≡ conflict → (b ≡ false) × (c ≡ false) × (d ≡ true)
conflict_tests true b c d e h = let z : ◌≡◌ {A = ℕ} 0 1 = cc in absurd (omega arith)
conflict_tests false true c d e h = let z : ◌≡◌ {A = ℕ} 0 1 = cc in absurd (omega arith)
conflict_tests false false true d e h = let z : ◌≡◌ {A = ℕ} 0 1 = cc in absurd (omega arith)
conflict_tests false false false true e h = (refl, refl, refl)
conflict_tests false false false false true h = let z : ◌≡◌ {A = ℕ} 0 1 = cc in absurd (omega arith)
conflict_tests false false false false false h = let z : ◌≡◌ {A = ℕ} 0 1 = cc in absurd (omega arith)

module _ (S : State) (r : Rec) where
  -- both tests failed
  in_time : ltb S.p r.snapshot ≡ false → ltb S.Z (S.p - r.snapshot) ≡ false → InTime S r
  in_time b c = record { not_ahead = ltb-false S.p r.snapshot b; not_too_old = ltb-false S.Z (S.p - r.snapshot) c }

  -- 0: in time, no conflict, and room
  pub of_committed : verdict S (some r) ≡ committed → InTime S r × (conflicts S r ≡ false) × (count S r.points ≤ S.N)
  unfolding verdict judge refusal_or
  of_committed h =
      let x = committed_tests (leb last_position S.p) (ltb S.p r.snapshot) (ltb S.Z (S.p - r.snapshot)) (conflicts S r) (ltb S.N (count S r.points)) h in
      (in_time x.0 x.1, x.2, ltb-false S.N (count S r.points) x.3)

  -- 1: in time, and a conflict
  pub of_conflict : verdict S (some r) ≡ conflict → InTime S r × (conflicts S r ≡ true)
  unfolding verdict judge refusal_or
  of_conflict h =
      let x = conflict_tests (leb last_position S.p) (ltb S.p r.snapshot) (ltb S.Z (S.p - r.snapshot)) (conflicts S r) (ltb S.N (count S r.points)) h in
      (in_time x.0 x.1, x.2)

  -- R24: a conflict is a kept key above s that the record names or scans
  pub beats : T (conflicts S r) → (e : Entry) × Mem e S.kept × (r.snapshot < e.position) × Reaches r e.key
  beats t = let x = of_any (hits r.snapshot (reach r)) S.kept t in let h = of_hits r.snapshot (reach r) x.0 x.2 in (x.0, x.1, h.0, meets_reaches r x.0.key h.1)

  -- and the reverse
  pub beaten : (e : Entry) → Mem e S.kept → r.snapshot < e.position → Reaches r e.key → T (conflicts S r)
  beaten e m l x = any_of (hits r.snapshot (reach r)) m (hits_of r.snapshot (reach r) e l (reaches_meets r e.key x))

-- what is found under a key has the key
pub find_key : (k : ℕ) (es : List Entry) {e : Entry} → find k es ≡ some e → e.key ≡ k
find_key k [] {e} = λ q. let z : ◌≡◌ {A = ℕ} 0 1 = cc in absurd (omega arith)
find_key k (x ∷ xs) {e} = if_ind (λ (o : Option Entry). o ≡ some e → e.key ≡ k) (eqb x.key k) (λ t q. let z : x ≡ e = cc in ap key_in (sym z) ∙ eqb→eq x.key k t) (λ _ q. find_key k xs q)
