-- Positions, limits and committed writes along a log.
-- Assumes nothing.
use Prim.Native.Nat.{◌+◌, ◌-◌, ◌≤◌, ◌<◌}
use native.Mathlib.Omega.{arith}
use mathlib.Core.Path.{◌≡◌, refl, ◌∙◌}
use mathlib.Core.Logic.{⊎_elim}
use mathlib.Core.List.Memᴰ.{append_cases as in-append}
use mathlib.Core.List.{List, [], ◌∷◌, ◌++◌, Memᴰ as Mem}
use mathlib.Core.Option.{Option, none, some}
use lib.Dec.{ltb, leb, leb→le}
use lib.ListN.{length}
use Rattle.record.specs.Record.{Rec}
use Rattle.record.specs.declared.point.Point.{Point}
use Rattle.rules.specs.State.{Entry, State, last_position}
use Rattle.rules.specs.Verdict.{Verdict, committed, conflict, too_old, no_room, malformed, ahead, positions_used_up, conflicts, count, refusal_or, judge, formed, points_of, verdict, left, next}
use Rattle.rules.specs.Log.{Log, after, is_writer, wrote, commits}
use Rattle.rules.proofs.Tests.{if_ind}
use Rattle.rules.proofs.Written.{writes_at}
use Rattle.rules.proofs.Stored.{}

-- POSITIONS

-- every answer but 6 uses up a position
formed_p : (S : State) (m : Option Rec) → (left S (points_of m) (formed S m)).p ≡ S.p + 1
unfolding judge refusal_or
formed_p S none = refl
formed_p S (some r) =
    if_ind G (ltb S.p r.snapshot) (λ _. refl) (λ _.
    if_ind G (ltb S.Z (S.p - r.snapshot)) (λ _. refl) (λ _.
    if_ind G (conflicts S r) (λ _. refl) (λ _.
    if_ind G (ltb S.N (count S r.points)) (λ _. refl) (λ _. refl))))
  where
    G : Verdict → Type 0
    G a = (left S r.points a).p ≡ S.p + 1

-- a record uses up a position, where one is left
pub next_p : (S : State) (m : Option Rec) → S.p < last_position → (next S m).p ≡ S.p + 1
unfolding next verdict
next_p S m l = if_ind (λ a. (left S (points_of m) a).p ≡ S.p + 1) (leb last_position S.p) (λ t. absurd (omega (arith, leb→le last_position S.p t))) (λ _. formed_p S m)

-- a log uses up as many as it has records
pub after_p : (S : State) (ms : Log) → S.p + length ms ≤ last_position → (after S ms).p ≡ S.p + length ms
unfolding after
after_p S [] h = omega arith
after_p S (m ∷ ms) h = let e = next_p S m (omega arith) in omega (arith, e, after_p (next S m) ms (omega arith))

-- no answer goes back
left_up : (S : State) (ps : List Point) (a : Verdict) → S.p ≤ (left S ps a).p
left_up S ps committed = omega arith
left_up S ps conflict = omega arith
left_up S ps too_old = omega arith
left_up S ps no_room = omega arith
left_up S ps malformed = omega arith
left_up S ps ahead = omega arith
left_up S ps positions_used_up = omega arith

-- no answer changes Z
left_Z : (S : State) (ps : List Point) (a : Verdict) → (left S ps a).Z ≡ S.Z
left_Z S ps committed = refl
left_Z S ps conflict = refl
left_Z S ps too_old = refl
left_Z S ps no_room = refl
left_Z S ps malformed = refl
left_Z S ps ahead = refl
left_Z S ps positions_used_up = refl

-- no answer changes N
left_N : (S : State) (ps : List Point) (a : Verdict) → (left S ps a).N ≡ S.N
left_N S ps committed = refl
left_N S ps conflict = refl
left_N S ps too_old = refl
left_N S ps no_room = refl
left_N S ps malformed = refl
left_N S ps ahead = refl
left_N S ps positions_used_up = refl

-- no log goes back
pub after_up : (S : State) (ms : Log) → S.p ≤ (after S ms).p
unfolding after next
after_up S [] = omega arith
after_up S (m ∷ ms) = omega (arith, left_up S (points_of m) (verdict S m), after_up (next S m) ms)

-- no log changes Z
pub after_Z : (S : State) (ms : Log) → (after S ms).Z ≡ S.Z
unfolding after next
after_Z S [] = refl
after_Z S (m ∷ ms) = after_Z (next S m) ms ∙ left_Z S (points_of m) (verdict S m)

-- no log changes N
pub after_N : (S : State) (ms : Log) → (after S ms).N ≡ S.N
unfolding after next
after_N S [] = refl
after_N S (m ∷ ms) = after_N (next S m) ms ∙ left_N S (points_of m) (verdict S m)

-- two logs, one after the other
pub after_append : (S : State) (a b : Log) → after S (a ++ b) ≡ after (after S a) b
unfolding after
after_append S [] b = refl
after_append S (m ∷ a) b = after_append (next S m) a b

-- COMMITTED WRITES

-- what a record wrote stands at its position
wrote_at : (S : State) (ps : List Point) (a : Verdict) {c : Entry} → Mem c (wrote S ps a) → c.position ≡ S.p + 1
wrote_at S ps a {c} = if_ind (λ (ws : List Entry). Mem c ws → c.position ≡ S.p + 1) (is_writer a) (λ _ m. writes_at S ps m) (λ _ m. elim m [ ])

-- what a log committed stands above where it began
pub commits_above : (S : State) (ms : Log) {c : Entry} → Mem c (commits S ms) → S.p < c.position
unfolding commits next
commits_above S [] m = elim m [ ]
commits_above S (x ∷ ms) {c} m = ⊎_elim
    (λ (a : Mem c (wrote S (points_of x) (verdict S x))). omega (arith, wrote_at S (points_of x) (verdict S x) a))
    (λ (b : Mem c (commits (next S x) ms)). omega (arith, left_up S (points_of x) (verdict S x), commits_above (next S x) ms b))
    (in-append (wrote S (points_of x) (verdict S x)) m)
