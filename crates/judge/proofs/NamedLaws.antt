-- The leaf that `judge_and_name` names with a conflict is that of the smallest key in conflict.
-- Assumes nothing.
use Prim.Native.Nat.{ℕ, ◌-◌}
use mathlib.Core.Path.{◌≡◌, refl, sym, ap, ◌∙◌}
use mathlib.Core.Bool.{Bool, true, false}
use mathlib.Core.List.{List}
use native.Mathlib.Omega.{arith}
use lib.Dec.{T, ltb}
use Rattle.record.specs.declared.point.Scan.{Scan}
use Rattle.std.specs.Prelude as Code
use Rattle.std.specs.Prelude.{if◌then◌else◌, Some}
use Rattle.std.proofs.lemmas.Option.{none-some}
use Rattle.rules.specs.State.{State}
use Rattle.rules.specs.Verdict.{Verdict, committed, conflict, too_old, no_room, malformed, ahead, positions_used_up, verdict_answer, hits, conflicts_at, refusal_or}
use Rattle.rules.proofs.Tests.{of_any}
use Rattle.pool.specs.Image.{Arrangement, Image, state_of}
use Rattle.conflict_search.specs.Conflict.{leaves_or, first_hit}
use Rattle.conflict_search.specs.Smallest.{NamedLeaf}
use Rattle.conflict_search.proofs.Smallest.{named_least}
use Rattle.judge.specs.declared.judged.Named.{Named}
use Rattle.judge.specs.Judged.{judged_of, leaf_for, named_in}

-- only one verdict has the number 1
pub one_is_conflict : (v : Verdict) → (verdict_answer v).number ≡ 1 → v ≡ conflict
one_is_conflict committed e = absurd (omega arith)
one_is_conflict conflict e = refl
one_is_conflict too_old e = absurd (omega arith)
one_is_conflict no_room e = absurd (omega arith)
one_is_conflict malformed e = absurd (omega arith)
one_is_conflict ahead e = absurd (omega arith)
one_is_conflict positions_used_up e = absurd (omega arith)

-- rows 5, 2 and 1 say conflict only where there is one
conflict_there : (S : State) (s : ℕ) (f : List Scan) → refusal_or S s f committed ≡ conflict → T (conflicts_at S s f)
unfolding refusal_or
conflict_there S s f e = go (ltb S.p s) (ltb S.Z (S.p - s)) (conflicts_at S s f) (ap (λ (v : Verdict). (verdict_answer v).number) e)
  where
    go : (a b c : Bool) → (verdict_answer (if a then ahead else if b then too_old else if c then conflict else committed)).number ≡ 1 → T c
    go true b c h = absurd (omega arith)
    go false true c h = absurd (omega arith)
    go false false true h = tt
    go false false false h = absurd (omega arith)

module _ (m : List ℕ) (s : ℕ) (f : List Scan) (x : Named) (is : (A : Arrangement) → Image m A → x ≡ named_in A s f) (one : x.judged.answer.number ≡ 1) where
  -- rows 5, 2 and 1 say conflict
  pub says_conflict : (A : Arrangement) → Image m A → refusal_or (state_of A) s f committed ≡ conflict
  unfolding named_in judged_of
  says_conflict A i = one_is_conflict (refusal_or (state_of A) s f committed) (sym (ap (λ (y : Named). y.judged.answer.number) (is A i)) ∙ one)

  pub named_smallest : (A : Arrangement) → Image m A → (j : ℕ) × (x.leaf ≡ Some j) × NamedLeaf m A s f j
  unfolding named_in
  named_smallest A i =
      let v = says_conflict A i in
      let y = of_any (hits s f) (state_of A).kept (conflict_there (state_of A) s f v) in
      let least = named_least i s f y.0 y.1 y.2 in
      (least.0, ap (λ (z : Named). z.leaf) (is A i) ∙ ap (leaf_for (first_hit s f (leaves_or A.tree))) v ∙ least.1, least.2)

-- a leaf is named only with a conflict
pub named_conflict : (m : List ℕ) (s : ℕ) (f : List Scan) (x : Named) → ((A : Arrangement) → Image m A → x ≡ named_in A s f)
    → (j : ℕ) → x.leaf ≡ Some j → (A : Arrangement) → Image m A → x.judged.answer.number ≡ 1
unfolding named_in judged_of
named_conflict m s f x is j e A i =
    let y = is A i in
    let v = refusal_or (state_of A) s f committed in
    ap (λ (z : Named). z.judged.answer.number) y ∙ ap (λ (w : Verdict). (verdict_answer w).number) (only_conflict (first_hit s f (leaves_or A.tree)) v (sym (ap (λ (z : Named). z.leaf) y) ∙ e))
  where
    only_conflict : (o : Code.Option ℕ) (v : Verdict) → leaf_for o v ≡ Some j → v ≡ conflict
    only_conflict o conflict q = refl
    only_conflict o committed q = absurd (none-some j q)
    only_conflict o too_old q = absurd (none-some j q)
    only_conflict o no_room q = absurd (none-some j q)
    only_conflict o malformed q = absurd (none-some j q)
    only_conflict o ahead q = absurd (none-some j q)
    only_conflict o positions_used_up q = absurd (none-some j q)
