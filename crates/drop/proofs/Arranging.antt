-- The drop in an arrangement: its state keeps what is not old, and it is an arrangement again.
-- Assumes nothing.
use Prim.Native.Nat.{ℕ, ◌+◌, ◌-◌, ◌*◌, ◌≤◌}
use native.Mathlib.Omega.{arith}
use mathlib.Core.Path.{◌≡◌, refl, sym, ap, ◌∙◌}
use mathlib.Core.Bool.{Bool}
use mathlib.Core.List.{List, ◌++◌}
use mathlib.Core.Option.{Option, none, some}
use lib.ListN.{length, length-append}
use Rattle.rules.specs.Lists.{keep}
use Rattle.rules.specs.State.{Entry, State, Lawful}
use Rattle.rules.specs.Verdict.{young}
use Rattle.rules.specs.Tree.{tree_of, entries}
use Rattle.rules.proofs.Tests.{keep_mem}
use Rattle.rules.proofs.Sorted.{keep_rising}
use Rattle.rules.proofs.Prune.{prune, prune_entries, prune_tree_of}
use Rattle.pool.specs.Plan.{Plan}
use Rattle.pool.specs.Image.{Arrangement, Arranged, tree_or, numbers_or, state_of}
use Rattle.pool.specs.Times.{times}
use Rattle.pool.proofs.Numbers.{times_append, distinct_times, times_distinct, below_times, times_below}
use Rattle.drop.specs.Old.{old, stays}
use Rattle.drop.specs.Drop.{drop_tree, freed_tree, drop_in}
use Rattle.drop.proofs.Olds.{keep_young, old_or_stays}
use Rattle.drop.proofs.Plans.{drop_tree_lem, drop_times, drop-length}

-- THE TREE OF AN ARRANGEMENT, IF THERE IS ONE

-- what is left is the pruned tree
tree_left : (limit : ℕ) (X : Option Plan) → tree_or (drop_tree limit X) ≡ prune (stays limit) (tree_or X)
unfolding prune
tree_left limit none = refl
tree_left limit (some T) = drop_tree_lem limit T

-- each number as often as before
tree_times : (j limit : ℕ) (X : Option Plan) (F : List ℕ) → times j (numbers_or (drop_tree limit X)) + times j (freed_tree limit X F) ≡ times j (numbers_or X) + times j F
tree_times j limit none F = refl
tree_times j limit (some T) F = drop_times j limit T F

-- and as many in all
tree_length : (limit : ℕ) (X : Option Plan) (F : List ℕ) → length (numbers_or (drop_tree limit X)) + length (freed_tree limit X F) ≡ length (numbers_or X) + length F
tree_length limit none F = refl
tree_length limit (some T) F = drop-length limit T F

-- THE STATE

-- what is kept is what is not old
pub drop_kept : (limit : ℕ) (A : Arrangement) → (state_of (drop_in limit A)).kept ≡ keep (stays limit) (state_of A).kept
drop_kept limit A = ap entries (tree_left limit A.tree) ∙ prune_entries (stays limit) (tree_or A.tree)

-- and all else is as it was
pub drop_state : (limit : ℕ) (A : Arrangement) → state_of (drop_in limit A) ≡ record { N = A.N; Z = A.Z; p = A.p; kept = keep (stays limit) (state_of A).kept }
drop_state limit A = ap (with_kept A) (drop_kept limit A)
  where
    with_kept : Arrangement → List Entry → State
    with_kept A es = record { N = A.N; Z = A.Z; p = A.p; kept = es }

-- at v the arrangement without its old tombstones keeps what the rules keep
pub drop_young : (z v : ℕ) (A : Arrangement) → Arranged A → (state_of (drop_in (v - z) A)).kept ≡ keep (young z v) (state_of A).kept
drop_young z v A g = drop_kept (v - z) A ∙ sym (keep_young z v (state_of A).kept (λ e m. (g.lawful.positions e m).0))

-- so many are old as the rules would drop
pub old_count : (z v : ℕ) (A : Arrangement) → Arranged A → length (keep (old (v - z)) (state_of A).kept) + length (keep (young z v) (state_of A).kept) ≡ length (state_of A).kept
old_count z v A g = ap (λ (es : List Entry). length (keep (old (v - z)) (state_of A).kept) + length es) (keep_young z v (state_of A).kept (λ e m. (g.lawful.positions e m).0)) ∙ old_or_stays (v - z) (state_of A).kept

-- fewer entries of a lawful state are a lawful state
lawful_keep : (f : Entry → Bool) {S : State} → Lawful S → length (keep f S.kept) ≤ length S.kept → Lawful (record { N = S.N; Z = S.Z; p = S.p; kept = keep f S.kept })
lawful_keep f {S} l h = record {
  limit_N = l.limit_N;
  limit_Z = l.limit_Z;
  last = l.last;
  few = omega (arith, l.few);
  rising = keep_rising f l.rising;
  positions = λ e m. l.positions e (keep_mem f S.kept m);
  payloads = λ e m. l.payloads e (keep_mem f S.kept m);
}

-- it is an arrangement again: tree and free nodes together are all nodes, each once
pub drop_arranged : (limit : ℕ) (A : Arrangement) → Arranged A → Arranged (drop_in limit A)
drop_arranged limit A g = record {
  lawful = rw (drop_state limit A) (lawful_keep (stays limit) g.lawful (omega (arith, old_or_stays limit (state_of A).kept)));
  shape = tree_left limit A.tree ∙ ap (prune (stays limit)) g.shape ∙ prune_tree_of (stays limit) 32 0 g.lawful.rising ∙ ap (tree_of 32 0) (sym (drop_kept limit A));
  below = times_below (2 * A.N) (numbers_or (drop_tree limit A.tree) ++ freed_tree limit A.tree A.free) (λ j h. joined j ∙ below_times (2 * A.N) (numbers_or A.tree ++ A.free) g.below j h);
  distinct = times_distinct (numbers_or (drop_tree limit A.tree) ++ freed_tree limit A.tree A.free) (λ j. omega (arith, joined j, distinct_times (numbers_or A.tree ++ A.free) g.distinct j));
  all = length-append (numbers_or (drop_tree limit A.tree)) (freed_tree limit A.tree A.free) ∙ tree_length limit A.tree A.free ∙ sym (length-append (numbers_or A.tree) A.free) ∙ g.all;
}
  where
    joined : (j : ℕ) → times j (numbers_or (drop_tree limit A.tree) ++ freed_tree limit A.tree A.free) ≡ times j (numbers_or A.tree ++ A.free)
    joined j = times_append j (numbers_or (drop_tree limit A.tree)) (freed_tree limit A.tree A.free) ∙ tree_times j limit A.tree A.free ∙ sym (times_append j (numbers_or A.tree) A.free)
