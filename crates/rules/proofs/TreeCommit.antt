-- A commit, in the tree: old tombstones dropped if need be, then the writes stored one after the other.
-- Assumes nothing.
use Prim.Native.Nat.{◌+◌, ◌^◌, ◌≤◌, ◌<◌}
use native.Mathlib.Omega.{arith}
use mathlib.Core.Path.{◌≡◌, sym}
use mathlib.Core.Logic.{⊎_elim}
use mathlib.Core.List.{List, Memᴰ as Mem}
use Rattle.record.specs.Record.{Rec, Valid}
use Rattle.std.specs.Prelude.{if◌then◌else◌}
use Rattle.rules.specs.State.{Entry, State, Lawful}
use Rattle.rules.specs.Footprint.{writes_of}
use Rattle.rules.specs.Verdict.{young, drops, apply}
use Rattle.rules.specs.Tree.{tree_of}
use Rattle.rules.proofs.Tests.{is_true, is_false, test}
use Rattle.rules.proofs.Sorted.{keep_rising}
use Rattle.rules.proofs.Written.{written_sized}
use Rattle.rules.proofs.Prune.{drop_old, prune_tree_of}
use Rattle.rules.proofs.Insert.{insert_all, insert_all_tree_of}

-- the tree after a commit, from the tree before it
pub tree_commit : {S : State} {r : Rec} → Lawful S → Valid r
    → tree_of 32 0 (apply S r.points)
    ≡ insert_all 32 0 (writes_of S r.points)
    (if drops S r.points then drop_old S.Z (S.p + 1) (tree_of 32 0 S.kept) else tree_of 32 0 S.kept)
unfolding apply
tree_commit {S} {r} l v = ⊎_elim
    (λ t. rw (is_true (drops S r.points) t, prune_tree_of (young S.Z (S.p + 1)) 32 0 l.rising)
    (sym (insert_all_tree_of 32 0 ws (keep_rising (young S.Z (S.p + 1)) l.rising) keys)))
    (λ t. rw (is_false (drops S r.points) t) (sym (insert_all_tree_of 32 0 ws l.rising keys)))
    (test (drops S r.points))
  where
    ws : List Entry
    ws = writes_of S r.points

    keys : (w : Entry) → Mem w ws → (0 ≤ w.key) × (w.key < 2 ^ 32)
    keys w m = (omega arith, (written_sized S 0 r.points v.rising w m).0)
