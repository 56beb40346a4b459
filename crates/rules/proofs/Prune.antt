-- Dropping entries, in the tree: what is left is the tree of the entries that are left.
-- Assumes nothing.
use Prim.Native.Nat.{ℕ, suc, ◌+◌, ◌^◌, ◌<◌}
use native.Mathlib.Omega.{arith}
use mathlib.Core.Path.{◌≡◌, refl, sym, ap, ◌∙◌}
use mathlib.Core.Logic.{⊎_elim}
use mathlib.Core.Bool.{Bool, not}
use mathlib.Core.List.{List}
use lib.Dec.{T, ltb, lt→ltb}
use Rattle.std.specs.Prelude.{if◌then◌else◌}
use Rattle.rules.specs.Lists.{keep}
use Rattle.rules.specs.State.{Entry, Rising, is_live}
use Rattle.rules.specs.Verdict.{young}
use Rattle.rules.specs.Tree.{Tree, empty, leaf, node, entries, join, tree_of, oldest}
use Rattle.rules.proofs.Tests.{if_ind, is_true, is_false, test, or_left, or_right, keep_append}
use Rattle.rules.specs.Shape.{Canonical, none, one, two, on_left, on_right}
use Rattle.rules.proofs.Trees.{join_full, entries_join, join_canonical, tree_of_canonical, entries_tree_of, tree_of_entries}

-- what is left of a tree once the entries that fail the test are gone
unfoldable pub prune : (Entry → Bool) → Tree → Tree
prune f empty = empty
prune f (leaf e) = if f e then leaf e else empty
prune f (node h low l r) = join h low (prune f l) (prune f r)

-- its leaves are the entries that pass
pub prune_entries : (f : Entry → Bool) (t : Tree) → entries (prune f t) ≡ keep f (entries t)
unfolding prune entries
prune_entries f empty = refl
prune_entries f (leaf e) = ⊎_elim (λ t. rw (is_true (f e) t)) (λ t. rw (is_false (f e) t)) (test (f e))
prune_entries f (node h low l r) = entries_join h low (prune f l) (prune f r) ∙ rw (prune_entries f l, prune_entries f r) (sym (keep_append f (entries l) (entries r)))

-- its shape stays
pub prune_canonical : (f : Entry → Bool) {h low : ℕ} {t : Tree} → Canonical h low t → Canonical h low (prune f t)
unfolding prune
prune_canonical f none = none
prune_canonical f {h} {low} (one {e = e} a b) = if_ind (λ t. Canonical h low t) (f e) (λ _. one a b) (λ _. none)
prune_canonical f (two {h = h} {low = low} {l = l} {r = r} a b x y) = join_canonical h low (prune f l) (prune f r) (prune_canonical f x) (prune_canonical f y)
prune_canonical f (on_left x) = on_left (prune_canonical f x)
prune_canonical f (on_right x) = on_right (prune_canonical f x)

-- pruning the tree of the entries gives the tree of those that pass
pub prune_tree_of : (f : Entry → Bool) (h low : ℕ) {es : List Entry} → Rising (low + 2 ^ h) low es → prune f (tree_of h low es) ≡ tree_of h low (keep f es)
prune_tree_of f h low {es} r = sym (tree_of_entries (prune_canonical f (tree_of_canonical h low r))) ∙ ap (tree_of h low) (prune_entries f (tree_of h low es) ∙ ap (keep f) (entries_tree_of h low r))

-- the drop of old tombstones at v
abbrev pub drop_old : ℕ → ℕ → Tree → Tree
drop_old z v t = prune (young z v) t

-- a leaf whose oldest is young is not old
young_leaf : (z v : ℕ) (e : Entry) → v < oldest (leaf e) + z → T (young z v e)
unfolding young oldest
young_leaf z v e l = ⊎_elim
    (λ (t : T (is_live e.payload)). or_left (is_live e.payload) (ltb v (e.position + z)) t)
    (λ (t : T (not (is_live e.payload))). or_right (is_live e.payload) (ltb v (e.position + z))
    (lt→ltb v (e.position + z) (rw (is_false (is_live e.payload) t) at l)))
    (test (is_live e.payload))

-- where the oldest tombstone is young there is nothing to drop: a subtree can be passed over
pub drop_nothing : (z v : ℕ) {h low : ℕ} {t : Tree} → Canonical h low t → v < oldest t + z → drop_old z v t ≡ t
unfolding prune oldest
drop_nothing z v none l = refl
drop_nothing z v (one {e = e} a b) l = rw (is_true (young z v e) (young_leaf z v e l))
drop_nothing z v (two {h = h} {low = low} {l = x} {r = y} a b f g) l =
    rw (drop_nothing z v f (omega arith), drop_nothing z v g (omega arith)) (join_full (suc h) low x y a b)
drop_nothing z v (on_left f) l = drop_nothing z v f l
drop_nothing z v (on_right f) l = drop_nothing z v f l
