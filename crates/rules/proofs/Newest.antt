-- The newest and the oldest of a tree, by its leaves.
-- Assumes nothing.
use Prim.Native.Nat.{ℕ, max, min, ◌≤◌, ◌<◌}
use native.Mathlib.Omega.{arith}
use mathlib.Core.Path.{refl, ap, subst}
use mathlib.Core.Logic.{◌⊎◌, inl, inr, ⊎_elim}
use mathlib.Core.Bool.{not}
use mathlib.Core.List.Memᴰ.{append_cases as in-append}
use mathlib.Core.List.Memᴰ.{append_left as in_left}
use mathlib.Core.List.Memᴰ.{append_right as in_right}
use mathlib.Core.List.Memᴰ.{head as here}
use mathlib.Core.List.Memᴰ.{tail as there}
use mathlib.Core.List.{Memᴰ as Mem}
use lib.Dec.{T}
use Rattle.rules.specs.State.{Entry, is_live}
use Rattle.rules.specs.Tree.{Tree, empty, leaf, node, entries, newest, oldest}
use Rattle.rules.proofs.Tests.{is_false, le_or_lt}

-- no leaf is newer
pub newest_max : (t : Tree) {e : Entry} → Mem e (entries t) → e.position ≤ newest t
unfolding entries newest
newest_max empty m = elim m [ ]
newest_max (leaf x) (here p) = omega (arith, ap (λ (z : Entry). z.position) p)
newest_max (leaf x) (there m) = elim m [ ]
newest_max (node h low l r) {e} m = ⊎_elim (λ (a : Mem e (entries l)). go (inl (newest_max l a))) (λ (b : Mem e (entries r)). go (inr (newest_max r b))) (in-append (entries l) m)
  where
    go : (e.position ≤ newest l) ⊎ (e.position ≤ newest r) → e.position ≤ max (newest l) (newest r)
    go (inl h) = omega arith
    go (inr h) = omega arith

-- some leaf is as new as the whole
pub newest_leaf : (s : ℕ) (t : Tree) → s < newest t → (e : Entry) × Mem e (entries t) × (s < e.position)
unfolding newest entries
newest_leaf s empty h = absurd (omega arith)
newest_leaf s (leaf e) h = (e, here refl, h)
newest_leaf s (node k low l r) h = ⊎_elim
    (λ (i : newest l ≤ s). let x = newest_leaf s r (omega arith) in (x.0, in_right (entries l) x.1, x.2))
    (λ (i : s < newest l). let x = newest_leaf s l i in (x.0, in_left (entries r) x.1, x.2))
    (le_or_lt (newest l) s)

-- no tombstone is older
pub oldest_min : (t : Tree) {e : Entry} → Mem e (entries t) → T (not (is_live e.payload)) → oldest t ≤ e.position
unfolding entries oldest
oldest_min empty m d = elim m [ ]
oldest_min (leaf x) {e} (here p) d =
    rw (is_false (is_live x.payload) (subst (λ (z : Entry). T (not (is_live z.payload))) p d)) (omega (arith, ap (λ (z : Entry). z.position) p))
oldest_min (leaf x) (there m) d = elim m [ ]
oldest_min (node h low l r) {e} m d = ⊎_elim (λ (a : Mem e (entries l)). go (inl (oldest_min l a d))) (λ (b : Mem e (entries r)). go (inr (oldest_min r b d))) (in-append (entries l) m)
  where
    go : (oldest l ≤ e.position) ⊎ (oldest r ≤ e.position) → min (oldest l) (oldest r) ≤ e.position
    go (inl h) = omega arith
    go (inr h) = omega arith
