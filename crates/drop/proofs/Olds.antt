-- Old entries: what the rules call young is what is not old, and a tree whose oldest tombstone is above the limit holds nothing old.
-- Assumes nothing.
use Prim.Native.Nat.{ℕ, suc, ◌+◌, ◌-◌, ◌≤◌, ◌<◌}
use native.Mathlib.Omega.{arith}
use mathlib.Core.Path.{◌≡◌, refl, ◌∙◌}
use mathlib.Core.Logic.{⊎_elim}
use mathlib.Core.Bool.{Bool, true, false, not, ◌&&◌, ◌||◌}
use mathlib.Core.List.Memᴰ.{head as here}
use mathlib.Core.List.Memᴰ.{tail as there}
use mathlib.Core.List.{List, [], ◌∷◌, Memᴰ as Mem}
use lib.Dec.{T, ltb, leb, ltb→lt, leb→le, le→leb, not_T, T_not}
use lib.ListN.{length, length-append}
use Rattle.std.specs.Prelude.{if◌then◌else◌}
use Rattle.rules.specs.Lists.{keep}
use Rattle.rules.specs.State.{Entry, is_live}
use Rattle.rules.specs.Verdict.{young}
use Rattle.rules.specs.Tree.{Tree, empty, leaf, node, entries, oldest, no_tombstone}
use Rattle.rules.proofs.Tests.{same, test, is_true, no_le, yes_lt, keep_append, le_or_lt}
use Rattle.drop.specs.Old.{old, stays}

-- YOUNG IS NOT OLD

-- for one payload: live or above the limit
young_by : (b : Bool) (z v w : ℕ) → z ≤ v → b || ltb v (w + z) ≡ not (not b && leb w (v - z))
young_by true z v w h = refl
young_by false z v w h = same (ltb v (w + z)) (not (leb w (v - z)))
    (λ t. not_T (leb w (v - z)) (λ u. omega (arith, ltb→lt v (w + z) t, leb→le w (v - z) u)))
    (λ t. ⊎_elim (λ (u : T (ltb v (w + z))). u) (λ (u : T (not (ltb v (w + z)))). absurd (T_not (leb w (v - z)) t (le→leb w (v - z) (omega (arith, lib.Dec.nltb→le v (w + z) u))))) (test (ltb v (w + z))))

-- R27: tombstones w with w + Z ≤ v are those of at most v − Z
pub young_stays : (z v : ℕ) (e : Entry) → z ≤ v → young z v e ≡ stays (v - z) e
unfolding young old
young_stays z v e h = young_by (is_live e.payload) z v e.position h

-- nothing is old before position Z
pub young_early : (z v : ℕ) (e : Entry) → v < z → young z v e ≡ true
unfolding young
young_early z v e h = go (is_live e.payload)
  where
    go : (b : Bool) → b || ltb v (e.position + z) ≡ true
    go true = refl
    go false = yes_lt {a = v} {b = e.position + z} (omega arith)

-- no write stands at position 0, so nothing is old at limit 0
pub none_at_zero : (e : Entry) → 1 ≤ e.position → old 0 e ≡ false
unfolding old
none_at_zero e h = go (is_live e.payload)
  where
    go : (b : Bool) → not b && leb e.position 0 ≡ false
    go true = refl
    go false = no_le h

-- so young is not old at any v, with the limit 0 before position Z
pub young_limit : (z v : ℕ) (e : Entry) → 1 ≤ e.position → young z v e ≡ stays (v - z) e
young_limit z v e h = ⊎_elim
    (λ (l : z ≤ v). young_stays z v e l)
    (λ (l : v < z). let d : v - z ≡ 0 = omega arith in young_early z v e l ∙ rw (d, none_at_zero e h))
    (le_or_lt z v)

-- what the rules keep is what stays
pub keep_young : (z v : ℕ) (es : List Entry) → ((e : Entry) → Mem e es → 1 ≤ e.position) → keep (young z v) es ≡ keep (stays (v - z)) es
keep_young z v [] f = refl
keep_young z v (e ∷ es) f = rw (young_limit z v e (f e (here refl)), keep_young z v es (λ x m. f x (there m)))

-- an entry is old or stays
pub old_or_stays : (limit : ℕ) (es : List Entry) → length (keep (old limit) es) + length (keep (stays limit) es) ≡ length es
old_or_stays limit [] = omega arith
old_or_stays limit (e ∷ es) = go (old limit e) (old_or_stays limit es)
  where
    go : (b : Bool) → length (keep (old limit) es) + length (keep (stays limit) es) ≡ length es
        → length (if b then e ∷ keep (old limit) es else keep (old limit) es) + length (if not b then e ∷ keep (stays limit) es else keep (stays limit) es) ≡ suc (length es)
    go true q = omega arith
    go false q = omega arith

-- ONE LEAF

-- a live key stays
pub live_stays : (limit : ℕ) (e : Entry) → is_live e.payload ≡ true → old limit e ≡ false
unfolding old
live_stays limit e q = rw q

-- a tombstone at or below the limit goes
pub tombstone_old : (limit : ℕ) (e : Entry) → is_live e.payload ≡ false → e.position ≤ limit → old limit e ≡ true
unfolding old
tombstone_old limit e q h = rw q (is_true (leb e.position limit) (le→leb e.position limit h))

-- a leaf whose oldest is above the limit stays
pub leaf_young : (limit : ℕ) (e : Entry) → limit < oldest (leaf e) → old limit e ≡ false
unfolding old oldest
leaf_young limit e h = go (is_live e.payload) h
  where
    go : (b : Bool) → limit < (if b then no_tombstone else e.position) → not b && leb e.position limit ≡ false
    go true l = refl
    go false l = no_le l

-- A TREE ABOVE THE LIMIT

-- holds nothing old
pub none_old : (limit : ℕ) (t : Tree) → limit < oldest t → length (keep (old limit) (entries t)) ≡ 0
unfolding entries oldest
none_old limit empty h = refl
none_old limit (leaf e) h = rw (leaf_young limit e h)
none_old limit (node k low l r) h =
    rw (keep_append (old limit) (entries l) (entries r), length-append)
    (omega (arith, none_old limit l (omega arith), none_old limit r (omega arith)))

-- no more are old than there are
pub old_few : (limit : ℕ) (es : List Entry) → length (keep (old limit) es) ≤ length es
old_few limit es = omega (arith, old_or_stays limit es)
