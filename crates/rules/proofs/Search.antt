-- The conflict search finds a leaf that is hit, and finds one exactly if there is one.
-- Assumes nothing.
use Prim.Native.Nat.{ℕ, suc, ◌+◌, ◌^◌}
use native.Mathlib.Omega.{arith}
use mathlib.Core.Path.{◌≡◌, refl, subst}
use mathlib.Core.Logic.{⊎_elim}
use mathlib.Core.Bool.{◌&&◌}
use mathlib.Core.List.Memᴰ.{append_cases as in-append}
use mathlib.Core.List.Memᴰ.{append_left as in_left}
use mathlib.Core.List.Memᴰ.{append_right as in_right}
use mathlib.Core.List.Memᴰ.{head as here}
use mathlib.Core.List.Memᴰ.{tail as there}
use mathlib.Core.List.{List, ◌++◌, Memᴰ as Mem}
use mathlib.Core.Option.{some}
use lib.Dec.{T, ltb, lt→ltb}
use Rattle.record.specs.Record.{Rec}
use Rattle.record.specs.declared.point.Scan.{Scan}
use Rattle.rules.specs.Lists.{any}
use Rattle.rules.specs.State.{Entry, State, Rising, Lawful}
use Rattle.rules.specs.Footprint.{reach, meets}
use Rattle.rules.specs.Verdict.{hits, conflicts}
use Rattle.rules.specs.Tree.{Tree, empty, leaf, node, entries, tree_of, newest, Walked, goes_on, descend, walk, walk_of}
use Rattle.rules.proofs.Tests.{if_ind, is_true, and_of, or_left, or_right, or_cases, same, any_of, of_any}
use Rattle.rules.proofs.Reach.{meets_wider, of_hits}
use Rattle.rules.proofs.Sorted.{rising_mem}
use Rattle.rules.proofs.Newest.{newest_max}
use Rattle.rules.specs.Shape.{Canonical, none, one, two, on_left, on_right}
use Rattle.rules.proofs.Trees.{canonical_rising, entries_tree_of, tree_of_canonical}

-- the test at a leaf is row 1's of its entry
pub leaf_hits : (s : ℕ) (f : List Scan) (e : Entry) → goes_on s f (leaf e) ≡ hits s f e
unfolding newest hits
leaf_hits s f e = refl

-- some entry is hit
abbrev pub HasHit : ℕ → List Scan → List Entry → Type 0
HasHit s f es = (e : Entry) × Mem e es × T (hits s f e)

-- found in one of the children, found below the node
pub descend_sound : (s : ℕ) (f : List Scan) {l r : List Entry} (a b : Walked) → (T a.found → HasHit s f l) → (T b.found → HasHit s f r)
    → T (descend a b).found → HasHit s f (l ++ r)
descend_sound s f {l} {r} a b ha hb t = ⊎_elim
    (λ u. let x = ha u in (x.0, in_left r x.1, x.2)) (λ u. let x = hb u in (x.0, in_right l x.1, x.2)) (or_cases a.found b.found t)

-- what the search finds is a leaf
pub walk_sound : (s : ℕ) (f : List Scan) (t : Tree) → T (walk s f t).found → HasHit s f (entries t)
unfolding entries walk
walk_sound s f empty = λ t. absurd t
walk_sound s f (leaf x) = λ t. (x, here refl, rw leaf_hits at t)
walk_sound s f (node h low l r) = if_ind (λ (w : Walked). T w.found → HasHit s f (entries l ++ entries r))
    (goes_on s f (node h low l r))
    (λ _. descend_sound s f (walk s f l) (walk s f r) (walk_sound s f l) (walk_sound s f r)) (λ _ t. absurd t)

-- a leaf that is hit is found, or another before it
pub walk_complete : (s : ℕ) (f : List Scan) {h low : ℕ} {t : Tree} {e : Entry} → Canonical h low t → Mem e (entries t) → T (hits s f e) → T (walk s f t).found
unfolding entries walk
walk_complete s f none m u = elim m [ ]
walk_complete s f (one {e = x} a b) (here p) u = rw (leaf_hits s f x) (subst (λ (z : Entry). T (hits s f z)) p u)
walk_complete s f (one a b) (there m) u = elim m [ ]
walk_complete s f {e = e} (two {h = h} {low = low} {l = l} {r = r} a b x y) m u =
    let k = of_hits s f e u in
    let n = newest_max (node (suc h) low l r) m in
    let c = rising_mem (canonical_rising (two a b x y)) m in
    rw (is_true (ltb s (newest (node (suc h) low l r)) && meets f low (low + 2 ^ suc h))
    (and_of (ltb s (newest (node (suc h) low l r))) (meets f low (low + 2 ^ suc h)) (lt→ltb s (newest (node (suc h) low l r)) (omega arith)) (meets_wider f c.0 (omega arith) k.1)))
    (⊎_elim (λ (i : Mem e (entries l)). or_left (walk s f l).found (walk s f r).found (walk_complete s f x i u))
    (λ (i : Mem e (entries r)). or_right (walk s f l).found (walk s f r).found (walk_complete s f y i u))
    (in-append (entries l) m))
walk_complete s f (on_left x) m u = walk_complete s f x m u
walk_complete s f (on_right x) m u = walk_complete s f x m u

-- the search in the tree of the entries finds a conflict exactly if an entry is hit
pub walk_found : (s : ℕ) (f : List Scan) (h low : ℕ) {es : List Entry} → Rising (low + 2 ^ h) low es → (walk s f (tree_of h low es)).found ≡ any (hits s f) es
walk_found s f h low {es} r = same (walk s f (tree_of h low es)).found (any (hits s f) es)
    (λ t. let x = walk_sound s f (tree_of h low es) t in any_of (hits s f) (rw (entries_tree_of h low r) at x.1) x.2)
    (λ t. let x = of_any (hits s f) es t in walk_complete s f (tree_of_canonical h low r) (rw (entries_tree_of h low r) x.1) x.2)

-- the walk's conflict is the state's conflict
pub walk_conflicts : {S : State} (r : Rec) → Lawful S → (walk_of S (some r)).found ≡ conflicts S r
walk_conflicts {S} r l = walk_found r.snapshot (reach r) 32 0 l.rising
