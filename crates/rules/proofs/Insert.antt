-- Storing an entry in the tree, in one descent: the tree of the entries with it stored.
-- Assumes nothing.
use Prim.Native.Nat.{ℕ, zero, suc, ◌+◌, ◌^◌, ◌≤◌, ◌<◌}
use native.Mathlib.Omega.{arith}
use mathlib.Core.Path.{◌≡◌, refl, sym, ap, ◌∙◌}
use mathlib.Core.Logic.{◌⊎◌, inl, inr, ⊎_elim}
use mathlib.Core.Bool.{◌&&◌}
use mathlib.Core.List.Memᴰ.{head as here}
use mathlib.Core.List.Memᴰ.{tail as there}
use mathlib.Core.List.{List, [], ◌∷◌, ◌++◌, Memᴰ as Mem}
use lib.Pow.{pow_pos}
use lib.Dec.{T, ltb, leb, eqb, eqb→eq, ltb→lt, nltb→le, lt→ltb, le→leb, leb→le, T_not, not_T}
use Rattle.std.specs.Prelude.{if◌then◌else◌}
use Rattle.rules.specs.State.{Entry, Rising}
use Rattle.rules.specs.Verdict.{store, store_all}
use Rattle.rules.specs.Tree.{Tree, empty, leaf, node, entries, first, past, tree_of}
use Rattle.rules.proofs.Tests.{if_ind, is_true, is_false, test, le_or_lt, and_of, left_of_lem, right_of_lem, yes_lt, no_lt, yes_eq, no_eq}
use Rattle.rules.proofs.Stored.{store_self}
use Rattle.rules.proofs.Sorted.{store_rising, store_first, store_left, store_right, store_last}
use Rattle.rules.specs.Shape.{Canonical, none, one, two, on_left, on_right, full}
use Rattle.rules.proofs.Trees.{canonical_cover, canonical_rising, tree_of_canonical, entries_tree_of, tree_of_entries}

-- the node over an entry and a tree that lie in low .. low + 2 ^ h − 1, where they first differ; k is a number that the tree covers
unfoldable pub fork : ℕ → ℕ → Entry → ℕ → Tree → Tree
fork zero low e k t = leaf e
fork (suc h) low e k t =
    if ltb e.key (low + 2 ^ h)
    then (if ltb k (low + 2 ^ h) then fork h low e k t else node (suc h) low (leaf e) t)
    else (if ltb k (low + 2 ^ h) then node (suc h) low t (leaf e) else fork h (low + 2 ^ h) e k t)

-- e stored in a tree that lies in low .. low + 2 ^ h − 1
unfoldable pub insert : ℕ → ℕ → Entry → Tree → Tree
insert h low e empty = leaf e
insert h low e (leaf x) = if eqb e.key x.key then leaf e else fork h low e x.key (leaf x)
insert h low e (node zero lo l r) = fork h low e lo (node zero lo l r)
insert h low e (node (suc k) lo l r) =
    if leb lo e.key && ltb e.key (lo + 2 ^ suc k)
    then (if ltb e.key (lo + 2 ^ k) then node (suc k) lo (insert k lo e l) r else node (suc k) lo l (insert k (lo + 2 ^ k) e r))
    else fork h low e lo (node (suc k) lo l r)

-- STORING IN THE TREE

-- u is t with e stored: a tree of the shape, over the entries with e stored
pub record Stored (h low : ℕ) (e : Entry) (t u : Tree) : Type 0 where
  pub fits : Canonical h low u
  pub holds : entries u ≡ store e (entries t)

-- a leaf and an entry with another key
fork_leaf : (h low : ℕ) (e x : Entry) → (e.key ≡ x.key → ⊥) → low ≤ e.key → e.key < low + 2 ^ h → low ≤ x.key → x.key < low + 2 ^ h → Stored h low e (leaf x) (fork h low e x.key (leaf x))
unfolding fork entries store
fork_leaf zero low e x n a b c d = absurd (n (omega arith))
fork_leaf (suc h) low e x n a b c d = let b' : e.key < m + 2 ^ h = omega arith in let d' : x.key < m + 2 ^ h = omega arith in ⊎_elim
    (λ (i : m ≤ e.key). ⊎_elim
    (λ (j : m ≤ x.key). let w = fork_leaf h m e x n i (omega arith) j (omega arith) in rw (no_lt i, no_lt j) (record { fits = on_right w.fits; holds = w.holds }))
    (λ (j : x.key < m). rw (no_lt i, yes_lt j) (record { fits = two tt tt (one c j) (one i b'); holds = rw (no_lt {a = e.key} {b = x.key} (omega arith), yes_lt {a = x.key} {b = e.key} (omega arith)) }))
    (le_or_lt m x.key))
    (λ (i : e.key < m). ⊎_elim
    (λ (j : m ≤ x.key). rw (yes_lt i, no_lt j) (record { fits = two tt tt (one a i) (one j d'); holds = rw (yes_lt {a = e.key} {b = x.key} (omega arith)) }))
    (λ (j : x.key < m). let w = fork_leaf h low e x n a i c j in rw (yes_lt i, yes_lt j) (record { fits = on_left w.fits; holds = w.holds }))
    (le_or_lt m x.key))
    (le_or_lt m e.key)
  where
    m : ℕ
    m = low + 2 ^ h

-- a tree and an entry in the same half, or in two
module _ (h low : ℕ) (e : Entry) where
  -- both in the left half: store there
  same_left : (t : Tree) → T (full t) → past t ≤ low + 2 ^ h → e.key < low + 2 ^ h → insert (suc h) low e t ≡ insert h low e t
  unfolding insert fork
  same_left empty u a b = refl
  same_left (leaf x) u a b = rw (yes_lt b, yes_lt {a = x.key} {b = low + 2 ^ h} (omega arith))
  same_left (node zero lo l r) u a b = rw (yes_lt b, yes_lt {a = lo} {b = low + 2 ^ h} (omega arith))
  same_left (node (suc k) lo l r) u a b = rw (yes_lt b, yes_lt {a = lo} {b = low + 2 ^ h} (omega (arith, pow_pos (suc k))))

  -- both in the right half: store there
  same_right : (t : Tree) → T (full t) → low + 2 ^ h ≤ first t → low + 2 ^ h ≤ e.key → insert (suc h) low e t ≡ insert h (low + 2 ^ h) e t
  unfolding insert fork
  same_right empty u a b = absurd u
  same_right (leaf x) u a b = rw (no_lt b, no_lt a)
  same_right (node zero lo l r) u a b = rw (no_lt b, no_lt a)
  same_right (node (suc k) lo l r) u a b = rw (no_lt b, no_lt a)

  -- the tree on the left, the entry on the right
  apart_left : (t : Tree) → T (full t) → past t ≤ low + 2 ^ h → low + 2 ^ h ≤ e.key → insert (suc h) low e t ≡ node (suc h) low t (leaf e)
  unfolding insert fork
  apart_left empty u a b = absurd u
  apart_left (leaf x) u a b = rw (no_eq {a = e.key} {b = x.key} (λ q. omega arith), no_lt b, yes_lt {a = x.key} {b = low + 2 ^ h} (omega arith))
  apart_left (node zero lo l r) u a b = rw (no_lt b, yes_lt {a = lo} {b = low + 2 ^ h} (omega arith))
  apart_left (node (suc k) lo l r) u a b = rw (
    is_false (leb lo e.key && ltb e.key (lo + 2 ^ suc k)) (not_T (leb lo e.key && ltb e.key (lo + 2 ^ suc k))
        (λ t. omega (arith, ltb→lt e.key (lo + 2 ^ suc k) (right_of_lem (leb lo e.key) (ltb e.key (lo + 2 ^ suc k)) t)))),
    no_lt b,
    yes_lt {a = lo} {b = low + 2 ^ h} (omega (arith, pow_pos (suc k))),
  )

  -- the entry on the left, the tree on the right
  apart_right : (t : Tree) → T (full t) → low + 2 ^ h ≤ first t → e.key < low + 2 ^ h → insert (suc h) low e t ≡ node (suc h) low (leaf e) t
  unfolding insert fork
  apart_right empty u a b = absurd u
  apart_right (leaf x) u a b = rw (no_eq {a = e.key} {b = x.key} (λ q. omega arith), yes_lt b, no_lt a)
  apart_right (node zero lo l r) u a b = rw (yes_lt b, no_lt a)
  apart_right (node (suc k) lo l r) u a b = rw (
    is_false (leb lo e.key && ltb e.key (lo + 2 ^ suc k)) (not_T (leb lo e.key && ltb e.key (lo + 2 ^ suc k))
        (λ t. omega (arith, leb→le lo e.key (left_of_lem (leb lo e.key) (ltb e.key (lo + 2 ^ suc k)) t)))),
    yes_lt b,
    no_lt a,
  )

-- a tree holds something or is empty
fits_full : (t : Tree) → T (full t) ⊎ (t ≡ empty)
fits_full empty = inr refl
fits_full (leaf x) = inl tt
fits_full (node k lo l r) = inl tt

-- a tree with a leaf holds something
full_of : (u : Tree) {e : Entry} → Mem e (entries u) → T (full u)
unfolding entries
full_of empty m = elim m [ ]
full_of (leaf x) m = tt
full_of (node k lo l r) m = tt

-- what an entry was stored in holds something
stored_full : {h low : ℕ} {e : Entry} {t u : Tree} → Stored h low e t u → T (full u)
stored_full {e = e} {t = t} {u = u} w = full_of u {e = e} (rw w.holds (store_self e (entries t)))

-- stored in the empty tree
stored_empty : {h low : ℕ} (e : Entry) → low ≤ e.key → e.key < low + 2 ^ h → Stored h low e empty (insert h low e empty)
unfolding insert entries store
stored_empty e a b = record { fits = one a b; holds = refl }

-- stored in place of the entry of its key
stored_same : (e x : Entry) → e.key ≡ x.key → e ∷ [] ≡ store e (x ∷ [])
unfolding store
stored_same e x q = rw (no_lt {a = e.key} {b = x.key} (omega arith), no_lt {a = x.key} {b = e.key} (omega arith))

-- one descent stores the entry
pub insert_stored : {h low : ℕ} (e : Entry) {t : Tree} → Canonical h low t → low ≤ e.key → e.key < low + 2 ^ h → Stored h low e t (insert h low e t)
unfolding insert entries
insert_stored e none a b = stored_empty e a b
insert_stored {h} {low} e (one {e = x} c d) a b = ⊎_elim
    (λ t. rw (is_true (eqb e.key x.key) t) (record { fits = one a b; holds = stored_same e x (eqb→eq e.key x.key t) }))
    (λ t. rw (is_false (eqb e.key x.key) t) (fork_leaf h low e x (λ q. T_not (eqb e.key x.key) t (yes_eq q)) a b c d))
    (test (eqb e.key x.key))
insert_stored e (two {h = h} {low = low} {l = l} {r = r} u v f g) a b =
    rw (is_true (leb low e.key && ltb e.key (low + 2 ^ suc h)) (and_of (leb low e.key) (ltb e.key (low + 2 ^ suc h)) (le→leb low e.key a) (lt→ltb e.key (low + 2 ^ suc h) b)))
    (if_ind (λ (z : Tree). Stored (suc h) low e (node (suc h) low l r) z) (ltb e.key (low + 2 ^ h))
    (λ t. let k = ltb→lt e.key (low + 2 ^ h) t in let w = insert_stored e f a k in
    record { fits = two (stored_full w) v w.fits g; holds = ap (λ (es : List Entry). es ++ entries r) w.holds ∙ sym (store_left e k (canonical_rising f) (canonical_rising g)) })
    (λ t. let k = nltb→le e.key (low + 2 ^ h) t in let w = insert_stored e g k (omega arith) in
    record { fits = two u (stored_full w) f w.fits; holds = ap (λ (es : List Entry). entries l ++ es) w.holds ∙ sym (store_right e (entries r) k (canonical_rising f)) }))
insert_stored e (on_left {h = h} {low = low} {t = t} f) a b = let b' : e.key < low + 2 ^ h + 2 ^ h = omega arith in ⊎_elim
    (λ u. ⊎_elim
    (λ (k : low + 2 ^ h ≤ e.key). rw (apart_left h low e t u (canonical_cover f u).1 k) (record { fits = two u tt f (one k b'); holds = store_last e k (canonical_rising f) }))
    (λ (k : e.key < low + 2 ^ h). let w = insert_stored e f a k in rw (same_left h low e t u (canonical_cover f u).1 k) (record { fits = on_left w.fits; holds = w.holds }))
    (le_or_lt (low + 2 ^ h) e.key))
    (λ q. rw q (stored_empty e a b)) (fits_full t)
insert_stored e (on_right {h = h} {low = low} {t = t} f) a b = let b' : e.key < low + 2 ^ h + 2 ^ h = omega arith in ⊎_elim
    (λ u. ⊎_elim
    (λ (k : low + 2 ^ h ≤ e.key). let w = insert_stored e f k b' in rw (same_right h low e t u (canonical_cover f u).0 k) (record { fits = on_right w.fits; holds = w.holds }))
    (λ (k : e.key < low + 2 ^ h). rw (apart_right h low e t u (canonical_cover f u).0 k) (record { fits = two tt u (one a k) f; holds = sym (store_first e k (canonical_rising f)) }))
    (le_or_lt (low + 2 ^ h) e.key))
    (λ q. rw q (stored_empty e a b)) (fits_full t)

-- storing in the tree of the entries is the tree of the entries with it stored
pub insert_tree_of : (h low : ℕ) (e : Entry) {es : List Entry} → Rising (low + 2 ^ h) low es → low ≤ e.key → e.key < low + 2 ^ h → insert h low e (tree_of h low es) ≡ tree_of h low (store e es)
insert_tree_of h low e {es} r a b =
    let w = insert_stored e (tree_of_canonical h low r) a b in
    sym (tree_of_entries w.fits) ∙ ap (tree_of h low) (w.holds ∙ ap (store e) (entries_tree_of h low r))

-- all of them, one after the other
unfoldable pub insert_all : ℕ → ℕ → List Entry → Tree → Tree
insert_all h low [] t = t
insert_all h low (w ∷ ws) t = insert_all h low ws (insert h low w t)

-- storing several in the tree of the entries gives the tree of the entries with them stored
pub insert_all_tree_of : (h low : ℕ) (ws : List Entry) {es : List Entry} → Rising (low + 2 ^ h) low es
    → ((w : Entry) → Mem w ws → (low ≤ w.key) × (w.key < low + 2 ^ h)) → insert_all h low ws (tree_of h low es) ≡ tree_of h low (store_all ws es)
unfolding insert_all store_all
insert_all_tree_of h low [] r k = refl
insert_all_tree_of h low (w ∷ ws) {es} r k =
    let b = k w (here refl) in
    ap (insert_all h low ws) (insert_tree_of h low w r b.0 b.1)
    ∙ insert_all_tree_of h low ws (store_rising w r b.0 b.1) (λ x m. k x (there m))
