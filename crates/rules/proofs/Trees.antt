-- The tree of the entries: its leaves are the entries, its nodes stand where keys first differ, and it is the one such tree.
-- Assumes nothing.
use Prim.Native.Nat.{ℕ, zero, suc, ◌+◌, ◌^◌, ◌≤◌}
use native.Mathlib.Omega.{arith}
use native.Mathlib.Nat.{le_refl}
use mathlib.Core.Path.{◌≡◌, refl, sym, ap, ap₂, ◌∙◌}
use mathlib.Core.Logic.{⊎_elim}
use mathlib.Core.List.{List, [], ◌∷◌, ◌++◌, append-nil}
use lib.Dec.{T, ltb→lt, nltb→le}
use Rattle.rules.specs.Lists.{keep}
use Rattle.rules.specs.State.{Entry, Rising, end, link}
use Rattle.rules.specs.Tree.{Tree, empty, leaf, node, entries, join, below, from, first, past, tree_of}
use Rattle.rules.specs.Shape.{full, Canonical, none, one, two, on_left, on_right}
use Rattle.rules.proofs.Tests.{test, keep_append}
use Rattle.rules.proofs.Sorted.{rising_range, rising_lower, none_below, all_below, none_from, all_from, cut, is_below, not_below_lem, is_from, not_from, rising_upper, rising_append, below_rising, from_rising}

-- JOINING TWO SIDES

-- the leaves of a join are those of both sides
pub entries_join : (h low : ℕ) (l r : Tree) → entries (join h low l r) ≡ entries l ++ entries r
unfolding entries
entries_join h low empty r = refl
entries_join h low (leaf e) empty = refl
entries_join h low (leaf e) (leaf e') = refl
entries_join h low (leaf e) (node h' low' l' r') = refl
entries_join h low (node h₁ low₁ l₁ r₁) empty = rw append-nil
entries_join h low (node h₁ low₁ l₁ r₁) (leaf e') = refl
entries_join h low (node h₁ low₁ l₁ r₁) (node h' low' l' r') = refl

-- nothing on the right
pub join_right : (h low : ℕ) (t : Tree) → join h low t empty ≡ t
join_right h low empty = refl
join_right h low (leaf e) = refl
join_right h low (node h' low' l r) = refl

-- something on both sides: a node
pub join_full : (h low : ℕ) (l r : Tree) → T (full l) → T (full r) → join h low l r ≡ node h low l r
join_full h low empty r a b = absurd a
join_full h low (leaf e) empty a b = absurd b
join_full h low (leaf e) (leaf e') a b = refl
join_full h low (leaf e) (node h' low' l' r') a b = refl
join_full h low (node h₁ low₁ l₁ r₁) empty a b = absurd b
join_full h low (node h₁ low₁ l₁ r₁) (leaf e') a b = refl
join_full h low (node h₁ low₁ l₁ r₁) (node h' low' l' r') a b = refl

-- THE TREE, CUT AT ITS MIDDLE

-- no entry, no tree
pub tree_none : (h low : ℕ) → tree_of h low [] ≡ empty
unfolding tree_of
tree_none zero low = refl
tree_none (suc h) low = refl

-- one entry, a leaf
pub tree_one : (h low : ℕ) (e : Entry) → tree_of h low (e ∷ []) ≡ leaf e
unfolding tree_of
tree_one zero low e = refl
tree_one (suc h) low e = refl

-- the tree of any list of entries is the join of the trees of its two parts
pub tree_of_cut : (h low : ℕ) (es : List Entry) → tree_of (suc h) low es ≡ join (suc h) low (tree_of h low (keep (below (low + 2 ^ h)) es)) (tree_of h (low + 2 ^ h) (keep (from (low + 2 ^ h)) es))
unfolding tree_of
tree_of_cut h low [] = rw (tree_none h low, tree_none h (low + 2 ^ h))
tree_of_cut h low (e ∷ []) = ⊎_elim
    (λ t. let l = ltb→lt e.key (low + 2 ^ h) t in rw (is_below (low + 2 ^ h) e l, not_from (low + 2 ^ h) e l, tree_one h low e, tree_none h (low + 2 ^ h)))
    (λ t. let l = nltb→le e.key (low + 2 ^ h) t in rw (not_below_lem (low + 2 ^ h) e l, is_from (low + 2 ^ h) e l, tree_one h (low + 2 ^ h) e, tree_none h low))
    (test (below (low + 2 ^ h) e))
tree_of_cut h low (e ∷ e' ∷ es) = refl

-- two halves
pub double : (h low : ℕ) → low + 2 ^ suc h ≡ low + 2 ^ h + 2 ^ h
double h low = omega arith

module _ (h low : ℕ) {es : List Entry} (r : Rising (low + 2 ^ suc h) low es) where
  -- the entries on the left rise
  lefts : Rising (low + 2 ^ h) low (keep (below (low + 2 ^ h)) es)
  lefts = below_rising (low + 2 ^ h) (omega arith) r

  -- the entries on the right rise
  rights : Rising (low + 2 ^ h + 2 ^ h) (low + 2 ^ h) (keep (from (low + 2 ^ h)) es)
  rights = from_rising (low + 2 ^ h) (omega arith) (rw double at r)

-- THE LEAVES OF THE TREE ARE THE ENTRIES

-- a tree's leaves are its entries
pub entries_tree_of : (h low : ℕ) {es : List Entry} → Rising (low + 2 ^ h) low es → entries (tree_of h low es) ≡ es
unfolding entries tree_of
entries_tree_of zero low {es} r = short r
  where
    short : {l : List Entry} → Rising (low + 1) low l → entries (tree_of zero low l) ≡ l
    short (end h) = refl
    short (link h (end k)) = refl
    short (link h (link k t)) = absurd (omega (arith, rising_range t))
entries_tree_of (suc h) low {es} r =
    ap entries (tree_of_cut h low es)
    ∙ entries_join (suc h) low (tree_of h low (keep (below (low + 2 ^ h)) es)) (tree_of h (low + 2 ^ h) (keep (from (low + 2 ^ h)) es))
    ∙ ap₂ ◌++◌ (entries_tree_of h low (lefts h low r)) (entries_tree_of h (low + 2 ^ h) (rights h low r))
    ∙ cut (low + 2 ^ h) r

-- TREES OF THE SHAPE

-- two sides of the shape, joined
pub join_canonical : (h low : ℕ) (l r : Tree) → Canonical h low l → Canonical h (low + 2 ^ h) r → Canonical (suc h) low (join (suc h) low l r)
join_canonical h low empty r f g = on_right g
join_canonical h low (leaf e) empty f g = on_left f
join_canonical h low (leaf e) (leaf e') f g = two tt tt f g
join_canonical h low (leaf e) (node h' low' l' r') f g = two tt tt f g
join_canonical h low (node h₁ low₁ l₁ r₁) empty f g = on_left f
join_canonical h low (node h₁ low₁ l₁ r₁) (leaf e') f g = two tt tt f g
join_canonical h low (node h₁ low₁ l₁ r₁) (node h' low' l' r') f g = two tt tt f g

-- the tree of the entries is of the shape
pub tree_of_canonical : (h low : ℕ) {es : List Entry} → Rising (low + 2 ^ h) low es → Canonical h low (tree_of h low es)
unfolding tree_of
tree_of_canonical zero low (end r) = none
tree_of_canonical zero low (link l r) = one {h = zero} l (omega (arith, rising_range r))
tree_of_canonical (suc h) low {es} r = rw (tree_of_cut h low es) (join_canonical h low _ _ (tree_of_canonical h low (lefts h low r)) (tree_of_canonical h (low + 2 ^ h) (rights h low r)))

-- the entries of a tree of the shape rise
pub canonical_rising : {h low : ℕ} {t : Tree} → Canonical h low t → Rising (low + 2 ^ h) low (entries t)
unfolding entries
canonical_rising {h} {low} none = end {low = low} (omega arith)
canonical_rising {h} {low} (one {e = e} a b) = link a (end {low = e.key + 1} (omega arith))
canonical_rising (two {h = h} {low = low} a b f g) = rw double (rising_append (canonical_rising f) (canonical_rising g))
canonical_rising (on_left {h = h} {low = low} f) = rising_upper (omega arith) (canonical_rising f)
canonical_rising (on_right {h = h} {low = low} f) = rw double (rising_lower (omega arith) (canonical_rising f))

-- a tree of the shape covers numbers of its range only
pub canonical_cover : {h low : ℕ} {t : Tree} → Canonical h low t → T (full t) → (low ≤ first t) × (past t ≤ low + 2 ^ h)
canonical_cover none u = absurd u
canonical_cover (one a b) u = (a, omega arith)
canonical_cover (two a b f g) u = (le_refl _, le_refl _)
canonical_cover (on_left {h = h} {low = low} f) u = let x = canonical_cover f u in (x.0, omega arith)
canonical_cover (on_right {h = h} {low = low} f) u = let x = canonical_cover f u in (omega arith, omega arith)

-- there is one tree of the shape over given entries
pub tree_of_entries : {h low : ℕ} {t : Tree} → Canonical h low t → tree_of h low (entries t) ≡ t
unfolding entries
tree_of_entries {h} {low} none = tree_none h low
tree_of_entries {h} {low} (one {e = e} a b) = tree_one h low e
tree_of_entries (two {h = h} {low = low} {l = l} {r = r} a b f g) =
    tree_of_cut h low (entries l ++ entries r)
    ∙ rw (
      keep_append (below m) (entries l) (entries r),
      keep_append (from m) (entries l) (entries r),
      all_below m (le_refl m) (canonical_rising f),
      none_below m (le_refl m) (canonical_rising g),
      none_from m (le_refl m) (canonical_rising f),
      all_from m (le_refl m) (canonical_rising g),
      append-nil (entries l),
      tree_of_entries f,
      tree_of_entries g,
    ) (join_full (suc h) low l r a b)
  where
    m : ℕ
    m = low + 2 ^ h
tree_of_entries (on_left {h = h} {low = low} {t = t} f) =
    tree_of_cut h low (entries t)
    ∙ rw (all_below (low + 2 ^ h) (le_refl (low + 2 ^ h)) (canonical_rising f), none_from (low + 2 ^ h) (le_refl (low + 2 ^ h)) (canonical_rising f), tree_of_entries f, tree_none h (low + 2 ^ h)) (join_right (suc h) low t)
tree_of_entries (on_right {h = h} {low = low} {t = t} f) =
    tree_of_cut h low (entries t)
    ∙ rw (none_below (low + 2 ^ h) (le_refl (low + 2 ^ h)) (canonical_rising f), all_from (low + 2 ^ h) (le_refl (low + 2 ^ h)) (canonical_rising f), tree_of_entries f, tree_none h low)

-- two trees of the shape over the same entries are one
pub unique : {h low : ℕ} {t u : Tree} → Canonical h low t → Canonical h low u → entries t ≡ entries u → t ≡ u
unique {h} {low} f g e = sym (tree_of_entries f) ∙ ap (tree_of h low) e ∙ tree_of_entries g
