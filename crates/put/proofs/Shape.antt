-- Storing in a tree with numbers is the rules' `insert` of the tree without them. Where the rules search from above for the bit at which
-- a key and a tree part, here is the height where they part: the covers are aligned, so both are the same.
-- Assumes nothing.
use Prim.Native.Nat.{ℕ, zero, suc, ◌+◌, ◌-◌, ◌*◌, ◌/◌, ◌^◌, ◌≤◌, ◌<◌}
use mathlib.Core.Path.{◌≡◌, refl, sym, ap, ◌∙◌, subst}
use mathlib.Core.Bool.{Bool, true, false, ◌&&◌, true≢false}
use mathlib.Core.Logic.{⊎_elim, ◌≢◌}
use native.Mathlib.Omega.{arith}
use native.Mathlib.Nat.{div-eq_of_lt-le, pow-suc, le_refl}
use lib.Dec.{T, ltb, leb, eqb, ltb→lt, leb→le, le→leb, lt→ltb}
use lib.Pow.{pow_pos}
use borrow.Author.Tests.{ltb-false}
use Rattle.bits.specs.Bits.{part_height}
use Rattle.bits.proofs.Part.{part_is}
use Rattle.std.specs.Prelude.{if◌then◌else◌}
use Rattle.rules.specs.State.{Entry}
use Rattle.rules.specs.Tree as Trees
use Rattle.rules.specs.Tree.{Tree, empty, first}
use Rattle.rules.proofs.Tests.{yes_lt, no_lt, le_or_lt, is_true, same, and_of, left_of_lem, right_of_lem, yes_eq}
use Rattle.rules.specs.Shape.{Canonical, none, one, two, on_left, on_right}
use Rattle.rules.proofs.Insert.{fork, insert}
use Rattle.pool.specs.Plan.{Plan, leaf, node, tree_in}
use Rattle.put.specs.Storing.{covered, beside, put_plan}

-- ALIGNED COVERS

-- low is a multiple of 2 ^ h
pub record Aligned (h low : ℕ) : Type 0 where
  pub part : ℕ
  pub is : low ≡ part * 2 ^ h

-- both halves of an aligned cover are aligned
aligned_left : {h low : ℕ} → Aligned (suc h) low → Aligned h low
aligned_left {h} {low} a = record { part = a.part * 2; is = a.is ∙ ap (λ (z : ℕ). a.part * z) (native.Mathlib.Nat.pow-succ' 2 h) ∙ sym (native.Mathlib.Nat.mul_assoc a.part 2 (2 ^ h)) }

aligned_right : {h low : ℕ} → Aligned (suc h) low → Aligned h (low + 2 ^ h)
aligned_right {h} {low} a =
    let l = aligned_left a in
    record { part = l.part + 1; is = omega (arith, l.is, native.Mathlib.Nat.add-mul l.part 1 (2 ^ h)) }

-- what lies in an aligned cover has the cover's bits
bits_of : {h low : ℕ} (x : ℕ) (a : Aligned h low) → low ≤ x → x < low + 2 ^ h → x / 2 ^ h ≡ a.part
bits_of {h} {low} x a u v = div-eq_of_lt-le (2 ^ h) (omega (arith, a.is)) (omega (arith, a.is, native.Mathlib.Nat.add-mul a.part 1 (2 ^ h)))

-- THE FORK

-- k and a tree that covers base, below a node where they part
abbrev parted : ℕ → Entry → Tree → Tree
parted base e t =
    let h = part_height base e.key in
    let low = e.key / 2 ^ h * 2 ^ h in
    if ltb e.key base then Trees.node h low (Trees.leaf e) t else Trees.node h low t (Trees.leaf e)

-- two numbers in the two halves of a cover
module _ (h low x y : ℕ) (a : Aligned (suc h) low) (f : low + 2 ^ suc h ≤ 2 ^ 32) (u : low ≤ x) (v : x < low + 2 ^ h) (w : low + 2 ^ h ≤ y) (z : y < low + 2 ^ suc h) where
  wide : low + 2 ^ suc h ≡ low + 2 ^ h + 2 ^ h
  wide = omega (arith, pow-suc 2 h)

  x_bits : x / 2 ^ suc h ≡ a.part
  x_bits = bits_of x a u (omega (arith, wide))

  y_bits : y / 2 ^ suc h ≡ a.part
  y_bits = bits_of y a (omega arith) z

  halves_differ : x / 2 ^ h ≢ y / 2 ^ h
  unfolding aligned_left aligned_right
  halves_differ q =
      let l = bits_of x (aligned_left a) u v in
      let r = bits_of y (aligned_right a) w (omega (arith, wide)) in
      let s : (aligned_left a).part ≡ (aligned_left a).part + 1 = sym l ∙ q ∙ r in
      omega arith

  height_is : (part_height x y ≡ suc h) × (part_height y x ≡ suc h)
  height_is = (
    part_is x y h (omega (arith, wide)) (omega arith) (x_bits ∙ sym y_bits) halves_differ,
    part_is y x h (omega arith) (omega (arith, wide)) (y_bits ∙ sym x_bits) (λ q. halves_differ (sym q)),
  )

  cut_is : (x / 2 ^ suc h * 2 ^ suc h ≡ low) × (y / 2 ^ suc h * 2 ^ suc h ≡ low)
  cut_is = (rw x_bits (sym a.is), rw y_bits (sym a.is))

-- the search from above ends at the height where they part
fork_part : (h low base : ℕ) (e : Entry) (t : Tree) → Aligned h low → low + 2 ^ h ≤ 2 ^ 32 → low ≤ e.key → e.key < low + 2 ^ h → low ≤ base → base < low + 2 ^ h → e.key ≢ base
    → fork h low e base t ≡ parted base e t
unfolding fork
fork_part zero low base e t a f u v w z n = absurd (n (omega arith))
fork_part (suc h) low base e t a f u v w z n = ⊎_elim
    (λ (i : m ≤ e.key). ⊎_elim
    (λ (j : m ≤ base). rw (no_lt i, no_lt j) (fork_part h m base e t (aligned_right a) (omega (arith, wide)) i (omega (arith, wide)) j (omega (arith, wide)) n))
    (λ (j : base < m). rw (no_lt i, yes_lt j, (height_is h low base e.key a f w j i v).0, (cut_is h low base e.key a f w j i v).1, no_lt {a = e.key} {b = base} (omega arith)))
    (le_or_lt m base))
    (λ (i : e.key < m). ⊎_elim
    (λ (j : m ≤ base). rw (yes_lt i, no_lt j, (height_is h low e.key base a f u i j z).1, (cut_is h low e.key base a f u i j z).0, yes_lt {a = e.key} {b = base} (omega arith)))
    (λ (j : base < m). rw (yes_lt i, yes_lt j) (fork_part h low base e t (aligned_left a) (omega (arith, wide)) u i w j n))
    (le_or_lt m base))
    (le_or_lt m e.key)
  where
    m : ℕ
    m = low + 2 ^ h

    wide : low + 2 ^ suc h ≡ low + 2 ^ h + 2 ^ h
    wide = omega (arith, pow-suc 2 h)

-- THE ROOT OF A CANONICAL TREE

-- a node of a canonical tree: its halves, where it lies, and that it is aligned
pub record Parts (top from h low : ℕ) (l r : Tree) : Type 0 where
  pub half : ℕ
  pub is : h ≡ suc half
  pub left : Canonical half low l
  pub right : Canonical half (low + 2 ^ half) r
  pub start : from ≤ low
  pub stop : low + 2 ^ h ≤ from + 2 ^ top
  pub high : h ≤ top
  pub aligned : Aligned top from → Aligned h low

-- what the root of a canonical tree says
abbrev pub Root : ℕ → ℕ → Tree → Type 0
Root top from empty = Unit
Root top from (Trees.leaf e) = (from ≤ e.key) × (e.key < from + 2 ^ top)
Root top from (Trees.node h low l r) = Parts top from h low l r

-- a cover's left and right half lie in it
root_left : (top from : ℕ) (t : Tree) → Root top from t → Root (suc top) from t
root_left top from empty q = tt
root_left top from (Trees.leaf e) q = (q.0, omega (arith, q.1, pow-suc 2 top))
root_left top from (Trees.node h low l r) q = record {
  half = q.half;
  is = q.is;
  left = q.left;
  right = q.right;
  start = q.start;
  stop = omega (arith, q.stop, pow-suc 2 top);
  high = omega (arith, q.high);
  aligned = λ a. q.aligned (aligned_left a);
}

root_right : (top from : ℕ) (t : Tree) → Root top (from + 2 ^ top) t → Root (suc top) from t
root_right top from empty q = tt
root_right top from (Trees.leaf e) q = (omega (arith, q.0), omega (arith, q.1, pow-suc 2 top))
root_right top from (Trees.node h low l r) q = record {
  half = q.half;
  is = q.is;
  left = q.left;
  right = q.right;
  start = omega (arith, q.start);
  stop = omega (arith, q.stop, pow-suc 2 top);
  high = omega (arith, q.high);
  aligned = λ a. q.aligned (aligned_right a);
}

-- every canonical tree says it
pub root_of : {top from : ℕ} {t : Tree} → Canonical top from t → Root top from t
root_of none = tt
root_of (one a b) = (a, b)
root_of (two {h = h} {low = low} a b f g) = record { half = h; is = refl; left = f; right = g; start = le_refl _; stop = le_refl _; high = le_refl _; aligned = λ a. a }
root_of (on_left {h = h} {low = low} {t = t} f) = root_left h low t (root_of f)
root_of (on_right {h = h} {low = low} {t = t} f) = root_right h low t (root_of f)

-- STORING

-- a leaf covers its key
covered_one : (k x : ℕ) → covered x 0 k ≡ eqb k x
unfolding covered
covered_one k x = same (leb x k && ltb k (x + 1)) (eqb k x)
    (λ t. yes_eq {a = k} {b = x} (omega (arith, leb→le x k (left_of_lem (leb x k) (ltb k (x + 1)) t), ltb→lt k (x + 1) (right_of_lem (leb x k) (ltb k (x + 1)) t))))
    (λ t. let q = lib.Dec.eqb→eq k x t in and_of (leb x k) (ltb k (x + 1)) (le→leb x k (omega arith)) (lt→ltb k (x + 1) (omega arith)))

-- what the test says
pub is_covered : (low h k : ℕ) → covered low h k ≡ true → (low ≤ k) × (k < low + 2 ^ h)
unfolding covered
is_covered low h k c =
    let t : T (leb low k && ltb k (low + 2 ^ h)) = rw c tt in
    (leb→le low k (left_of_lem (leb low k) (ltb k (low + 2 ^ h)) t), ltb→lt k (low + 2 ^ h) (right_of_lem (leb low k) (ltb k (low + 2 ^ h)) t))

-- from low on, what a cover asks is that k lies before its end
covered_from : (low h k : ℕ) → low ≤ k → covered low h k ≡ ltb k (low + 2 ^ h)
unfolding covered
covered_from low h k l = rw (is_true (leb low k) (le→leb low k l))

covered_low : (low h : ℕ) → covered low h low ≡ true
unfolding covered
covered_low low h = rw (is_true (leb low low) (le→leb low low (le_refl low)), yes_lt {a = low} {b = low + 2 ^ h} (omega (arith, pow_pos h)))

tree_beside : (a b : ℕ) (e : Entry) (T : Plan) → tree_in (beside a b e T) ≡ parted (first (tree_in T)) e (tree_in T)
tree_beside a b e T = go (ltb e.key (first (tree_in T)))
  where
    h : ℕ
    h = part_height (first (tree_in T)) e.key

    low : ℕ
    low = e.key / 2 ^ h * 2 ^ h

    go : (s : Bool) → tree_in (if s then node a h low (leaf b e) T else node a h low T (leaf b e)) ≡ (if s then Trees.node h low (Trees.leaf e) (tree_in T) else Trees.node h low (tree_in T) (Trees.leaf e))
    go true = refl
    go false = refl

module _ (a b : ℕ) (e : Entry) where
  -- a key that a node does not cover
  apart : (top from h low : ℕ) (T : Plan) → first (tree_in T) ≡ low → Aligned top from → from + 2 ^ top ≤ 2 ^ 32 → from ≤ e.key → e.key < from + 2 ^ top → from ≤ low → low < from + 2 ^ top
      → covered low h e.key ≡ false → tree_in (beside a b e T) ≡ fork top from e low (tree_in T)
  apart top from h low T q al f u v w z c =
      let n : e.key ≢ low = λ s. let t : ◌≡◌ {A = Bool} true false = sym (covered_low low h) ∙ rw s at c in true≢false t in
      tree_beside a b e T ∙ ap (λ (x : ℕ). parted x e (tree_in T)) q ∙ sym (fork_part top from low e (tree_in T) al f u v w z n)

  -- storing in a tree with numbers stores in the tree without them
  pub tree_in_put : (T : Plan) {top from : ℕ} → Canonical top from (tree_in T) → Aligned top from → from + 2 ^ top ≤ 2 ^ 32 → from ≤ e.key → e.key < from + 2 ^ top
      → tree_in (put_plan a b e T) ≡ insert top from e (tree_in T)
  unfolding put_plan insert covered
  tree_in_put (leaf i x) {top} {from} g al f u v = go (covered x.key 0 e.key) refl
    where
      go : (c : Bool) → covered x.key 0 e.key ≡ c → tree_in (if c then leaf i e else beside a b e (leaf i x)) ≡ insert top from e (Trees.leaf x)
      go true c = rw (sym (covered_one e.key x.key) ∙ c)
      go false c = rw (sym (covered_one e.key x.key) ∙ c) (apart top from 0 x.key (leaf i x) refl al f u v (root_of g).0 (root_of g).1 c)
  tree_in_put (node i h low l r) {top} {from} g al f u v =
      let q = root_of g in
      at_height q.half q.is q
      (λ c d. tree_in_put l q.left (aligned_left (subst (λ (z : ℕ). Aligned z low) q.is (q.aligned al))) (omega (arith, q.stop, ap (λ (z : ℕ). 2 ^ z) q.is, pow-suc 2 q.half)) c d)
      (λ c d. tree_in_put r q.right (aligned_right (subst (λ (z : ℕ). Aligned z low) q.is (q.aligned al))) (omega (arith, q.stop, ap (λ (z : ℕ). 2 ^ z) q.is, pow-suc 2 q.half)) c d)
    where
      at_height : (k : ℕ) → h ≡ suc k → Parts top from h low (tree_in l) (tree_in r)
          → (low ≤ e.key → e.key < low + 2 ^ k → tree_in (put_plan a b e l) ≡ insert k low e (tree_in l))
          → (low + 2 ^ k ≤ e.key → e.key < low + 2 ^ k + 2 ^ k → tree_in (put_plan a b e r) ≡ insert k (low + 2 ^ k) e (tree_in r))
          → tree_in (put_plan a b e (node i h low l r)) ≡ insert top from e (Trees.node h low (tree_in l) (tree_in r))
      at_height k s q fl fr = rw s (go (covered low (suc k) e.key) (covered low (suc k - 1) e.key) refl refl)
        where
          pred_k : suc k - 1 ≡ k
          pred_k = omega arith

          stop_k : low + 2 ^ suc k ≤ from + 2 ^ top
          stop_k = rw s at q.stop

          go : (c d : Bool) → covered low (suc k) e.key ≡ c → covered low (suc k - 1) e.key ≡ d
              → tree_in (if c then (if d then node i (suc k) low (put_plan a b e l) r else node i (suc k) low l (put_plan a b e r)) else beside a b e (node i (suc k) low l r))
              ≡ insert top from e (Trees.node (suc k) low (tree_in l) (tree_in r))
          go false d c z = rw c (apart top from (suc k) low (node i (suc k) low l r) refl al f u v q.start (omega (arith, stop_k, pow_pos (suc k))) c)
          go true true c z =
              let w = is_covered low (suc k) e.key c in
              let t : ltb e.key (low + 2 ^ k) ≡ true = sym (covered_from low k e.key w.0) ∙ rw pred_k at z in
              rw (c, t) (ap (λ (y : Tree). Trees.node (suc k) low y (tree_in r)) (fl w.0 (is_covered low k e.key (rw pred_k at z)).1))
          go true false c z =
              let w = is_covered low (suc k) e.key c in
              let t : ltb e.key (low + 2 ^ k) ≡ false = sym (covered_from low k e.key w.0) ∙ rw pred_k at z in
              let g = ltb-false e.key (low + 2 ^ k) t in
              rw (c, t) (ap (λ (y : Tree). Trees.node (suc k) low (tree_in l) y) (fr g (omega (arith, w.1, pow-suc 2 k))))
