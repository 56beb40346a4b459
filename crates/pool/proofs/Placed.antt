-- Where the nodes of a plan stand, said node by node as the fitness check sees it: each lies in its half of its parent's cover and begins
-- at a multiple of its size. That is the shape of the tree of the entries, and the other way round.
-- Assumes nothing.
use Prim.Native.Nat.{ℕ, zero, suc, ◌+◌, ◌-◌, ◌*◌, ◌/◌, ◌%◌, ◌^◌, ◌≤◌, ◌<◌}
use mathlib.Core.Path.{◌≡◌, sym, ap, ◌∙◌, subst}
use native.Mathlib.Omega.{arith}
use native.Mathlib.Decide.{dec_lt}
use native.Mathlib.Nat.{le_refl, le_trans, mul-le-mul_right, div-add-mod', pow-suc}
use lib.Dec.{T}
use Rattle.rules.specs.State.{Entry}
use Rattle.rules.specs.Tree.{Tree, empty, first}
use Rattle.rules.specs.Shape.{full, Canonical, none, one, two, on_left, on_right}
use Rattle.pool.specs.Plan.{Plan, leaf, node, tree_in}
use Rattle.pool.specs.Subtree.{height_of}

-- T holds keys of from .. to − 1
pub data Placed : ℕ → ℕ → Plan → Type 0 where
  at_leaf : {from to i : ℕ} {e : Entry} → from ≤ e.key → e.key < to → Placed from to (leaf i e)
  at_node : {from to i h low : ℕ} {l r : Plan} → from ≤ low → low + 2 ^ suc h ≤ to → low % 2 ^ suc h ≡ 0
      → Placed low (low + 2 ^ h) l → Placed (low + 2 ^ h) (low + 2 ^ suc h) r → Placed from to (node i (suc h) low l r)

pub placed_widen : {from to from' to' : ℕ} {T : Plan} → from' ≤ from → to ≤ to' → Placed from to T → Placed from' to' T
placed_widen a b (at_leaf x y) = at_leaf (le_trans a x) (le_trans y b)
placed_widen a b (at_node x y z l r) = at_node (le_trans a x) (le_trans y b) z l r

-- a plan holds something
pub full_plan : (P : Plan) → T (full (tree_in P))
full_plan (leaf i e) = tt
full_plan (node i h low l r) = tt

-- MULTIPLES

-- of two multiples of d the smaller is smaller by d
pub apart : (d a b q r : ℕ) → a ≡ q * d → b ≡ r * d → a < b → a + d ≤ b
apart d a b q r ea eb h =
    elim (dec_lt q r) [ yes l ↦ omega (arith, mul-le-mul_right d l, ea, eb) | no g ↦ absurd (omega (arith, mul-le-mul_right {m = r} {n = q} d (omega arith), ea, eb)) ]

pub quotient : (a d : ℕ) → a % d ≡ 0 → a ≡ a / d * d
quotient a d e = omega (arith, div-add-mod' a d)

-- a multiple of 2 ^ (k + 1) is one of 2 ^ k, and so is the middle behind it
pub halved : (from q k : ℕ) → from ≡ q * 2 ^ suc k → from ≡ (q + q) * 2 ^ k
halved from q k e = e ∙ ap (λ (x : ℕ). q * x) (pow-suc 2 k) ∙ omega arith

pub middled : (from q k : ℕ) → from ≡ q * 2 ^ suc k → from + 2 ^ k ≡ (q + q + 1) * 2 ^ k
middled from q k e = omega (arith, halved from q k e)

-- THE TREE OF THE ENTRIES

-- h raised d times
abbrev raised : ℕ → ℕ → ℕ
raised zero h = h
raised (suc d) h = suc (raised d h)

raised_sum : (d h : ℕ) → raised d h ≡ d + h
raised_sum zero h = omega arith
raised_sum (suc d) h = omega (arith, raised_sum d h)

-- a multiple of a power is one of a lower power
lowered : (d h from q : ℕ) → from ≡ q * 2 ^ raised d h → (r : ℕ) × (from ≡ r * 2 ^ h)
lowered zero h from q e = (q, e)
lowered (suc d) h from q e = lowered d h from (q + q) (halved from q (raised d h) e)

-- a tree that stands in a wider range, at a multiple of its size
raise : (d h low from q r : ℕ) {t : Tree} → Canonical h low t → low ≡ q * 2 ^ h → from ≡ r * 2 ^ raised d h → from ≤ low → low + 2 ^ h ≤ from + 2 ^ raised d h → Canonical (raised d h) from t
raise zero h low from q r {t} c el ef a b = subst (λ (x : ℕ). Canonical h x t) (omega arith) c
raise (suc d) h low from q r {t} c el ef a b =
    let twice : 2 ^ raised (suc d) h ≡ 2 ^ raised d h * 2 = pow-suc 2 (raised d h) in
    let w = lowered d h (from + 2 ^ raised d h) (r + r + 1) (middled from r (raised d h) ef) in
    elim (dec_lt low (from + 2 ^ raised d h)) [
      | yes l ↦ on_left (raise d h low from q (r + r) c el (halved from r (raised d h) ef) a (apart (2 ^ h) low (from + 2 ^ raised d h) q w.0 el w.1 l))
      | no g ↦ on_right (raise d h low (from + 2 ^ raised d h) q (r + r + 1) c el (middled from r (raised d h) ef) (omega arith) (omega arith))
    ]

-- a size no larger is a height no larger
pub not_higher : (h k : ℕ) → 2 ^ h ≤ 2 ^ k → h ≤ k
not_higher h k l = elim (dec_lt k h) [ yes g ↦ absurd (omega (arith, lib.Pow.pow-lt g)) | no g ↦ omega arith ]

pub placed_canonical : {from to : ℕ} {P : Plan} → Placed from to P → (k q : ℕ) → from ≡ q * 2 ^ k → to ≤ from + 2 ^ k → Canonical k from (tree_in P)
placed_canonical {from} {to} (at_leaf a b) k q e h = one {h = k} a (le_trans b h)
placed_canonical {from} {to} (at_node {h = h} {low = low} {l = l} {r = r} a b z pl pr) k q e g =
    let el : low ≡ low / 2 ^ suc h * 2 ^ suc h = quotient low (2 ^ suc h) z in
    let c = two (full_plan l) (full_plan r) (placed_canonical pl h _ (halved low (low / 2 ^ suc h) h el) (omega arith)) (placed_canonical pr h _ (middled low (low / 2 ^ suc h) h el) (omega arith)) in
    let s : raised (k - suc h) (suc h) ≡ k = raised_sum (k - suc h) (suc h) ∙ omega (arith, not_higher (suc h) k (omega arith)) in
    subst (λ (x : ℕ). Canonical x from (Tree.node (suc h) low (tree_in l) (tree_in r))) s
    (raise (k - suc h) (suc h) low from (low / 2 ^ suc h) q c el (rw s e) a (rw s (omega arith)))

-- AND BACK

module _ (h low q : ℕ) (e : low ≡ q * 2 ^ suc h) where
  multiple : low % 2 ^ suc h ≡ 0
  multiple = rw e (native.Mathlib.Nat.mul-mod_left q (2 ^ suc h))

  whole : (i h' low' : ℕ) (l r : Plan) → h' ≡ suc h → low' ≡ low → Placed low (low + 2 ^ h) l → Placed (low + 2 ^ h) (low + 2 ^ suc h) r → Placed low (low + 2 ^ suc h) (node i h' low' l r)
  whole i h' low' l r eh el pl pr = rw (eh, el) (at_node (le_refl low) (le_refl (low + 2 ^ suc h)) multiple pl pr)

-- the parts of a tree
abbrev form : Tree → ℕ
form empty = 0
form (Tree.leaf e) = 1
form (Tree.node h low l r) = 2

abbrev entry_or : Entry → Tree → Entry
entry_or d empty = d
entry_or d (Tree.leaf e) = e
entry_or d (Tree.node h low l r) = d

abbrev left_of : Tree → Tree
left_of empty = empty
left_of (Tree.leaf e) = empty
left_of (Tree.node h low l r) = l

abbrev right_of : Tree → Tree
right_of empty = empty
right_of (Tree.leaf e) = empty
right_of (Tree.node h low l r) = r

pub canonical_placed : {k from : ℕ} {t : Tree} → Canonical k from t → (q : ℕ) → from ≡ q * 2 ^ k → (P : Plan) → tree_in P ≡ t → Placed from (from + 2 ^ k) P
canonical_placed none q e (leaf i x) s = absurd (omega (arith, ap form s))
canonical_placed none q e (node i h low l r) s = absurd (omega (arith, ap form s))
canonical_placed (one {h = k} {low = from} {e = y} a b) q e (leaf i x) s = subst (λ (z : Entry). Placed from (from + 2 ^ k) (leaf i z)) (sym (ap (entry_or x) s)) (at_leaf a b)
canonical_placed (one a b) q e (node i h low l r) s = absurd (omega (arith, ap form s))
canonical_placed (two fl fr cl cr) q e (leaf i x) s = absurd (omega (arith, ap form s))
canonical_placed (two {h = h} {low = low} {l = tl} {r = tr} fl fr cl cr) q e (node i h' low' l r) s =
    whole h low q e i h' low' l r (ap height_of s) (ap first s)
    (canonical_placed cl (q + q) (halved low q h e) l (ap left_of s))
    (placed_widen (omega arith) (omega arith) (canonical_placed cr (q + q + 1) (middled low q h e) r (ap right_of s)))
canonical_placed (on_left {h = h} {low = low} c) q e P s = placed_widen (omega arith) (omega arith) (canonical_placed c (q + q) (halved low q h e) P s)
canonical_placed (on_right {h = h} {low = low} c) q e P s = placed_widen (omega arith) (omega arith) (canonical_placed c (q + q + 1) (middled low q h e) P s)
