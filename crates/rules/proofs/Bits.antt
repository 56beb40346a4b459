-- Inner nodes stand where keys first differ, with that bit 0 on the left (R32), and what a node covers is every number that shares its keys'
-- leading bits (R33): said with bits, and proved of the tree of the entries.
-- Assumes nothing.
use Prim.Native.Nat.{ℕ, suc, ◌+◌, ◌*◌, ◌/◌, ◌^◌, ◌≤◌, ◌<◌}
use native.Mathlib.Omega.{arith}
use native.Mathlib.Nat.{div-eq_of_lt-le, div-mul-le_self, lt-div-mul-add, mul_assoc, mul_comm, add-mul, one-mul, pow-succ'}
use mathlib.Core.Path.{◌≡◌, refl, sym, ap, ◌∙◌}
use mathlib.Core.Logic.{◌↔◌}
use mathlib.Core.List.{List}
use lib.Pow.{pow_pos}
use Rattle.rules.specs.State.{Entry, Rising}
use Rattle.rules.specs.Tree.{Tree, tree_of}
use Rattle.rules.proofs.Sorted.{rising_mem}
use Rattle.rules.specs.Shape.{Canonical, none, one, two, on_left, on_right, AllSplit, nothing, at_leaf, at_node}
use Rattle.rules.proofs.Trees.{canonical_rising, tree_of_canonical}

-- a power doubled
double_power : (h : ℕ) → 2 ^ suc h ≡ 2 * 2 ^ h
double_power h = pow-succ' 2 h

-- the two halves of b · 2 ^ (h + 1) .. (b + 1) · 2 ^ (h + 1) − 1
pub half_left : (b h : ℕ) → b * 2 ^ suc h ≡ 2 * b * 2 ^ h
half_left b h = ap (λ (x : ℕ). b * x) (double_power h) ∙ sym (mul_assoc b 2 (2 ^ h)) ∙ ap (λ (x : ℕ). x * 2 ^ h) (mul_comm b 2)

-- one multiple more
pub next_multiple : (b m : ℕ) → (b + 1) * m ≡ b * m + m
next_multiple b m = add-mul b 1 m ∙ ap (λ (x : ℕ). b * m + x) (one-mul m)

-- the numbers from b · m on, m of them, are those whose quotient is b
pub quotient : (b m x : ℕ) → b * m ≤ x → x < b * m + m → x / m ≡ b
quotient b m x h k = div-eq_of_lt-le m h (omega (arith, next_multiple b m))

-- what a node covers is what shares its leading bits
pub cover_shares : (b k x : ℕ) → ((b * 2 ^ k ≤ x) × (x < b * 2 ^ k + 2 ^ k)) ↔ (x / 2 ^ k ≡ b)
cover_shares b k x = (
  λ c. quotient b (2 ^ k) x c.0 c.1,
  λ e. let f = ap (λ (y : ℕ). y * 2 ^ k) e in let g = lt-div-mul-add {a = x} {b = 2 ^ k} (pow_pos k) in omega (arith, div-mul-le_self x (2 ^ k)),
)

-- a tree of the shape from b · 2 ^ h on splits at bits
pub canonical_split : (b : ℕ) {h low : ℕ} {t : Tree} → low ≡ b * 2 ^ h → Canonical h low t → AllSplit t
canonical_split b e none = nothing
canonical_split b e (one x y) = at_leaf
canonical_split b e (two {h = h} {low = low} {l = l} {r = r} x y f g) =
    let i : low ≡ 2 * b * 2 ^ h = e ∙ half_left b h in
    let j : low + 2 ^ h ≡ (2 * b + 1) * 2 ^ h = omega (arith, next_multiple (2 * b) (2 ^ h)) in
    at_node {h = suc h} {low = low} {l = l} {r = r} (record {
      bit = h;
      leading = b;
      height = omega arith;
      lowest = e;
      left_full = x;
      right_full = y;
      left_keys = λ k m. let c = rising_mem (canonical_rising f) m in quotient (2 * b) (2 ^ h) k.key (omega arith) (omega arith);
      right_keys = λ k m. let c = rising_mem (canonical_rising g) m in quotient (2 * b + 1) (2 ^ h) k.key (omega arith) (omega arith);
    }) (canonical_split (2 * b) i f) (canonical_split (2 * b + 1) j g)
canonical_split b e (on_left {h = h} f) = canonical_split (2 * b) (e ∙ half_left b h) f
canonical_split b e (on_right {h = h} {low = low} f) =
    let i : low ≡ 2 * b * 2 ^ h = e ∙ half_left b h in
    let j : low + 2 ^ h ≡ (2 * b + 1) * 2 ^ h = omega (arith, next_multiple (2 * b) (2 ^ h)) in
    canonical_split (2 * b + 1) j f

-- in a state's tree inner nodes stand where kept keys first differ
pub tree_split : {es : List Entry} → Rising (2 ^ 32) 0 es → AllSplit (tree_of 32 0 es)
tree_split r = canonical_split 0 refl (tree_of_canonical 32 0 r)
