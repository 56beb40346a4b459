-- What the code of `leaves` knows at each of its answers, and what follows for `leaves_at`.
-- Assumes nothing.
use Prim.Native.Nat.{ℕ, zero, suc, ◌+◌, ◌-◌, ◌/◌, ◌^◌, ◌≤◌, ◌<◌}
use mathlib.Core.Path.{◌≡◌, refl, sym, ap, ◌∙◌}
use mathlib.Core.Bool.{Bool, true, false}
use mathlib.Core.List.{List}
use native.Mathlib.Omega.{arith}
use native.Mathlib.Nat.{pow-suc}
use lib.Dec.{eqb}
use lib.Pow.{pow_pos}
use borrow.Author.Tests.{eq-eqb, ne_eqb}
use Rattle.nodes.specs.declared.node.Node.{Node}
use Rattle.nodes.specs.Nodes.{node_at}
use Rattle.std.specs.Prelude.{if◌then◌else◌}
use Rattle.pool.specs.Times.{bit}
use Rattle.fit.specs.Check.{leaf_ok, inner_ok, cover_middle, cover_end, both, leaves_at}
use Rattle.fit.proofs.Tests.{leaf_facts, is_false}
use Rattle.fit.proofs.InnerTests.{Own, InnerFacts, inner_true, inner_facts}

-- a is the number of leaves, whatever the bound on the depth, if it suffices
abbrev pub Counts : List ℕ → ℕ → ℕ → ℕ → ℕ → ℕ → Type 0
Counts m nodes i from to a = (g : ℕ) → to - from < 2 ^ g → a ≡ leaves_at m nodes g i from to

-- two halves are the whole
pub halves : (h : ℕ) → (h ≡ 0 → ⊥) → 2 ^ h ≡ 2 ^ h / 2 + 2 ^ h / 2
halves zero z = absurd (z refl)
halves (suc k) z = omega (arith, pow-suc 2 k)

pub both_none : (a b : ℕ) → a ≡ 0 → 0 ≡ both a b
unfolding both
both_none a b e = rw (eq-eqb a 0 e)

pub both_left : (a b : ℕ) → b ≡ 0 → 0 ≡ both a b
unfolding both
both_left a b e = rw (eq-eqb b 0 e) (go (eqb a 0))
  where
    go : (x : Bool) → ◌≡◌ {A = ℕ} 0 (if x then 0 else 0)
    go true = refl
    go false = refl

pub both_sum : (a b : ℕ) → (a ≡ 0 → ⊥) → (b ≡ 0 → ⊥) → a + b ≡ both a b
unfolding both
both_sum a b p q = rw (ne_eqb a 0 p, ne_eqb b 0 q)

-- a leaf counts 1 or 0
pub leaf_counts : (m : List ℕ) (nodes i from to : ℕ) (l : Node) (a : ℕ) → l ≡ node_at m i → l.height ≡ 0 → a ≡ bit (leaf_ok l from to) → Counts m nodes i from to a
unfolding leaves_at
leaf_counts m nodes i from to l a e z x zero lt = x ∙ ap bit (sym (is_false (leaf_ok l from to) (λ t. let f = leaf_facts l from to t in omega (arith, f.at_least, f.below))))
leaf_counts m nodes i from to l a e z x (suc g) lt = rw (← e, eq-eqb l.height 0 z) x

-- a node that fails the tests has no tree
pub refused : (m : List ℕ) (nodes i from to : ℕ) → ((node_at m i).height ≡ 0 → ⊥) → (b : Bool) → b ≡ inner_ok m nodes i from to → b ≡ false → Counts m nodes i from to 0
unfolding leaves_at
refused m nodes i from to nz b e h zero lt = refl
refused m nodes i from to nz b e h (suc g) lt = rw (ne_eqb (node_at m i).height 0 nz, sym e ∙ h)

-- the tree at an inner node is those of its two halves
pub stepped : (m : List ℕ) (nodes i from to : ℕ) → ((node_at m i).height ≡ 0 → ⊥) → InnerFacts m nodes i from to → (g : ℕ) → leaves_at m nodes (suc g) i from to
    ≡ both (leaves_at m nodes g (node_at m i).left (node_at m i).low (cover_middle (node_at m i))) (leaves_at m nodes g (node_at m i).right (cover_middle (node_at m i)) (cover_end (node_at m i)))
unfolding leaves_at
stepped m nodes i from to nz f g = rw (ne_eqb (node_at m i).height 0 nz, inner_true m nodes i from to f)

-- what the code knows of inner node i that has passed the tests: it is read as n, and covers s numbers from low on
pub record Passed (m : List ℕ) (nodes i from to : ℕ) (n : Node) (low s : ℕ) : Type 0 where
  pub inner : InnerFacts m nodes i from to
  pub is_inner : (node_at m i).height ≡ 0 → ⊥
  pub is_node : n ≡ node_at m i
  pub is_low : low ≡ n.low
  pub is_size : s ≡ 2 ^ n.height
  pub at_least : from ≤ low
  pub at_most : low + s ≤ to
  pub halved : s ≡ s / 2 + s / 2
  pub some : 1 ≤ s
  pub left_in : n.left < nodes
  pub right_in : n.right < nodes

module _ (m : List ℕ) (nodes i from to : ℕ) (b : Bool) (e : b ≡ inner_ok m nodes i from to) (h : b ≡ true) (n : Node) (r : n ≡ node_at m i) where
  pub passed_height : n.height ≤ 32
  passed_height = rw (← r) at (inner_facts m nodes i from to (sym e ∙ h)).own.not_high

  pub passed : ((node_at m i).height ≡ 0 → ⊥) → (low s : ℕ) → low ≡ n.low → s ≡ 2 ^ n.height → Passed m nodes i from to n low s
  passed nz low s l z =
      let f = inner_facts m nodes i from to (sym e ∙ h) in
      let own : Own n from to = rw r f.own in
      record {
        inner = f;
        is_inner = nz;
        is_node = r;
        is_low = l;
        is_size = z;
        at_least = omega (arith, own.at_least);
        at_most = omega (arith, own.at_most);
        halved = rw z (halves n.height (λ q. nz (sym (ap (λ (x : Node). x.height) r) ∙ q)));
        some = rw z (pow_pos n.height);
        left_in = omega (arith, f.left_in, ap (λ (x : Node). x.left) r);
        right_in = omega (arith, f.right_in, ap (λ (x : Node). x.right) r);
      }

module _ {m : List ℕ} {nodes i from to : ℕ} {n : Node} {low s : ℕ} (k : Passed m nodes i from to n low s) where
  two_halves : (g : ℕ) → leaves_at m nodes (suc g) i from to ≡ both (leaves_at m nodes g n.left low (low + s / 2)) (leaves_at m nodes g n.right (low + s / 2) (low + s))
  two_halves g = rw (k.is_low, k.is_size, k.is_node) (stepped m nodes i from to k.is_inner k.inner g)

  nothing : {A : Type 0} → to - from < 1 → A
  nothing lt = absurd (omega (arith, k.at_least, k.at_most, k.some))

  pub left_none : (a : ℕ) → Counts m nodes n.left low (low + s / 2) a → a ≡ 0 → Counts m nodes i from to 0
  left_none a ca z zero lt = nothing lt
  left_none a ca z (suc g) lt = both_none _ _ (sym (ca g (omega (arith, pow-suc 2 g))) ∙ z) ∙ sym (two_halves g)

  pub right_none : (b : ℕ) → Counts m nodes n.right (low + s / 2) (low + s) b → b ≡ 0 → Counts m nodes i from to 0
  right_none b cb z zero lt = nothing lt
  right_none b cb z (suc g) lt = both_left _ _ (sym (cb g (omega (arith, pow-suc 2 g))) ∙ z) ∙ sym (two_halves g)

  pub sum_counts : (a b : ℕ) → Counts m nodes n.left low (low + s / 2) a → Counts m nodes n.right (low + s / 2) (low + s) b
      → (a ≡ 0 → ⊥) → (b ≡ 0 → ⊥) → Counts m nodes i from to (a + b)
  sum_counts a b ca cb p q zero lt = nothing lt
  sum_counts a b ca cb p q (suc g) lt =
      both_sum a b p q ∙ rw (ca g (omega (arith, pow-suc 2 g)), cb g (omega (arith, pow-suc 2 g))) (sym (two_halves g))

-- NO MORE LEAVES THAN NUMBERS

both_few : (a b x y : ℕ) → a ≤ x → b ≤ y → both a b ≤ x + y
unfolding both
both_few a b x y p q = go (eqb a 0) (eqb b 0)
  where
    go : (s t : Bool) → (if s then 0 else if t then 0 else a + b) ≤ x + y
    go true t = omega arith
    go false true = omega arith
    go false false = omega arith

pub few : (m : List ℕ) (nodes g i from to : ℕ) → leaves_at m nodes g i from to ≤ to - from
unfolding leaves_at
few m nodes zero i from to = omega arith
few m nodes (suc g) i from to =
    go (eqb (node_at m i).height 0) (leaf_ok (node_at m i) from to) (inner_ok m nodes i from to) refl refl
    (both_few _ _ _ _ (few m nodes g (node_at m i).left (node_at m i).low (cover_middle (node_at m i))) (few m nodes g (node_at m i).right (cover_middle (node_at m i)) (cover_end (node_at m i))))
  where
    below : ℕ
    below = both (leaves_at m nodes g (node_at m i).left (node_at m i).low (cover_middle (node_at m i))) (leaves_at m nodes g (node_at m i).right (cover_middle (node_at m i)) (cover_end (node_at m i)))

    go : (z l k : Bool) → leaf_ok (node_at m i) from to ≡ l → inner_ok m nodes i from to ≡ k
        → below ≤ cover_middle (node_at m i) - (node_at m i).low + (cover_end (node_at m i) - cover_middle (node_at m i))
        → (if z then bit l else if k then below else 0) ≤ to - from
    go true true k e f h = let x = leaf_facts (node_at m i) from to e in omega (arith, x.at_least, x.below)
    go true false k e f h = omega arith
    go false l true e f h = let x = inner_facts m nodes i from to f in omega (arith, x.own.at_least, x.own.at_most)
    go false l false e f h = omega arith

-- so the sum of two halves fits a word
pub sum_few : {m : List ℕ} {nodes i from to : ℕ} {n : Node} {low s : ℕ} (k : Passed m nodes i from to n low s) (a b : ℕ)
    → Counts m nodes n.left low (low + s / 2) a → Counts m nodes n.right (low + s / 2) (low + s) b → to ≤ 2 ^ 32 → a + b < 2 ^ 64
sum_few {m} {nodes} {i} {from} {to} {n} {low} {s} k a b ca cb t =
    omega (arith, ca 33 (omega arith), cb 33 (omega arith), few m nodes 33 n.left low (low + s / 2), few m nodes 33 n.right (low + s / 2) (low + s))
