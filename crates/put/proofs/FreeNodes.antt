-- The free nodes of an arrangement, one behind the other.
-- Assumes nothing.
use Prim.Native.Nat.{ℕ, ◌+◌, ◌*◌, ◌≤◌}
use mathlib.Core.Path.{◌≡◌, refl, sym, ap, ◌∙◌}
use mathlib.Core.Logic.{◌≢◌}
use mathlib.Core.List.{List, [], ◌∷◌}
use native.Mathlib.Omega.{arith}
use lib.ListN.{length}
use borrow.Author.Tests.{eq-eqb, ne_eqb}
use Rattle.nodes.specs.declared.node.Node.{Node}
use Rattle.nodes.specs.Nodes.{base, node_at}
use Rattle.pool.specs.Plan.{no_node}
use Rattle.pool.specs.Image.{AllBelow, HoldsFree, first_of}
use Rattle.put.specs.Storing.{rest_of}
use Rattle.put.specs.Asks.{next_of}

-- what `next_of` says of none, and of a node
pub next_none : (m : List ℕ) (i : ℕ) → i ≡ no_node → no_node ≡ next_of m i
unfolding next_of
next_none m i q = rw (eq-eqb i no_node q)

pub next_some : (m : List ℕ) (i : ℕ) (n : Node) → i ≢ no_node → n ≡ node_at m i → n.low ≡ next_of m i
unfolding next_of
next_some m i n q r = rw (ne_eqb i no_node q, r)

-- what stands behind the first
pub next_first : (m : List ℕ) (n : ℕ) (is : List ℕ) → n ≤ 131072 → AllBelow n is → HoldsFree m is → next_of m (first_of is) ≡ first_of (rest_of is)
next_first m n [] l b h = sym (next_none m no_node refl)
next_first m n (i ∷ is) l b h = sym (next_some m i (node_at m i) (omega (arith, b.0)) refl) ∙ ap (λ (k : Node). k.low) h.0

-- the first lies in the pool
pub first_room : (m : List ℕ) (n : ℕ) (is : List ℕ) → AllBelow n is → 64 + 32 * n ≤ length m → first_of is ≢ no_node → base (first_of is) + 32 ≤ length m
first_room m n [] b l q = absurd (q refl)
first_room m n (i ∷ is) b l q = omega (arith, b.0)

-- parts of what is below, and of what is held
pub below_rest : (n : ℕ) (is : List ℕ) → AllBelow n is → AllBelow n (rest_of is)
below_rest n [] b = tt
below_rest n (i ∷ is) b = b.1

pub holds_rest : (m is : List ℕ) → HoldsFree m is → HoldsFree m (rest_of is)
holds_rest m [] h = tt
holds_rest m (i ∷ is) h = h.1
