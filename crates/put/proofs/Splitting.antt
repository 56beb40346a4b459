-- What `split` leaves, from what its calls ensure.
-- Assumes nothing.
use Prim.Native.Nat.{ℕ, ◌*◌, ◌/◌, ◌^◌, ◌≤◌, ◌<◌, max, min}
use mathlib.Core.Path.{◌≡◌}
use mathlib.Core.List.{List}
use Rattle.bits.specs.Bits.{part_height}
use Rattle.nodes.specs.declared.node.Node.{Node}
use Rattle.nodes.specs.Nodes.{put_node, inner_node}
use Rattle.rules.proofs.Tests.{yes_lt, no_lt}
use Rattle.put.specs.Writes.{split_mem}

-- the leaf on the left, and on the right
module _ (m : List ℕ) (i : ℕ) (n leaf : Node) (a b : ℕ) {m1 m2 : List ℕ} {f : Node} {h w x y : ℕ} where
  pub split_left : m1 ≡ put_node m b leaf → h ≡ part_height n.low leaf.low → w ≡ leaf.low / 2 ^ h * 2 ^ h → x ≡ max leaf.newest n.newest → y ≡ min leaf.oldest n.oldest
      → leaf.low < n.low → f ≡ inner_node h w x y b i → m2 ≡ put_node m1 a f → m2 ≡ split_mem m i n leaf a b
  unfolding split_mem
  split_left p q r s t l u v = rw (yes_lt l) (cc)

  pub split_right : m1 ≡ put_node m b leaf → h ≡ part_height n.low leaf.low → w ≡ leaf.low / 2 ^ h * 2 ^ h → x ≡ max leaf.newest n.newest → y ≡ min leaf.oldest n.oldest
      → n.low ≤ leaf.low → f ≡ inner_node h w x y i b → m2 ≡ put_node m1 a f → m2 ≡ split_mem m i n leaf a b
  unfolding split_mem
  split_right p q r s t l u v = rw (no_lt l) (cc)
