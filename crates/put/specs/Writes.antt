-- What the step of a put that takes two free nodes leaves, on the pool's bytes.
-- Assumes nothing: these are definitions.
use Rattle.std.specs.Prelude.{ℕ, ◌*◌, ◌/◌, ◌^◌, max, min, List, ltb}
use Rattle.bits.specs.Bits.{part_height}
use Rattle.nodes.specs.declared.node.Node.{Node}
use Rattle.nodes.specs.Nodes.{put_node, inner_node}
use Rattle.std.specs.Prelude.{if◌then◌else◌}

-- the inner node above a leaf, which is node b, and node i, which holds n
abbrev pub fork_node : ℕ → Node → Node → ℕ → Node
fork_node i n leaf b =
    let h = part_height n.low leaf.low in
    let low = leaf.low / 2 ^ h * 2 ^ h in
    let new = max leaf.newest n.newest in
    let old = min leaf.oldest n.oldest in
    if ltb leaf.low n.low then inner_node h low new old b i else inner_node h low new old i b

-- the leaf as node b, and the inner node as node a
unfoldable pub split_mem : List ℕ → ℕ → Node → Node → ℕ → ℕ → List ℕ
split_mem m i n leaf a b = put_node (put_node m b leaf) a (fork_node i n leaf b)
