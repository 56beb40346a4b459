-- What mending a node leaves.
-- Assumes nothing: this is a definition.
use Rattle.std.specs.Prelude.{ℕ, max, min, List}
use Rattle.nodes.specs.Nodes.{node_at, put_node, inner_node}

-- the pool with node i above the nodes l and r, their newest and oldest carried up
unfoldable pub mended : List ℕ → ℕ → ℕ → ℕ → ℕ → ℕ → List ℕ
mended m i h low l r =
    put_node m i (inner_node h low (max (node_at m l).newest (node_at m r).newest) (min (node_at m l).oldest (node_at m r).oldest) l r)
