-- What a put asks, and the small steps at its two ends.
-- Assumes nothing: these are definitions.
use Rattle.std.specs.Prelude.{ℕ, ◌+◌, ◌≤◌, ◌≡◌, List, eqb, length}
use Rattle.nodes.specs.declared.header.Header.{Header}
use Rattle.nodes.specs.declared.node.Node.{Node}
use Rattle.nodes.specs.Nodes.{node_at}
use Rattle.std.specs.Prelude.{if◌then◌else◌}
use Rattle.rules.specs.State.{Fits}
use Rattle.rules.specs.Verdict.{store}
use Rattle.pool.specs.Plan.{no_node, leaf_node}
use Rattle.pool.specs.Image.{Arrangement, Image, state_of}
use Rattle.put.specs.Values.{Value, payload_stored, entry_of}

-- a fit pool, past position 0, with room for the key
pub record Roomy (m : List ℕ) (k : ℕ) (v : Value) : Type 0 where
  pub arrangement : Arrangement
  pub image : Image m arrangement
  pub started : 1 ≤ arrangement.p
  pub room : length (store (entry_of k arrangement.p v) (state_of arrangement).kept) ≤ arrangement.N

-- the value's leaf; a payload has eight bytes
pub record LeafOf (k p : ℕ) (v : Value) (n : Node) : Type 0 where
  pub is : n ≡ leaf_node k p (payload_stored v)
  pub fits : Fits (payload_stored v)

-- the free node behind node i, none behind none
unfoldable pub next_of : List ℕ → ℕ → ℕ
next_of m i = if eqb i no_node then no_node else (node_at m i).low

-- a header with one more key kept
abbrev pub grown : Header → ℕ → ℕ → Header
grown h root free = record { mark = h.mark; limit = h.limit; zone = h.zone; position = h.position; kept = h.kept + 1; root = root; free = free }
