-- The pool as a header of 64 bytes and nodes of 32, both records of words (docs/LAYOUT.md).
-- Assumes nothing: these are definitions.
use Rattle.std.specs.Prelude.{ℕ, ◌+◌, ◌*◌, List, [], ◌∷◌}
use Rattle.words.specs.Word.{word, put_word}
use Rattle.nodes.specs.declared.node.Node.{Node}
use Rattle.nodes.specs.declared.header.Header.{Header}

-- R19: where node i starts
abbrev pub base : ℕ → ℕ
base i = 64 + 32 * i

-- R1: words stored one behind the other from a place on
unfoldable pub put_words : List ℕ → ℕ → List ℕ → List ℕ
put_words m at [] = m
put_words m at (w ∷ ws) = put_words (put_word 4 m at w) (at + 4) ws

-- R19: the node whose words stand from a place on
unfoldable pub node_from : List ℕ → ℕ → Node
node_from m b =
    record {
      height = word 4 m b;
      low = word 4 m (b + 4);
      newest = word 4 m (b + 8);
      oldest = word 4 m (b + 12);
      left = word 4 m (b + 16);
      right = word 4 m (b + 20);
      kind = word 4 m (b + 24);
      spare = word 4 m (b + 28);
    }

-- R19: the words of a node, in their order
abbrev pub node_words : Node → List ℕ
node_words n = n.height ∷ n.low ∷ n.newest ∷ n.oldest ∷ n.left ∷ n.right ∷ n.kind ∷ n.spare ∷ []

-- R19: node i of the pool
abbrev pub node_at : List ℕ → ℕ → Node
node_at m i = node_from m (base i)

-- R19: the pool with n as node i
unfoldable pub put_node : List ℕ → ℕ → Node → List ℕ
put_node m i n = put_words m (base i) (node_words n)

-- R19: an inner node's words
abbrev pub inner_node : ℕ → ℕ → ℕ → ℕ → ℕ → ℕ → Node
inner_node h low new old l r = record { height = h; low = low; newest = new; oldest = old; left = l; right = r; kind = 0; spare = 0 }

-- R19: the header's seven words
unfoldable pub header_at : List ℕ → Header
header_at m =
    record {
      mark = word 4 m 0;
      limit = word 4 m 4;
      zone = word 4 m 8;
      position = word 4 m 12;
      kept = word 4 m 16;
      root = word 4 m 20;
      free = word 4 m 24;
    }

-- R19: the words of a header, in their order
abbrev pub header_words : Header → List ℕ
header_words h = h.mark ∷ h.limit ∷ h.zone ∷ h.position ∷ h.kept ∷ h.root ∷ h.free ∷ []

-- R19: the pool with h as its header
unfoldable pub put_header : List ℕ → Header → List ℕ
put_header m h = put_words m 0 (header_words h)

-- R19: a header with p as its position
abbrev pub with_position : ℕ → Header → Header
with_position p h = record { mark = h.mark; limit = h.limit; zone = h.zone; position = p; kept = h.kept; root = h.root; free = h.free }

-- R19: the pool with p as its header's position
abbrev pub put_position : List ℕ → ℕ → List ℕ
put_position m p = put_word 4 m 12 p
