-- What the code reads and writes field by field is the node and the header of the definitions.
-- Assumes nothing.
use Prim.Native.Nat.{ℕ, ◌+◌}
use mathlib.Core.Path.{◌≡◌, ◌∙◌}
use mathlib.Core.List.{List}
use native.Mathlib.Nat.{add_assoc}
use Rattle.words.specs.Word.{word, put_word}
use Rattle.nodes.specs.declared.node.Node.{Node}
use Rattle.nodes.specs.declared.header.Header.{Header}
use Rattle.nodes.specs.Nodes.{base, put_words, node_from, node_at, put_node, header_at, put_header}

pub node_read : (m : List ℕ) (i h l n o a b k s : ℕ) → h ≡ word 4 m (base i) → l ≡ word 4 m (base i + 4) → n ≡ word 4 m (base i + 8) → o ≡ word 4 m (base i + 12)
    → a ≡ word 4 m (base i + 16) → b ≡ word 4 m (base i + 20) → k ≡ word 4 m (base i + 24) → s ≡ word 4 m (base i + 28)
    → record { height = h; low = l; newest = n; oldest = o; left = a; right = b; kind = k; spare = s } ≡ node_at m i
unfolding node_from
node_read m i h l n o a b k s e0 e1 e2 e3 e4 e5 e6 e7 = rw (e0, e1, e2, e3, e4, e5, e6, e7)

pub node_written : (m m0 m1 m2 m3 m4 m5 m6 m7 : List ℕ) (i : ℕ) (n : Node) → m0 ≡ put_word 4 m (base i) n.height → m1 ≡ put_word 4 m0 (base i + 4) n.low
    → m2 ≡ put_word 4 m1 (base i + 8) n.newest → m3 ≡ put_word 4 m2 (base i + 12) n.oldest → m4 ≡ put_word 4 m3 (base i + 16) n.left
    → m5 ≡ put_word 4 m4 (base i + 20) n.right → m6 ≡ put_word 4 m5 (base i + 24) n.kind → m7 ≡ put_word 4 m6 (base i + 28) n.spare → m7 ≡ put_node m i n
unfolding put_node put_words
node_written m m0 m1 m2 m3 m4 m5 m6 m7 i n e0 e1 e2 e3 e4 e5 e6 e7 = e7 ∙ rw (e6, e5, e4, e3, e2, e1, e0) (simp add_assoc)

pub header_read : (m : List ℕ) (a n z p k r f : ℕ) → a ≡ word 4 m 0 → n ≡ word 4 m 4 → z ≡ word 4 m 8 → p ≡ word 4 m 12 → k ≡ word 4 m 16 → r ≡ word 4 m 20 → f ≡ word 4 m 24
    → record { mark = a; limit = n; zone = z; position = p; kept = k; root = r; free = f } ≡ header_at m
unfolding header_at
header_read m a n z p k r f e0 e1 e2 e3 e4 e5 e6 = rw (e0, e1, e2, e3, e4, e5, e6)

pub header_written : (m m0 m1 m2 m3 m4 m5 m6 : List ℕ) (h : Header) → m0 ≡ put_word 4 m 0 h.mark → m1 ≡ put_word 4 m0 4 h.limit → m2 ≡ put_word 4 m1 8 h.zone
    → m3 ≡ put_word 4 m2 12 h.position → m4 ≡ put_word 4 m3 16 h.kept → m5 ≡ put_word 4 m4 20 h.root → m6 ≡ put_word 4 m5 24 h.free → m6 ≡ put_header m h
unfolding put_header put_words
header_written m m0 m1 m2 m3 m4 m5 m6 h e0 e1 e2 e3 e4 e5 e6 = e6 ∙ rw (e5, e4, e3, e2, e1, e0)
