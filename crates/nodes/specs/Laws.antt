-- What others use of nodes and the header: each is read back as it was put, what is apart from it is as it was.
-- Assumes nothing.
use Rattle.std.specs.Prelude.{ℕ, ◌+◌, ◌*◌, ◌^◌, ◌≤◌, ◌<◌, ◌≡◌, ◌⊎◌, ◌≢◌, List, length, get_or}
use Rattle.std.proofs.Common.{inl, inr, arith}
use Rattle.std.proofs.Math.Decide.{dec_lt}
use Rattle.words.specs.Word.{Bytes, word}
use Rattle.words.specs.Laws.{word_same, word_fits, word_put, word_apart, byte_put}
use Rattle.nodes.specs.declared.node.Node.{Node}
use Rattle.nodes.specs.declared.header.Header.{Header}
use Rattle.nodes.specs.Nodes.{base, put_words, node_from, node_words, node_at, put_node, header_at, header_words, put_header, with_position, put_position}
use Rattle.nodes.specs.Runs.{Small, length_words, bytes_words, byte_words, word_inside}

-- each word of a node or a header fits
abbrev pub NodeFits : Node → Type 0
NodeFits n = Small (node_words n)

abbrev pub HeaderFits : Header → Type 0
HeaderFits h = Small (header_words h)

-- NODES

pub length_node : (m : List ℕ) (i : ℕ) (n : Node) → length (put_node m i n) ≡ length m
unfolding put_node
length_node m i n = length_words (node_words n) m (base i)

pub bytes_node : (m : List ℕ) (i : ℕ) (n : Node) → Bytes m → Bytes (put_node m i n)
unfolding put_node
bytes_node m i n b = bytes_words (node_words n) m (base i) b

pub byte_node : (m : List ℕ) (i : ℕ) (n : Node) (k : ℕ) → (k < base i) ⊎ (base i + 32 ≤ k) → get_or (put_node m i n) k 0 ≡ get_or m k 0
unfolding put_node
byte_node m i n k w = byte_words (node_words n) m (base i) k w

-- a node is read back
pub node_put : (m : List ℕ) (i : ℕ) (n : Node) → base i + 32 ≤ length m → NodeFits n → node_at (put_node m i n) i ≡ n
unfolding put_node node_from
node_put m i n f s =
    let at : (k : ℕ) → k < 8 → word 4 (put_words m (base i) (node_words n)) (base i + 4 * k) ≡ get_or (node_words n) k 0 = λ k h. word_inside (node_words n) m (base i) k h f s in
    let first : word 4 (put_words m (base i) (node_words n)) (base i) ≡ n.height = rw (native.Mathlib.Nat.add-zero (base i)) at (at 0 (omega arith)) in
    rw (first, at 1 (omega arith), at 2 (omega arith), at 3 (omega arith), at 4 (omega arith), at 5 (omega arith), at 6 (omega arith), at 7 (omega arith))

-- pools that agree on its bytes have the same node
pub node_same : (l m : List ℕ) (i : ℕ) → ((k : ℕ) → base i ≤ k → k < base i + 32 → get_or m k 0 ≡ get_or l k 0) → node_at m i ≡ node_at l i
unfolding node_from
node_same l m i f =
    let same : (d : ℕ) → d + 4 ≤ 32 → word 4 m (base i + d) ≡ word 4 l (base i + d) = λ d h. word_same 4 m l (base i + d) (base i + d) (λ n g. f (base i + d + n) (omega arith) (omega arith)) in
    let first : word 4 m (base i) ≡ word 4 l (base i) = word_same 4 m l (base i) (base i) (λ n g. f (base i + n) (omega arith) (omega arith)) in
    rw (first, same 4 (omega arith), same 8 (omega arith), same 12 (omega arith), same 16 (omega arith), same 20 (omega arith), same 24 (omega arith), same 28 (omega arith))

-- another node is as it was
pub node_apart : (m : List ℕ) (i j : ℕ) (n : Node) → i ≢ j → node_at (put_node m i n) j ≡ node_at m j
node_apart m i j n d =
    node_same m (put_node m i n) j (λ k p q. byte_node m i n k (elim (dec_lt i j) [ yes l ↦ inr (omega arith) | no g ↦ inl (omega arith) ]))

pub node_fits : (m : List ℕ) (i : ℕ) → Bytes m → NodeFits (node_at m i)
unfolding node_from
node_fits m i b = (
  word_fits 4 m (base i) b,
  (
    word_fits 4 m (base i + 4) b,
    (
      word_fits 4 m (base i + 8) b,
      (
        word_fits 4 m (base i + 12) b,
        (
          word_fits 4 m (base i + 16) b,
          (
            word_fits 4 m (base i + 20) b,
            (
              word_fits 4 m (base i + 24) b,
              (word_fits 4 m (base i + 28) b, tt),
            ),
          ),
        ),
      ),
    ),
  ),
)

-- THE HEADER

pub length_header : (m : List ℕ) (h : Header) → length (put_header m h) ≡ length m
unfolding put_header
length_header m h = length_words (header_words h) m 0

pub bytes_header : (m : List ℕ) (h : Header) → Bytes m → Bytes (put_header m h)
unfolding put_header
bytes_header m h b = bytes_words (header_words h) m 0 b

-- no byte behind the seven words is touched
pub byte_header : (m : List ℕ) (h : Header) (k : ℕ) → 28 ≤ k → get_or (put_header m h) k 0 ≡ get_or m k 0
unfolding put_header
byte_header m h k w = byte_words (header_words h) m 0 k (inr w)

pub header_put : (m : List ℕ) (h : Header) → 64 ≤ length m → HeaderFits h → header_at (put_header m h) ≡ h
unfolding put_header header_at
header_put m h f s =
    let at : (k : ℕ) → k < 7 → word 4 (put_words m 0 (header_words h)) (0 + 4 * k) ≡ get_or (header_words h) k 0 = λ k g. word_inside (header_words h) m 0 k g (omega arith) s in
    rw (at 0 (omega arith), at 1 (omega arith), at 2 (omega arith), at 3 (omega arith), at 4 (omega arith), at 5 (omega arith), at 6 (omega arith))

pub header_same : (l m : List ℕ) → ((k : ℕ) → k < 28 → get_or m k 0 ≡ get_or l k 0) → header_at m ≡ header_at l
unfolding header_at
header_same l m f =
    let same : (d : ℕ) → d + 4 ≤ 28 → word 4 m d ≡ word 4 l d = λ d h. word_same 4 m l d d (λ n g. f (d + n) (omega arith)) in
    rw (same 0 (omega arith), same 4 (omega arith), same 8 (omega arith), same 12 (omega arith), same 16 (omega arith), same 20 (omega arith), same 24 (omega arith))

-- a node does not touch the header, nor the header a node
pub header_node : (m : List ℕ) (i : ℕ) (n : Node) → header_at (put_node m i n) ≡ header_at m
header_node m i n = header_same m (put_node m i n) (λ k h. byte_node m i n k (inl (omega arith)))

pub node_header : (m : List ℕ) (h : Header) (i : ℕ) → node_at (put_header m h) i ≡ node_at m i
node_header m h i = node_same m (put_header m h) i (λ k p q. byte_header m h k (omega arith))

-- the position alone: the header with it, and no other byte is touched
pub position_put : (m : List ℕ) (p : ℕ) → 64 ≤ length m → p < 2 ^ 32 → header_at (put_position m p) ≡ with_position p (header_at m)
unfolding header_at
position_put m p f s =
    let apart : (k : ℕ) → (k + 4 ≤ 12) ⊎ (12 + 4 ≤ k) → word 4 (put_position m p) k ≡ word 4 m k = λ k o. word_apart 4 4 m 12 p k o in
    rw (apart 0 (inl (omega arith)), apart 4 (inl (omega arith)), apart 8 (inl (omega arith)), word_put 4 m 12 p (omega arith) (omega arith), apart 16 (inr (omega arith)), apart 20 (inr (omega arith)), apart 24 (inr (omega arith)))

pub byte_position : (m : List ℕ) (p k : ℕ) → 16 ≤ k → get_or (put_position m p) k 0 ≡ get_or m k 0
byte_position m p k h = byte_put 4 m 12 p k (inr (omega arith))

pub node_position : (m : List ℕ) (p i : ℕ) → node_at (put_position m p) i ≡ node_at m i
node_position m p i = node_same m (put_position m p) i (λ k a b. byte_position m p k (omega arith))

pub header_fits : (m : List ℕ) → Bytes m → HeaderFits (header_at m)
unfolding header_at
header_fits m b =
    (word_fits 4 m 0 b, (word_fits 4 m 4 b, (word_fits 4 m 8 b, (word_fits 4 m 12 b, (word_fits 4 m 16 b, (word_fits 4 m 20 b, (word_fits 4 m 24 b, tt)))))))
