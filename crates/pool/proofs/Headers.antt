-- A header written over the bytes: they are the image of an arrangement if they hold its tree and its free nodes. Its words fit; n keys
-- take 2 · n − 1 nodes, so the number of free nodes tells the number of keys.
-- Assumes nothing.
use Prim.Native.Nat.{ℕ, ◌+◌, ◌-◌, ◌*◌, ◌/◌, ◌^◌, ◌≤◌, ◌<◌}
use native.Mathlib.Omega.{arith}
use mathlib.Core.Path.{◌≡◌, refl, sym, ◌∙◌}
use mathlib.Core.List.{List, [], ◌∷◌, ◌++◌}
use mathlib.Core.Option.{Option, none, some}
use lib.ListN.{length, length-append, get_or}
use Rattle.words.specs.Word.{Bytes}
use Rattle.nodes.specs.Nodes.{put_header}
use Rattle.nodes.specs.Laws.{HeaderFits, length_header, bytes_header, byte_header, header_put, node_header}
use Rattle.rules.specs.Tree.{entries}
use Rattle.pool.specs.Plan.{Plan, leaf, node, tree_in, numbers}
use Rattle.pool.specs.Image.{Arrangement, Arranged, Image, AllBelow, HoldsTree, HoldsFree, first_of, tree_or, root_or, numbers_or, header_of}
use Rattle.pool.proofs.Numbers.{below_mem, below_part, times_append}
use Rattle.pool.proofs.Frame.{tree_frame, free_frame, root_in}

-- HOW MANY NODES

-- n keys take 2 · n − 1 nodes
pub nodes_odd : (T : Plan) → length (numbers T) + 1 ≡ 2 * length (entries (tree_in T))
unfolding entries
nodes_odd (leaf i e) = refl
nodes_odd (node i h low l r) =
    omega (arith, nodes_odd l, nodes_odd r, length-append (numbers l) (numbers r), length-append (entries (tree_in l)) (entries (tree_in r)))

-- so the number of free nodes tells the number of keys
pub keys_beside : (X : Option Plan) (n k : ℕ) → length (numbers_or X) + k ≡ 2 * n → (2 * n + 1 - k) / 2 ≡ length (entries (tree_or X))
unfolding entries
keys_beside none n k e = omega arith
keys_beside (some T) n k e = omega (arith, nodes_odd T)

-- and there is always a free node
pub free_left : (A : Arrangement) → Arranged A → 1 ≤ length A.free
free_left A g = go A.tree (sym (length-append (numbers_or A.tree) A.free) ∙ g.all) g.lawful.few
  where
    go : (X : Option Plan) → length (numbers_or X) + length A.free ≡ 2 * A.N → length (entries (tree_or X)) ≤ A.N → 1 ≤ length A.free
    go none e f = omega (arith, g.lawful.limit_N)
    go (some T) e f = omega (arith, nodes_odd T)

-- THE HEADER'S WORDS FIT

-- the free numbers are below 2 · N
pub free_below : (A : Arrangement) → Arranged A → AllBelow (2 * A.N) A.free
free_below A g = below_part (2 * A.N) (numbers_or A.tree ++ A.free) A.free (λ j. omega (arith, times_append j (numbers_or A.tree) A.free)) g.below

-- the first free node's number fits a word
pub first_small : (n : ℕ) (F : List ℕ) → n ≤ 131072 → AllBelow n F → first_of F < 2 ^ 32
first_small n [] s b = omega arith
first_small n (i ∷ F) s b = omega (arith, b.0)

-- so does the root's number
root_small : (A : Arrangement) → Arranged A → root_or A.tree < 2 ^ 32
root_small A g = go A.tree (below_part (2 * A.N) (numbers_or A.tree ++ A.free) (numbers_or A.tree) (λ j. omega (arith, times_append j (numbers_or A.tree) A.free)) g.below)
  where
    go : (X : Option Plan) → AllBelow (2 * A.N) (numbers_or X) → root_or X < 2 ^ 32
    go none b = omega arith
    go (some T) b = omega (arith, below_mem b (root_in T), g.lawful.limit_N)

-- and so does every word of the header
pub header_small : (A : Arrangement) → Arranged A → HeaderFits (header_of A)
header_small A g = (
  omega arith,
  (
    omega (arith, g.lawful.limit_N),
    (
      omega (arith, g.lawful.limit_Z),
      (
        omega (arith, g.lawful.last),
        (
          omega (arith, g.lawful.few, g.lawful.limit_N),
          (
            root_small A g,
            (first_small (2 * A.N) A.free (omega (arith, g.lawful.limit_N)) (free_below A g), tt),
          ),
        ),
      ),
    ),
  ),
)

-- THE IMAGE

-- with the arrangement's header the bytes are its image
pub image_of : (m : List ℕ) (A : Arrangement) → Arranged A → length m ≡ 64 + 64 * A.N → Bytes m → ((k : ℕ) → 28 ≤ k → k < 64 → get_or m k 0 ≡ 0)
    → HoldsTree m A.tree → HoldsFree m A.free → Image (put_header m (header_of A)) A
image_of m A g size bytes zeros tree free = record {
  arranged = g;
  size = length_header m (header_of A) ∙ size;
  bytes = bytes_header m (header_of A) bytes;
  header = header_put m (header_of A) (omega arith) (header_small A g);
  zeros = λ k a b. byte_header m (header_of A) k a ∙ zeros k a b;
  tree = tree_frame A.tree m (put_header m (header_of A)) tree (λ j s. node_header m (header_of A) j);
  free = free_frame A.free m (put_header m (header_of A)) free (λ j s. node_header m (header_of A) j);
}
