-- From the tree with the entry stored to the whole image: free nodes, zeros and header.
-- Assumes nothing.
use Prim.Native.Nat.{ℕ, ◌+◌, ◌*◌, ◌^◌, ◌≤◌, ◌<◌}
use mathlib.Core.Path.{◌≡◌, ap, ◌∙◌}
use mathlib.Core.Bool.{Bool, true, false}
use mathlib.Core.List.{List, ◌++◌}
use mathlib.Core.Option.{Option, none, some}
use native.Mathlib.Omega.{arith}
use lib.ListN.{length, get_or}
use Rattle.words.specs.Word.{Bytes}
use Rattle.nodes.specs.declared.header.Header.{Header}
use Rattle.nodes.specs.Nodes.{base, header_at, put_header}
use Rattle.nodes.specs.Laws.{NodeFits}
use Rattle.std.specs.Prelude.{if◌then◌else◌}
use Rattle.rules.specs.State.{Entry, Fits, last_position}
use Rattle.pool.specs.Plan.{Plan, numbers, leaf_node}
use Rattle.pool.specs.Image.{Arrangement, Arranged, Image, Holds, HoldsTree, HoldsFree, first_of, header_of, state_of, root_or}
use Rattle.pool.specs.Times.{times}
use Rattle.pool.proofs.Numbers.{times_append, times_mem, mem_times, distinct_times, below_mem}
use Rattle.pool.specs.Frame.{Frame}
use Rattle.pool.proofs.Frame.{frame_node, frame_front, free_frame}
use Rattle.pool.proofs.Headers.{image_of}
use Rattle.put.specs.Values.{Value, payload_stored, entry_of}
use Rattle.put.specs.Storing.{has, rest_of, tree_after, free_after, put_in}
use Rattle.put.specs.Places.{leaf_of}
use Rattle.put.specs.Asks.{Roomy, grown}
use Rattle.put.proofs.Arranging.{Storable, arranged_put}
use Rattle.put.proofs.FreeNodes.{holds_rest}
use Rattle.put.proofs.SameTree.{same_N, same_p, same_kept}

-- THE HEADER

-- all of an image but for the header's words
pub record Body (m : List ℕ) (A : Arrangement) : Type 0 where
  pub arranged : Arranged A
  pub size : length m ≡ 64 + 64 * A.N
  pub bytes : Bytes m
  pub zeros : (k : ℕ) → 28 ≤ k → k < 64 → get_or m k 0 ≡ 0
  pub tree : HoldsTree m A.tree
  pub free : HoldsFree m A.free

-- with the header's words it is an image
pub body_image : (m : List ℕ) (A : Arrangement) → Body m A → header_at m ≡ header_of A → Image m A
body_image m A b h = record { arranged = b.arranged; size = b.size; bytes = b.bytes; header = h; zeros = b.zeros; tree = b.tree; free = b.free }

-- the header written last
pub body_header : (m : List ℕ) (A : Arrangement) → Body m A → (h : Header) → h ≡ header_of A → Image (put_header m h) A
body_header m A b h q = rw q (image_of m A b.arranged b.size b.bytes b.zeros b.tree b.free)

-- one more key
pub grown_is : (A : Arrangement) (e : Entry) (h : Header) (root free : ℕ) → h ≡ header_of A → length (state_of (put_in A e)).kept ≡ length (state_of A).kept + 1
    → root ≡ root_or (put_in A e).tree → free ≡ first_of (put_in A e).free → grown h root free ≡ header_of (put_in A e)
grown_is A e h root free q k r f = rw (q, ← k, r, f)

-- THE FREE NODES

-- what is still free is held as it was
held_if : (m : List ℕ) (c : Bool) (free : List ℕ) → HoldsFree m free → HoldsFree m (if c then free else rest_of (rest_of free))
held_if m true free h = h
held_if m false free h = holds_rest m (rest_of free) (holds_rest m free h)

held_after : (m : List ℕ) (k : ℕ) (free : List ℕ) (o : Option Plan) → HoldsFree m free → HoldsFree m (free_after k free o)
held_after m k free none h = holds_rest m free h
held_after m k free (some T) h = held_if m (has k T) free h

-- WHAT A PUT ASKS

-- the room that one arrangement of the pool has, each has
pub storable : (m : List ℕ) (k : ℕ) (v : Value) → Roomy m k v → k < 2 ^ 32 → Fits (payload_stored v) → (A : Arrangement) → Image m A → Storable A (entry_of k A.p v)
storable m k v g ks fs A a =
    let B = g.arrangement in
    let n = same_N m A B a g.image in
    let p = same_p m A B a g.image in
    record {
      key_fits = ks;
      payload_fits = fs;
      written = rw p g.started;
      up_to_p = omega arith;
      room = rw (same_kept m A B a g.image, p, n) g.room;
    }

-- an entry's leaf fits its words
payload_words : (k w : ℕ) (o : Option ℕ) → k < 2 ^ 32 → w ≤ last_position → Fits o → NodeFits (leaf_node k w o)
payload_words k w none a b c = (omega arith, (omega arith, (omega arith, (omega arith, (omega arith, (omega arith, (omega arith, (omega arith, tt))))))))
payload_words k w (some x) a b c = (omega arith, (omega arith, (omega arith, (omega arith, (omega arith, (omega arith, (omega arith, (omega arith, tt))))))))

module _ (m : List ℕ) (A : Arrangement) (a : Image m A) (e : Entry) (s : Storable A e) where
  pub entry_fits : NodeFits (leaf_of e)
  entry_fits = payload_words e.key e.position e.payload s.key_fits (omega (arith, s.up_to_p, a.arranged.lawful.last)) s.payload_fits

  pub after : Arranged (put_in A e)
  after = arranged_put A a.arranged e s

  abbrev Tree : Plan
  Tree = tree_after e A.free A.tree

  abbrev Free : List ℕ
  Free = free_after e.key A.free A.tree

  -- no number twice, and each in the pool
  pub once_all : (j : ℕ) → times j (numbers Tree) + times j Free ≤ 1
  once_all j = omega (arith, distinct_times (numbers Tree ++ Free) after.distinct j, times_append j (numbers Tree) Free)

  pub inside_all : (j : ℕ) → 1 ≤ times j (numbers Tree) → base j + 32 ≤ length m
  inside_all j h =
      let b = below_mem after.below (times_mem j (numbers Tree ++ Free) (omega (arith, times_append j (numbers Tree) Free))) in
      omega (arith, a.size)

  -- a pool that holds the tree with e stored, and is otherwise as it was
  pub body_put : (m1 : List ℕ) → Bytes m1 → Frame m m1 (λ j. 1 ≤ times j (numbers Tree)) → Holds m1 Tree → Body m1 (put_in A e)
  body_put m1 b f h = record {
    arranged = after;
    size = f.length_kept ∙ a.size;
    bytes = b;
    zeros = λ k u v. frame_front f k v ∙ a.zeros k u v;
    tree = h;
    free = free_frame Free m m1 (held_after m e.key A.free A.tree a.free)
        (λ j t. frame_node f j (λ i u d. omega (arith, once_all j, mem_times t, ap (λ (z : ℕ). times z (numbers Tree)) d)));
  }
