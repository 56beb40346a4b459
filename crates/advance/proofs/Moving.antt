-- The position moves on: the state is the one that the rules leave where nothing is stored, and the bytes are its image, since only the
-- header's word differs.
-- Assumes nothing.
use Prim.Native.Nat.{ℕ, ◌+◌, ◌^◌, ◌<◌}
use native.Mathlib.Omega.{arith}
use mathlib.Core.Path.{◌≡◌, refl, ap, ◌∙◌}
use mathlib.Core.List.{List}
use Rattle.words.specs.Laws.{length_put, bytes_put}
use Rattle.nodes.specs.declared.header.Header.{Header}
use Rattle.nodes.specs.Nodes.{header_at, with_position, put_position}
use Rattle.nodes.specs.Laws.{position_put, byte_position, node_position}
use Rattle.rules.specs.State.{last_position}
use Rattle.rules.specs.Verdict.{step}
use Rattle.pool.specs.Image.{Arrangement, Arranged, Image, state_of, header_of}
use Rattle.pool.proofs.Frame.{tree_frame, free_frame}
use Rattle.advance.specs.Moved.{moved_on, PositionsLeft}

-- THE ARRANGEMENT

-- the state is the one that the rules leave where nothing is stored
pub onward_state : (A : Arrangement) → state_of (moved_on A) ≡ step (state_of A) (state_of A).kept
onward_state A = refl

-- it is an arrangement again
pub onward_arranged : (A : Arrangement) → A.p < last_position → Arranged A → Arranged (moved_on A)
onward_arranged A h g = record {
  lawful = record {
    limit_N = g.lawful.limit_N;
    limit_Z = g.lawful.limit_Z;
    last = omega arith;
    few = g.lawful.few;
    rising = g.lawful.rising;
    positions = λ e m. let x = g.lawful.positions e m in (x.0, omega arith);
    payloads = g.lawful.payloads;
  };
  shape = g.shape;
  below = g.below;
  distinct = g.distinct;
  all = g.all;
}

-- THE BYTES

module _ (m : List ℕ) (h : Header) (e : h ≡ header_at m) (g : PositionsLeft m) where
  -- the position read is the arrangement's
  position_is : (A : Arrangement) → Image m A → h.position ≡ A.p
  position_is A i = ap (λ (x : Header). x.position) (e ∙ i.header)

  -- the next position fits a word
  pub position_left : h.position + 1 < 2 ^ 32
  position_left = omega (arith, position_is g.arrangement g.image, g.more)

  -- the bytes are the image of the arrangement one position on
  pub advance_whole : (m1 : List ℕ) → m1 ≡ put_position m (h.position + 1) → (A : Arrangement) → Image m A → Image m1 (moved_on A)
  advance_whole m1 w A i =
      let v : ℕ = h.position + 1 in
      let s : A.p < last_position = omega (arith, position_is A i, position_is g.arrangement g.image, g.more) in
      let head : header_at (put_position m v) ≡ header_of (moved_on A) =
      position_put m v (omega (arith, i.size)) position_left ∙ ap (with_position v) i.header ∙ ap (λ (p : ℕ). with_position (p + 1) (header_of A)) (position_is A i) in
      rw w (record {
        arranged = onward_arranged A s i.arranged;
        size = length_put 4 m 12 v ∙ i.size;
        bytes = bytes_put 4 m 12 v i.bytes;
        header = head;
        zeros = λ k a b. byte_position m v k (omega arith) ∙ i.zeros k a b;
        tree = tree_frame A.tree m (put_position m v) i.tree (λ j s. node_position m v j);
        free = free_frame A.free m (put_position m v) i.free (λ j s. node_position m v j);
      })
