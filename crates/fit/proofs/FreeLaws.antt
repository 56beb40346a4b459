-- The free nodes' tests, and what the code of the chain knows at each turn.
-- Assumes nothing.
use Prim.Native.Nat.{ℕ, zero, suc, ◌-◌, ◌≤◌, ◌<◌}
use mathlib.Core.Path.{◌≡◌, refl, sym, ap, ◌∙◌}
use mathlib.Core.Bool.{Bool, true, false}
use mathlib.Core.List.{List, [], ◌∷◌}
use native.Mathlib.Omega.{arith}
use lib.Dec.{ltb, eqb}
use lib.ListN.{length}
use borrow.Author.Tests.{ltb-true, eqb-true, lt-ltb, le-ltb, eq-eqb}
use Rattle.nodes.specs.declared.node.Node.{Node}
use Rattle.nodes.specs.Nodes.{node_at}
use Rattle.pool.specs.Plan.{no_node, free_height}
use Rattle.pool.specs.Image.{AllBelow, HoldsFree, first_of}
use Rattle.fit.specs.Whole.{free_ok, chain_ok}
use Rattle.fit.proofs.Tests.{and_both}
use Rattle.fit.proofs.Sound.{node_is}

-- a free node's words but its next
pub record Free (n : Node) (rank : ℕ) : Type 0 where
  pub free_height_lem : n.height ≡ free_height
  pub is_rank : n.newest ≡ rank
  pub no_oldest : n.oldest ≡ 0
  pub no_left : n.left ≡ 0
  pub no_right : n.right ≡ 0
  pub no_kind : n.kind ≡ 0
  pub no_spare : n.spare ≡ 0

module _ (n : Node) (rank : ℕ) where
  pub free_true : Free n rank → free_ok n rank ≡ true
  unfolding free_ok
  free_true f =
      rw (
        eq-eqb n.height free_height f.free_height_lem,
        eq-eqb n.newest rank f.is_rank,
        eq-eqb n.oldest 0 f.no_oldest,
        eq-eqb n.left 0 f.no_left,
        eq-eqb n.right 0 f.no_right,
        eq-eqb n.kind 0 f.no_kind,
        eq-eqb n.spare 0 f.no_spare,
      )

  pub free_facts : free_ok n rank ≡ true → Free n rank
  unfolding free_ok
  free_facts h =
      let a = and_both (eqb n.height free_height) _ h in
      let b = and_both (eqb n.newest rank) _ a.1 in
      let c = and_both (eqb n.oldest 0) _ b.1 in
      let d = and_both (eqb n.left 0) _ c.1 in
      let e = and_both (eqb n.right 0) _ d.1 in
      let f = and_both (eqb n.kind 0) _ e.1 in
      record {
        free_height_lem = eqb-true n.height free_height a.0;
        is_rank = eqb-true n.newest rank b.0;
        no_oldest = eqb-true n.oldest 0 c.0;
        no_left = eqb-true n.left 0 d.0;
        no_right = eqb-true n.right 0 e.0;
        no_kind = eqb-true n.kind 0 f.0;
        no_spare = eqb-true n.spare 0 f.1;
      }

-- THE CHAIN

module _ (m : List ℕ) (nodes : ℕ) where
  pub chain_out : (k i : ℕ) → 0 < k → nodes ≤ i → false ≡ chain_ok m nodes k i
  unfolding chain_ok
  chain_out zero i p h = absurd (omega arith)
  chain_out (suc k) i p h = rw (le-ltb i nodes h)

  pub chain_bad : (k i : ℕ) (n : Node) (b : Bool) → 0 < k → i < nodes → n ≡ node_at m i → b ≡ free_ok n k → b ≡ false → false ≡ chain_ok m nodes k i
  unfolding chain_ok
  chain_bad zero i n b p h e x y = absurd (omega arith)
  chain_bad (suc k) i n b p h e x y = rw (lt-ltb i nodes h, ← e, sym x ∙ y)

  pub chain_next : (k i : ℕ) (n : Node) (b : Bool) → 0 < k → i < nodes → n ≡ node_at m i → b ≡ free_ok n k → b ≡ true → chain_ok m nodes k i ≡ chain_ok m nodes (k - 1) n.low
  unfolding chain_ok
  chain_next zero i n b p h e x y = absurd (omega arith)
  chain_next (suc k) i n b p h e x y = let one : suc k - 1 ≡ k = omega arith in rw (one, lt-ltb i nodes h, ← e, sym x ∙ y)

  pub chain_end : (k i : ℕ) → k ≤ 0 → eqb i no_node ≡ chain_ok m nodes k i
  unfolding chain_ok
  chain_end zero i p = refl
  chain_end (suc k) i p = absurd (omega arith)

  -- WHAT IT MEANS

  -- from node i on there are these free nodes
  pub record Chained (k i : ℕ) : Type 0 where
    pub free : List ℕ
    pub is_length : length free ≡ k
    pub is_first : first_of free ≡ i
    pub holds : HoldsFree m free
    pub below : AllBelow nodes free

  pub chain_sound : (k i : ℕ) → chain_ok m nodes k i ≡ true → Chained k i
  unfolding chain_ok
  chain_sound zero i h = record { free = []; is_length = refl; is_first = sym (eqb-true i no_node h); holds = tt; below = tt }
  chain_sound (suc k) i h =
      let a = and_both (ltb i nodes) _ h in
      let b = and_both (free_ok (node_at m i) (suc k)) _ a.1 in
      let f = free_facts (node_at m i) (suc k) b.0 in
      let c = chain_sound k (node_at m i).low b.1 in
      record {
        free = i ∷ c.free;
        is_length = ap suc c.is_length;
        is_first = refl;
        holds = (node_is (node_at m i) f.free_height_lem (sym c.is_first) (f.is_rank ∙ ap suc (sym c.is_length)) f.no_oldest f.no_left f.no_right f.no_kind f.no_spare, c.holds);
        below = (ltb-true i nodes a.0, c.below);
      }

  pub chain_complete : (free : List ℕ) → HoldsFree m free → AllBelow nodes free → chain_ok m nodes (length free) (first_of free) ≡ true
  unfolding chain_ok
  chain_complete [] q b = refl
  chain_complete (i ∷ is) q b =
      let f : Free (node_at m i) (suc (length is)) = record {
        free_height_lem = ap (λ (n : Node). n.height) q.0;
        is_rank = ap (λ (n : Node). n.newest) q.0;
        no_oldest = ap (λ (n : Node). n.oldest) q.0;
        no_left = ap (λ (n : Node). n.left) q.0;
        no_right = ap (λ (n : Node). n.right) q.0;
        no_kind = ap (λ (n : Node). n.kind) q.0;
        no_spare = ap (λ (n : Node). n.spare) q.0;
      } in
      rw (lt-ltb i nodes b.0, free_true (node_at m i) (suc (length is)) f, ap (λ (n : Node). n.low) q.0) (chain_complete is q.1 b.1)
