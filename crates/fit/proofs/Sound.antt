-- Where the check finds leaves, the bytes hold a tree of the shape, with as many leaves.
-- Assumes nothing.
use Prim.Native.Nat.{ℕ, zero, suc, ◌+◌, ◌*◌, ◌^◌, ◌≤◌, ◌<◌, max, min}
use mathlib.Core.Path.{◌≡◌, refl, sym, ap, ap₂, ◌∙◌, subst}
use mathlib.Core.Bool.{Bool, true, false}
use mathlib.Core.List.Memᴰ.{append_cases as in-append}
use mathlib.Core.List.Memᴰ.{head as here}
use mathlib.Core.List.Memᴰ.{tail as there}
use mathlib.Core.List.{List, [], ◌∷◌, ◌++◌, Memᴰ as Mem}
use mathlib.Core.Logic.{◌⊎◌, inl, inr, ⊎_elim}
use mathlib.Core.Option.{none, some}
use native.Mathlib.Omega.{arith}
use native.Mathlib.Nat.{pow-suc}
use lib.Dec.{eqb}
use lib.ListN.{length, length-append}
use borrow.Author.Tests.{eqb-true, eqb-false}
use Rattle.words.specs.Word.{Bytes}
use Rattle.nodes.specs.declared.node.Node.{Node}
use Rattle.nodes.specs.Nodes.{node_at}
use Rattle.nodes.specs.Laws.{node_fits}
use Rattle.std.specs.Prelude.{if◌then◌else◌}
use Rattle.rules.specs.State.{Entry, Fits}
use Rattle.rules.specs.Tree.{entries, newest, oldest}
use Rattle.pool.specs.Plan.{Plan, leaf, node, tree_in, number, numbers, root_node}
use Rattle.pool.specs.Image.{AllBelow, Holds}
use Rattle.pool.proofs.Words.{newest_held, oldest_held}
use Rattle.pool.proofs.Placed.{Placed, at_leaf, at_node, placed_widen}
use Rattle.pool.specs.Times.{bit}
use Rattle.fit.specs.Check.{leaf_ok, inner_ok, cover_middle, cover_end, both, leaves_at}
use Rattle.fit.proofs.Tests.{LiveFacts, TombstoneFacts, LeafFacts, leaf_facts}
use Rattle.fit.proofs.InnerTests.{InnerFacts, inner_facts}

-- a node by its words
pub node_is : (n : Node) {h low new old l r k s : ℕ} → n.height ≡ h → n.low ≡ low → n.newest ≡ new → n.oldest ≡ old → n.left ≡ l → n.right ≡ r → n.kind ≡ k → n.spare ≡ s
    → n ≡ record { height = h; low = low; newest = new; oldest = old; left = l; right = r; kind = k; spare = s }
node_is n e0 e1 e2 e3 e4 e5 e6 e7 = λ i. record { height = e0 i; low = e1 i; newest = e2 i; oldest = e3 i; left = e4 i; right = e5 i; kind = e6 i; spare = e7 i }

-- what R17 asks of an entry by itself
abbrev pub Good : Entry → Type 0
Good e = (1 ≤ e.position) × Fits e.payload

-- a tree stands at node i, its keys of from .. to − 1, with c leaves
pub record StandsWithin (m : List ℕ) (nodes i from to c : ℕ) : Type 0 where
  pub tree : Plan
  pub is_number : number tree ≡ i
  pub holds : Holds m tree
  pub below : AllBelow nodes (numbers tree)
  pub placed : Placed from to tree
  pub good : (e : Entry) → Mem e (entries (tree_in tree)) → Good e
  pub count : length (entries (tree_in tree)) ≡ c

pub below_append : (n : ℕ) (xs ys : List ℕ) → AllBelow n xs → AllBelow n ys → AllBelow n (xs ++ ys)
below_append n [] ys a b = b
below_append n (x ∷ xs) ys a b = (a.0, below_append n xs ys a.1 b)

module _ (m : List ℕ) (nodes : ℕ) (bytes : Bytes m) where
  one_stands : (i from to : ℕ) (e : Entry) → i < nodes → node_at m i ≡ root_node (leaf i e) → from ≤ e.key → e.key < to → Good e → StandsWithin m nodes i from to 1
  unfolding entries
  one_stands i from to e b h lo hi g =
      record {
        tree = leaf i e;
        is_number = refl;
        holds = h;
        below = (b, tt);
        placed = at_leaf lo hi;
        good = λ x s. only x s;
        count = refl;
      }
    where
      only : (x : Entry) → Mem x (e ∷ []) → Good x
      only x (here q) = subst (λ (z : Entry). Good z) (sym q) g
      only x (there s) = elim s [ ]

  leaf_stands : (i from to : ℕ) → i < nodes → (node_at m i).height ≡ 0 → LeafFacts (node_at m i) from to → StandsWithin m nodes i from to 1
  leaf_stands i from to b z f = go f.words.sort
    where
      go : LiveFacts (node_at m i) ⊎ TombstoneFacts (node_at m i) → StandsWithin m nodes i from to 1
      go (inl v) =
          let w = node_fits m i bytes in
          one_stands i from to (record { key = (node_at m i).low; position = (node_at m i).newest; payload = some ((node_at m i).left * 4294967296 + (node_at m i).right) }) b
          (node_is (node_at m i) z refl refl v.no_oldest (omega (arith, w.1.1.1.1.1.0)) (omega (arith, w.1.1.1.1.1.0)) v.kind_live f.words.no_spare)
          f.at_least f.below
          (f.words.written, omega (arith, w.1.1.1.1.0, w.1.1.1.1.1.0))
      go (inr v) =
          one_stands i from to (record { key = (node_at m i).low; position = (node_at m i).newest; payload = none }) b
          (node_is (node_at m i) z refl refl v.oldest_newest v.no_left v.no_right v.kind_tombstone f.words.no_spare)
          f.at_least f.below (f.words.written, tt)

  node_stands : (i from to k a b : ℕ) → i < nodes → (node_at m i).height ≡ suc k → InnerFacts m nodes i from to
      → StandsWithin m nodes (node_at m i).left (node_at m i).low (cover_middle (node_at m i)) a
      → StandsWithin m nodes (node_at m i).right (cover_middle (node_at m i)) (cover_end (node_at m i)) b
      → StandsWithin m nodes i from to (a + b)
  unfolding entries newest oldest
  node_stands i from to k a b lt eh f sl sr =
      let two : 2 ^ (node_at m i).height ≡ 2 ^ suc k = ap (λ (x : ℕ). 2 ^ x) eh in
      let dbl : 2 ^ suc k ≡ 2 ^ k * 2 = pow-suc 2 k in
      record {
        tree = node i (suc k) (node_at m i).low sl.tree sr.tree;
        is_number = refl;
        holds = (
          node_is (node_at m i) eh refl
              (f.sums.is_newest ∙ ap₂ max (ap (λ (j : ℕ). (node_at m j).newest) (sym sl.is_number) ∙ newest_held m sl.tree sl.holds) (ap (λ (j : ℕ). (node_at m j).newest) (sym sr.is_number) ∙ newest_held m sr.tree sr.holds))
              (f.sums.is_oldest ∙ ap₂ min (ap (λ (j : ℕ). (node_at m j).oldest) (sym sl.is_number) ∙ oldest_held m sl.tree sl.holds) (ap (λ (j : ℕ). (node_at m j).oldest) (sym sr.is_number) ∙ oldest_held m sr.tree sr.holds))
              (sym sl.is_number) (sym sr.is_number) f.own.no_kind f.own.no_spare,
          sl.holds,
          sr.holds,
        );
        below = (lt, below_append nodes (numbers sl.tree) (numbers sr.tree) sl.below sr.below);
        placed = at_node f.own.at_least (rw two at f.own.at_most) (rw two at f.own.aligned)
            (placed_widen (omega arith) (omega (arith, two, dbl)) sl.placed) (placed_widen (omega (arith, two, dbl)) (omega (arith, two)) sr.placed);
        good = λ e s. ⊎_elim (λ q. sl.good e q) (λ q. sr.good e q) (in-append (entries (tree_in sl.tree)) s);
        count = length-append (entries (tree_in sl.tree)) (entries (tree_in sr.tree)) ∙ ap₂ ◌+◌ sl.count sr.count;
      }

  both_some : (a b : ℕ) → (both a b ≡ 0 → ⊥) → (a ≡ 0 → ⊥) × (b ≡ 0 → ⊥) × (both a b ≡ a + b)
  unfolding both
  both_some a b h = go (eqb a 0) (eqb b 0) refl refl h
    where
      go : (s t : Bool) → eqb a 0 ≡ s → eqb b 0 ≡ t → ((if s then 0 else if t then 0 else a + b) ≡ 0 → ⊥) → (a ≡ 0 → ⊥) × (b ≡ 0 → ⊥) × ((if s then 0 else if t then 0 else a + b) ≡ a + b)
      go true t x y h = absurd (h refl)
      go false true x y h = absurd (h refl)
      go false false x y h = (eqb-false a 0 x, eqb-false b 0 y, refl)

  Sound : ℕ → ℕ → ℕ → ℕ → Type 0
  Sound i from to c = i < nodes → (c ≡ 0 → ⊥) → StandsWithin m nodes i from to c

  -- SOUND
  pub sound : (g i from to : ℕ) → i < nodes → (leaves_at m nodes g i from to ≡ 0 → ⊥) → StandsWithin m nodes i from to (leaves_at m nodes g i from to)
  unfolding leaves_at Sound
  sound zero i from to lt h = absurd (h refl)
  sound (suc g) i from to lt h =
      go (eqb (node_at m i).height 0) (leaf_ok (node_at m i) from to) (inner_ok m nodes i from to) refl refl refl
      (sound g (node_at m i).left (node_at m i).low (cover_middle (node_at m i))) (sound g (node_at m i).right (cover_middle (node_at m i)) (cover_end (node_at m i)))
      lt h
    where
      L : ℕ
      L = leaves_at m nodes g (node_at m i).left (node_at m i).low (cover_middle (node_at m i))

      R : ℕ
      R = leaves_at m nodes g (node_at m i).right (cover_middle (node_at m i)) (cover_end (node_at m i))

      inner : (H : ℕ) → (node_at m i).height ≡ H → (H ≡ 0 → ⊥) → InnerFacts m nodes i from to
          → Sound (node_at m i).left (node_at m i).low (cover_middle (node_at m i)) L → Sound (node_at m i).right (cover_middle (node_at m i)) (cover_end (node_at m i)) R
          → Sound i from to (both L R)
      inner zero e nz f sl sr lt h = absurd (nz refl)
      inner (suc k) e nz f sl sr lt h =
          let s = both_some L R h in
          subst (λ (c : ℕ). StandsWithin m nodes i from to c) (sym s.2) (node_stands i from to k L R lt e f (sl f.left_in s.0) (sr f.right_in s.1))

      go : (z l k : Bool) → eqb (node_at m i).height 0 ≡ z → leaf_ok (node_at m i) from to ≡ l → inner_ok m nodes i from to ≡ k
          → Sound (node_at m i).left (node_at m i).low (cover_middle (node_at m i)) L → Sound (node_at m i).right (cover_middle (node_at m i)) (cover_end (node_at m i)) R
          → Sound i from to (if z then bit l else if k then both L R else 0)
      go true true k x y w sl sr lt h = leaf_stands i from to lt (eqb-true (node_at m i).height 0 x) (leaf_facts (node_at m i) from to y)
      go true false k x y w sl sr lt h = absurd (h refl)
      go false l true x y w sl sr lt h = inner (node_at m i).height refl (eqb-false (node_at m i).height 0 x) (inner_facts m nodes i from to w) sl sr lt h
      go false l false x y w sl sr lt h = absurd (h refl)
