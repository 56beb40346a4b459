-- The leaf that the search names is the one with the smallest key that is hit.
-- The idea: the leaves stand in the order of their keys, so the first that is hit from the left has the smallest key.
-- Assumes nothing.
use Prim.Native.Nat.{ℕ, ◌^◌, ◌≤◌}
use mathlib.Core.Path.{◌≡◌, refl, sym, ap, ◌∙◌, subst}
use mathlib.Core.Logic.{⊎_elim}
use mathlib.Core.Bool.{not}
use mathlib.Core.Option.{Option, none, some}
use mathlib.Core.List.Memᴰ.{append_cases as in-append}
use mathlib.Core.List.Memᴰ.{append_left as in_left}
use mathlib.Core.List.Memᴰ.{head as here}
use mathlib.Core.List.Memᴰ.{tail as there}
use mathlib.Core.List.{List, [], ◌∷◌, ◌++◌, map, Memᴰ as Mem}
use native.Mathlib.Omega.{arith}
use lib.Dec.{T, T_not}
use Rattle.std.specs.Prelude as Code
use Rattle.std.specs.Prelude.{Some}
use Rattle.record.specs.declared.point.Scan.{Scan}
use Rattle.nodes.specs.Nodes.{node_at}
use Rattle.rules.specs.State.{Entry, Rising, link}
use Rattle.rules.specs.Verdict.{hits}
use Rattle.rules.specs.Tree.{entries}
use Rattle.rules.proofs.Tests.{test, is_true, is_false, mem_map}
use Rattle.rules.proofs.Sorted.{rising_mem}
use Rattle.pool.specs.Plan.{Plan, leaf, node, tree_in, leaf_node}
use Rattle.pool.specs.Image.{Arrangement, Image, Holds, HoldsTree, state_of, tree_or, numbers_or}
use Rattle.pool.proofs.Numbers.{below_mem}
use Rattle.pool.proofs.Words.{leaf_low, leaf_newest}
use Rattle.conflict_search.specs.Conflict.{Leaf, leaves_of, leaves_or, first_hit}
use Rattle.conflict_search.specs.Smallest.{NamedLeaf}
use Rattle.conflict_search.proofs.Hit.{leaf_number, leaf_entry, entry_leaf}

-- a leaf's entry
abbrev pub entry_in : Leaf → Entry
entry_in x = x.entry

-- THE ORDER OF THE LEAVES

map_append : (xs ys : List Leaf) → map entry_in (xs ++ ys) ≡ map entry_in xs ++ map entry_in ys
map_append [] ys = refl
map_append (x ∷ xs) ys = ap (λ (es : List Entry). x.entry ∷ es) (map_append xs ys)

-- the leaves' entries are the tree's, in the same order
leaves_entries : (T : Plan) → map entry_in (leaves_of T) ≡ entries (tree_in T)
unfolding entries
leaves_entries (leaf i e) = refl
leaves_entries (node i h low l r) = map_append (leaves_of l) (leaves_of r) ∙ rw (leaves_entries l, leaves_entries r)

leaves_kept : (t : Option Plan) → map entry_in (leaves_or t) ≡ entries (tree_or t)
unfolding entries
leaves_kept none = refl
leaves_kept (some T) = leaves_entries T

-- THE FIRST LEAF THAT IS HIT

-- leaf i is hit, and none that is hit has a smaller key
pub record LeastHit (s : ℕ) (f : List Scan) (xs : List Leaf) (i : Code.Option ℕ) : Type 0 where
  pub leaf : Leaf
  pub among : Mem leaf xs
  pub number_is : Some leaf.number ≡ i
  pub hit : T (hits s f leaf.entry)
  pub least : (y : Leaf) → Mem y xs → T (hits s f y.entry) → leaf.entry.key ≤ y.entry.key

module _ (s : ℕ) (f : List Scan) where
  -- the first is hit, and the others have larger keys
  first_least : (x : Leaf) (xs : List Leaf) {lo hi : ℕ} → Rising hi lo (map entry_in (x ∷ xs)) → T (hits s f x.entry) → LeastHit s f (x ∷ xs) (Some x.number)
  first_least x xs (link l rise) h = record {
    leaf = x;
    among = here refl;
    number_is = refl;
    hit = h;
    least = λ y. elim [ here e ↦ λ t. omega (arith, ap (λ (z : Leaf). z.entry.key) e) | there m ↦ λ t. omega (arith, (rising_mem rise (mem_map entry_in m)).0) ];
  }

  -- the first is not hit
  later_least : (x : Leaf) (xs : List Leaf) {i : Code.Option ℕ} → T (not (hits s f x.entry)) → LeastHit s f xs i → LeastHit s f (x ∷ xs) i
  later_least x xs n w = record {
    leaf = w.leaf;
    among = there w.among;
    number_is = w.number_is;
    hit = w.hit;
    least = λ y. elim [ here e ↦ λ t. absurd (T_not (hits s f x.entry) n (subst (λ (z : Leaf). T (hits s f z.entry)) e t)) | there m ↦ λ t. w.least y m t ];
  }

  -- among leaves in order, where one is hit
  least_in : (xs : List Leaf) {lo hi : ℕ} → Rising hi lo (map entry_in xs) → (y : Leaf) → Mem y xs → T (hits s f y.entry) → LeastHit s f xs (first_hit s f xs)
  unfolding first_hit
  least_in [] r y m t = elim m [ ]
  least_in (x ∷ xs) (link l r) y m t = ⊎_elim
      (λ (h : T (hits s f x.entry)). rw (is_true (hits s f x.entry) h) (first_least x xs (link l r) h))
      (λ (n : T (not (hits s f x.entry))). rw (is_false (hits s f x.entry) n) (later_least x xs n (least_in xs r y (behind n m) t))) (test (hits s f x.entry))
    where
      behind : T (not (hits s f x.entry)) → Mem y (x ∷ xs) → Mem y xs
      behind n (here e) = absurd (T_not (hits s f x.entry) n (subst (λ (z : Leaf). T (hits s f z.entry)) e t))
      behind n (there m) = m

-- IN A POOL

-- each kept entry has its leaf
kept_leaf : (t : Option Plan) {e : Entry} → Mem e (entries (tree_or t)) → (x : Leaf) × Mem x (leaves_or t) × (x.entry ≡ e)
unfolding entries
kept_leaf none m = elim m [ ]
kept_leaf (some T) m = entry_leaf T m

leaf_kept : (t : Option Plan) {x : Leaf} → Mem x (leaves_or t) → Mem x.entry (entries (tree_or t))
leaf_kept none m = elim m [ ]
leaf_kept (some T) m = leaf_entry T m

-- a leaf's words are its entry's
leaf_words : (m : List ℕ) (T : Plan) {x : Leaf} → Holds m T → Mem x (leaves_of T) → node_at m x.number ≡ leaf_node x.entry.key x.entry.position x.entry.payload
leaf_words m (leaf i e) {x} h (here q) =
    ap (λ (z : Leaf). node_at m z.number) q ∙ h ∙ ap (λ (z : Leaf). leaf_node z.entry.key z.entry.position z.entry.payload) (sym q)
leaf_words m (leaf i e) h (there n) = elim n [ ]
leaf_words m (node i h low l r) {x} hold n = ⊎_elim
    (λ (a : Mem x (leaves_of l)). leaf_words m l hold.1 a) (λ (b : Mem x (leaves_of r)). leaf_words m r hold.2 b) (in-append (leaves_of l) n)

tree_words : (m : List ℕ) (t : Option Plan) {x : Leaf} → HoldsTree m t → Mem x (leaves_or t) → node_at m x.number ≡ leaf_node x.entry.key x.entry.position x.entry.payload
tree_words m none h n = elim n [ ]
tree_words m (some T) h n = leaf_words m T h n

leaf_numbered : (t : Option Plan) {x : Leaf} → Mem x (leaves_or t) → Mem x.number (numbers_or t)
leaf_numbered none n = elim n [ ]
leaf_numbered (some T) n = leaf_number T n

module _ {m : List ℕ} {A : Arrangement} (i : Image m A) (s : ℕ) (f : List Scan) where
  -- the leaf that is named, where a kept entry is hit
  pub named_least : (e : Entry) → Mem e (state_of A).kept → T (hits s f e) → (j : ℕ) × (first_hit s f (leaves_or A.tree) ≡ Some j) × NamedLeaf m A s f j
  named_least e k t = told (least_in s f (leaves_or A.tree) (subst (Rising (2 ^ 32) 0) (sym (leaves_kept A.tree)) i.arranged.lawful.rising) y.0 y.1 (subst (λ (z : Entry). T (hits s f z)) (sym y.2) t))
    where
      y : (x : Leaf) × Mem x (leaves_or A.tree) × (x.entry ≡ e)
      y = kept_leaf A.tree k

      told : {o : Code.Option ℕ} → LeastHit s f (leaves_or A.tree) o → (j : ℕ) × (o ≡ Some j) × NamedLeaf m A s f j
      told w =
          let x = w.leaf in
          let words = tree_words m A.tree i.tree w.among in (
            x.number,
            sym w.number_is,
            record {
              entry = x.entry;
              within = omega (arith, below_mem i.arranged.below (in_left A.free (leaf_numbered A.tree w.among)), i.size);
              key_is = ap (λ n. n.low) words ∙ leaf_low x.entry.key x.entry.position x.entry.payload;
              position_is = ap (λ n. n.newest) words ∙ leaf_newest x.entry.key x.entry.position x.entry.payload;
              smallest = record {
                kept = leaf_kept A.tree w.among;
                hit = w.hit;
                least = λ e' k' t'. let z = kept_leaf A.tree k' in
                    subst (λ (c : Entry). x.entry.key ≤ c.key) z.2 (w.least z.0 z.1 (subst (λ (c : Entry). T (hits s f c)) (sym z.2) t'));
              };
            },
          )
