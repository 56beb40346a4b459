-- The leaf that is the conflict: the first one that is hit. There is one exactly if the search of R35 finds one.
-- Assumes nothing.
use Prim.Native.Nat.{ℕ}
use mathlib.Core.Path.{◌≡◌, refl, sym, ap, subst}
use mathlib.Core.Logic.{⊎_elim}
use mathlib.Core.Bool.{Bool, true, false, not, true≢false}
use mathlib.Core.List.Memᴰ.{append_cases as in-append}
use mathlib.Core.List.Memᴰ.{append_left as in_left}
use mathlib.Core.List.Memᴰ.{append_right as in_right}
use mathlib.Core.List.Memᴰ.{head as here}
use mathlib.Core.List.Memᴰ.{tail as there}
use mathlib.Core.List.{List, [], ◌∷◌, ◌++◌, Memᴰ as Mem}
use lib.Dec.{T, T_not}
use Rattle.std.specs.Prelude as Code
use Rattle.std.specs.Prelude.{Some, None}
use Rattle.std.specs.Option.{is_some, option_or}
use Rattle.record.specs.declared.point.Scan.{Scan}
use Rattle.std.specs.Prelude.{if◌then◌else◌}
use Rattle.rules.specs.State.{Entry}
use Rattle.rules.specs.Verdict.{hits}
use Rattle.rules.specs.Tree.{entries, walk}
use Rattle.rules.proofs.Tests.{test, is_true, is_false}
use Rattle.rules.proofs.Search.{walk_sound, walk_complete}
use Rattle.pool.specs.Plan.{Plan, leaf, node, tree_in, numbers}
use Rattle.pool.specs.Subtree.{StandsAt}
use Rattle.conflict_search.specs.Conflict.{Leaf, leaves_of, first_hit}

-- a test that finds nothing
pub no_some : (o : Code.Option ℕ) → is_some o ≡ false → o ≡ None
no_some (Some i) e = absurd (true≢false e)
no_some None e = refl

-- THE FIRST LEAF THAT IS HIT

-- what is told of the leaves: no leaf is hit, or it is the number of one that is
pub data First (s : ℕ) (f : List Scan) (xs : List Leaf) : Code.Option ℕ → Type 0 where
  no_leaf : ((x : Leaf) → Mem x xs → T (hits s f x.entry) → ⊥) → First s f xs None
  one_leaf : (x : Leaf) → Mem x xs → T (hits s f x.entry) → First s f xs (Some x.number)

module _ (s : ℕ) (f : List Scan) where
  -- a leaf that is not hit stands before the others
  first_later : (x : Leaf) (xs : List Leaf) {i : Code.Option ℕ} → T (not (hits s f x.entry)) → First s f xs i → First s f (x ∷ xs) i
  first_later x xs n (no_leaf g) = no_leaf (λ y. elim [ here e ↦ λ t. T_not (hits s f x.entry) n (subst (λ (z : Leaf). T (hits s f z.entry)) e t) | there m ↦ λ t. g y m t ])
  first_later x xs n (one_leaf y m t) = one_leaf y (there m) t

  -- the first hit is one of the two
  pub first_hit_lem : (xs : List Leaf) → First s f xs (first_hit s f xs)
  unfolding first_hit
  first_hit_lem [] = no_leaf (λ x m t. elim m [ ])
  first_hit_lem (x ∷ xs) = ⊎_elim
      (λ t. rw (is_true (hits s f x.entry) t) (one_leaf x (here refl) t))
      (λ t. rw (is_false (hits s f x.entry) t) (first_later x xs t (first_hit_lem xs))) (test (hits s f x.entry))

  -- in two lists it is that of the first, or else that of the second
  pub first_append : (xs ys : List Leaf) → first_hit s f (xs ++ ys) ≡ option_or (first_hit s f xs) (first_hit s f ys)
  unfolding first_hit
  first_append [] ys = refl
  first_append (x ∷ xs) ys = go (hits s f x.entry) (first_append xs ys)
    where
      go : (b : Bool) → first_hit s f (xs ++ ys) ≡ option_or (first_hit s f xs) (first_hit s f ys)
          → (if b then Some x.number else first_hit s f (xs ++ ys)) ≡ option_or (if b then Some x.number else first_hit s f xs) (first_hit s f ys)
      go true e = refl
      go false e = e

-- LEAVES AND ENTRIES

-- a leaf's entry is one of the tree's, each entry has its leaf, and a leaf's number is one of the tree's
pub leaf_entry : (T : Plan) {x : Leaf} → Mem x (leaves_of T) → Mem x.entry (entries (tree_in T))
unfolding entries
leaf_entry (leaf i e) (here p) = here (ap (λ (x : Leaf). x.entry) p)
leaf_entry (leaf i e) (there m) = elim m [ ]
leaf_entry (node i h low l r) {x} m = ⊎_elim
    (λ (a : Mem x (leaves_of l)). in_left (entries (tree_in r)) (leaf_entry l a)) (λ (b : Mem x (leaves_of r)). in_right (entries (tree_in l)) (leaf_entry r b)) (in-append (leaves_of l) m)

pub entry_leaf : (T : Plan) {e : Entry} → Mem e (entries (tree_in T)) → (x : Leaf) × Mem x (leaves_of T) × (x.entry ≡ e)
unfolding entries
entry_leaf (leaf i e) (here p) = (record { number = i; entry = e }, here refl, sym p)
entry_leaf (leaf i e) (there m) = elim m [ ]
entry_leaf (node i h low l r) {e} m = ⊎_elim
    (λ (a : Mem e (entries (tree_in l))). let x = entry_leaf l a in (x.0, in_left (leaves_of r) x.1, x.2))
    (λ (b : Mem e (entries (tree_in r))). let x = entry_leaf r b in (x.0, in_right (leaves_of l) x.1, x.2)) (in-append (entries (tree_in l)) m)

pub leaf_number : (T : Plan) {x : Leaf} → Mem x (leaves_of T) → Mem x.number (numbers T)
leaf_number (leaf i e) (here p) = here (ap (λ (x : Leaf). x.number) p)
leaf_number (leaf i e) (there m) = elim m [ ]
leaf_number (node i h low l r) {x} m = there (⊎_elim
    (λ (a : Mem x (leaves_of l)). in_left (numbers r) (leaf_number l a)) (λ (b : Mem x (leaves_of r)). in_right (numbers l) (leaf_number r b)) (in-append (leaves_of l) m))

-- THE WALK FINDS ONE EXACTLY IF A LEAF IS HIT

pub walk_tells : (s : ℕ) (f : List Scan) {m : List ℕ} {i : ℕ} (P : Plan) → StandsAt m i P → (walk s f (tree_in P)).found ≡ is_some (first_hit s f (leaves_of P))
walk_tells s f P st = go (first_hit_lem s f (leaves_of P)) (walk s f (tree_in P)).found refl
  where
    go : {j : Code.Option ℕ} → First s f (leaves_of P) j → (b : Bool) → (walk s f (tree_in P)).found ≡ b → b ≡ is_some j
    go (no_leaf g) false e = refl
    go (no_leaf g) true e =
        let y = walk_sound s f (tree_in P) (subst T (sym e) tt) in
        let x = entry_leaf P y.1 in
        absurd (g x.0 x.1 (subst (λ (c : Entry). T (hits s f c)) (sym x.2) y.2))
    go (one_leaf x n t) true e = refl
    go (one_leaf x n t) false e = absurd (subst T e (walk_complete s f st.canonical (leaf_entry P n) t))
