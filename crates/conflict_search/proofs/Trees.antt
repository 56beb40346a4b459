-- The search of R35 at a tree of the pool, by what the words of its root say.
-- Assumes nothing.
use Prim.Native.Nat.{ℕ, suc, ◌+◌, ◌^◌, ◌≤◌, ◌<◌}
use native.Mathlib.Omega.{arith}
use mathlib.Core.Path.{◌≡◌, refl, sym, ap, ap₂, ◌∙◌}
use mathlib.Core.Bool.{Bool, true, false, ◌&&◌, true≢false, false≢true}
use mathlib.Core.List.{List, ◌++◌}
use lib.Dec.{ltb}
use lib.ListN.{length, length-append}
use borrow.Author.Tests.{lt-ltb, le-ltb}
use Rattle.std.specs.Prelude as Code
use Rattle.std.specs.Prelude.{Some, None}
use Rattle.std.specs.Option.{is_some, option_or}
use Rattle.record.specs.declared.point.Scan.{Scan}
use Rattle.rules.specs.State.{Entry}
use Rattle.rules.specs.Footprint.{meets}
use Rattle.rules.specs.Verdict.{hits}
use Rattle.rules.specs.Tree.{newest, Walked, stop, descend, walk}
use Rattle.rules.specs.Tree as rules
use Rattle.rules.proofs.Tests.{if_ind}
use Rattle.pool.specs.Plan.{Plan, leaf, node, tree_in, numbers, root_node}
use Rattle.pool.specs.Subtree.{StandsAt}
use Rattle.pool.proofs.Words.{leaf_height, leaf_low, leaf_newest}
use Rattle.pool.proofs.Subtree.{halved, stands_left}
use Rattle.conflict_search.specs.Conflict.{leaves_of, first_hit}
use Rattle.conflict_search.proofs.Hit.{first_append, walk_tells}

-- something named or scanned lies in what the root of a tree covers
abbrev pub meets_root : List Scan → Plan → Bool
meets_root f T = meets f (root_node T).low ((root_node T).low + 2 ^ (root_node T).height)

-- a test that fails
and_false : (b : Bool) → b && false ≡ false
and_false true = refl
and_false false = refl

-- a leaf covers its key
leaf_meets : (f : List Scan) (i : ℕ) (e : Entry) → meets_root f (leaf i e) ≡ meets f e.key (e.key + 1)
leaf_meets f i e =
    let a = leaf_low e.key e.position e.payload in
    let b = leaf_height e.key e.position e.payload in
    ap₂ (λ (x y : ℕ). meets f x (x + 2 ^ y)) a b

-- which of two is told
or_some : (a b : Code.Option ℕ) → is_some a ≡ true → option_or a b ≡ a
or_some (Some i) b e = refl
or_some None b e = absurd (false≢true e)

or_none : (a b : Code.Option ℕ) → is_some a ≡ false → option_or a b ≡ b
or_none (Some i) b e = absurd (true≢false e)
or_none None b e = refl

module _ (s : ℕ) (f : List Scan) where
  -- the walk stops at a root that is not newer than s
  pub stop_old : (T : Plan) → (root_node T).newest ≤ s → walk s f (tree_in T) ≡ stop
  unfolding walk newest
  stop_old (leaf i e) h = rw (le-ltb s e.position (omega (arith, leaf_newest e.key e.position e.payload)))
  stop_old (node i k low l r) h = rw (le-ltb s (newest (rules.node k low (tree_in l) (tree_in r))) h)

  -- and at one in whose cover nothing lies
  pub stop_away : (T : Plan) → meets_root f T ≡ false → walk s f (tree_in T) ≡ stop
  unfolding walk newest
  stop_away (leaf i e) h = rw (sym (leaf_meets f i e) ∙ h, and_false (ltb s e.position))
  stop_away (node i k low l r) h = rw (h, and_false (ltb s (newest (rules.node k low (tree_in l) (tree_in r)))))

  -- a leaf that is not stopped at is the conflict
  pub hit_leaf : {m : List ℕ} {i : ℕ} (T : Plan) → StandsAt m i T → (root_node T).height ≡ 0 → s < (root_node T).newest → meets_root f T ≡ true
      → (Some i ≡ first_hit s f (leaves_of T)) × (1 ≡ (walk s f (tree_in T)).looks)
  unfolding walk hits first_hit
  hit_leaf (leaf j e) st z new t =
      (rw (lt-ltb s e.position (omega (arith, leaf_newest e.key e.position e.payload)), sym (leaf_meets f j e) ∙ t) (ap (λ (n : ℕ). Some n) (sym st.root)), refl)
  hit_leaf (node j k low l r) st z new t = absurd (omega (arith, (halved st.canonical).height))

  module _ {m : List ℕ} {i j k low : ℕ} {l r : Plan} (st : StandsAt m i (node j k low l r))
      (new : s < (root_node (node j k low l r)).newest) (t : meets_root f (node j k low l r) ≡ true) where
    -- the walk goes on
    goes : walk s f (tree_in (node j k low l r)) ≡ descend (walk s f (tree_in l)) (walk s f (tree_in r))
    unfolding walk
    goes = rw (lt-ltb s (newest (rules.node k low (tree_in l) (tree_in r))) new, t)

    -- found on the left
    pub walk_left : {a : Code.Option ℕ} {n : ℕ} → a ≡ first_hit s f (leaves_of l) → n ≡ (walk s f (tree_in l)).looks → is_some a ≡ true
        → (a ≡ first_hit s f (leaves_of l ++ leaves_of r)) × (n + 1 ≡ (walk s f (tree_in (node j k low l r))).looks)
    walk_left {a} {n} ea en d =
        let q = walk_tells s f l (stands_left st) ∙ sym (ap is_some ea) ∙ d in
        (sym (first_append s f (leaves_of l) (leaves_of r) ∙ rw (← ea) (or_some a _ d)), rw (goes, q) (omega arith))

    -- not found on the left
    pub walk_right : {a b : Code.Option ℕ} {n o : ℕ} → a ≡ first_hit s f (leaves_of l) → n ≡ (walk s f (tree_in l)).looks → is_some a ≡ false
        → b ≡ first_hit s f (leaves_of r) → o ≡ (walk s f (tree_in r)).looks
        → (b ≡ first_hit s f (leaves_of l ++ leaves_of r)) × (n + o + 1 ≡ (walk s f (tree_in (node j k low l r))).looks)
    walk_right {a} {b} {n} {o} ea en d eb eo =
        let q = walk_tells s f l (stands_left st) ∙ sym (ap is_some ea) ∙ d in
        (sym (first_append s f (leaves_of l) (leaves_of r) ∙ rw (← ea, ← eb) (or_none a b d)), rw (goes, q) (omega arith))

  -- each node is looked at once at most
  pub few_nodes : (T : Plan) → (walk s f (tree_in T)).looks ≤ length (numbers T)
  unfolding walk
  few_nodes (leaf i e) = omega arith
  few_nodes (node i k low l r) = if_ind (λ (w : Walked). w.looks ≤ suc (length (numbers l ++ numbers r)))
      (ltb s (newest (rules.node k low (tree_in l) (tree_in r))) && meets f low (low + 2 ^ k))
      (λ _. if_ind (λ (x : ℕ). x ≤ suc (length (numbers l ++ numbers r))) (walk s f (tree_in l)).found
      (λ _. omega (arith, few_nodes l, length-append (numbers l) (numbers r)))
      (λ _. omega (arith, few_nodes l, few_nodes r, length-append (numbers l) (numbers r))))
      (λ _. omega arith)
