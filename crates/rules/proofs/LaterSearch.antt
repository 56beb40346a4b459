-- The conflict search with a larger snapshot finds the same and looks no more often, where nothing within reach was written in between.
-- The idea: the larger snapshot stops at least wherever the smaller one does, and where only it stops, there was nothing to be found.
-- Assumes nothing.
use Prim.Native.Nat.{ℕ, zero, suc, ◌+◌, ◌^◌, ◌≤◌, ◌<◌}
use native.Mathlib.Omega.{arith}
use mathlib.Core.Path.{refl, sym, ◌∙◌}
use mathlib.Core.Logic.{⊎_elim}
use mathlib.Core.Bool.{Bool, true, false, not, ◌&&◌, ◌||◌}
use mathlib.Core.List.Memᴰ.{append_cases as in-append}
use mathlib.Core.List.Memᴰ.{append_left as in_left}
use mathlib.Core.List.Memᴰ.{append_right as in_right}
use mathlib.Core.List.Memᴰ.{head as here}
use mathlib.Core.List.Memᴰ.{tail as there}
use mathlib.Core.List.{List, [], ◌∷◌, Memᴰ as Mem}
use mathlib.Core.Option.{some}
use lib.Dec.{T, ltb, ltb→lt, lt→ltb, T_not}
use Rattle.record.specs.Record.{Rec}
use Rattle.record.specs.declared.point.Scan.{Scan}
use Rattle.std.specs.Prelude.{if◌then◌else◌}
use Rattle.rules.specs.Lists.{keep}
use Rattle.rules.specs.State.{Entry, State}
use Rattle.rules.specs.Footprint.{reach, meets}
use Rattle.rules.specs.Verdict.{hits}
use Rattle.rules.specs.Tree.{Tree, empty, leaf, node, entries, below, from, tree_of, newest, Walked, stop, descend, walk, walk_of, NoMoreLooks}
use Rattle.rules.specs.Refresh.{with_snapshot}
use Rattle.rules.proofs.Tests.{if_ind, and_of, left_of_lem, right_of_lem, le_or_lt, same, keep_mem}
use Rattle.rules.proofs.Reach.{hits_of, of_hits}
use Rattle.rules.proofs.Trees.{entries_join}
use Rattle.rules.proofs.Newest.{newest_max}
use Rattle.rules.proofs.Search.{leaf_hits, descend_sound, walk_sound}

-- a tree's leaves are among the entries that it was made of
pub tree_mem : (h low : ℕ) (es : List Entry) {e : Entry} → Mem e (entries (tree_of h low es)) → Mem e es
unfolding entries tree_of
tree_mem zero low [] m = m
tree_mem zero low (x ∷ es) (here p) = here p
tree_mem zero low (x ∷ es) (there m) = elim m [ ]
tree_mem (suc h) low [] m = m
tree_mem (suc h) low (x ∷ []) m = m
tree_mem (suc h) low (x ∷ y ∷ es) {e} m = ⊎_elim
    (λ (a : Mem e (entries (tree_of h low (keep (below (low + 2 ^ h)) (x ∷ y ∷ es))))). keep_mem (below (low + 2 ^ h)) (x ∷ y ∷ es) (tree_mem h low _ a))
    (λ (b : Mem e (entries (tree_of h (low + 2 ^ h) (keep (from (low + 2 ^ h)) (x ∷ y ∷ es))))). keep_mem (from (low + 2 ^ h)) (x ∷ y ∷ es) (tree_mem h (low + 2 ^ h) _ b))
    (in-append _ (rw entries_join at m))

-- the same choice, each side no more
either_le : (b : Bool) {x' x y' y : ℕ} → x' ≤ x → y' ≤ y → (if b then x' else y') ≤ (if b then x else y)
either_le true h k = h
either_le false h k = k

-- both children no more, the node no more
descend_le : {l' l r' r : Walked} → NoMoreLooks l' l → NoMoreLooks r' r → NoMoreLooks (descend l' r') (descend l r)
descend_le {l'} {l} {r'} {r} a b = record { finds = cc; looks_le = rw a.finds (either_le l.found (omega (arith, a.looks_le)) (omega (arith, a.looks_le, b.looks_le))) }

-- a walk that stops, against one that goes on and finds nothing
stop_le : (l r : Walked) → (T (descend l r).found → ⊥) → NoMoreLooks stop (descend l r)
stop_le l r n = record { finds = same false (l.found || r.found) (λ t. absurd t) n; looks_le = if_ind (λ k. 1 ≤ k) l.found (λ _. omega arith) (λ _. omega arith) }

-- both go on, or the first stops
cut_le : (b' b : Bool) (w' w : Walked) → (T b' → T b) → (T b → NoMoreLooks w' w) → (T b → T (not b') → NoMoreLooks stop w) → NoMoreLooks (if b' then w' else stop) (if b then w else stop)
cut_le true true w' w i j k = j tt
cut_le true false w' w i j k = absurd (i tt)
cut_le false true w' w i j k = k tt tt
cut_le false false w' w i j k = record { finds = refl; looks_le = omega arith }

module _ (s q : ℕ) (f : List Scan) (le : s ≤ q) where
  -- what is hit above q is hit above s
  hits_down : (e : Entry) → T (hits q f e) → T (hits s f e)
  hits_down e t = let h = of_hits q f e t in hits_of s f e (omega arith) h.1

  -- where every hit above s is one above q, the walk with q finds the same in no more looks
  pub walk_le : (t : Tree) → ((e : Entry) → Mem e (entries t) → T (hits s f e) → T (hits q f e)) → NoMoreLooks (walk q f t) (walk s f t)
  unfolding entries walk
  walk_le empty h = record { finds = refl; looks_le = omega arith }
  walk_le (leaf x) h = record { finds = leaf_hits q f x ∙ same (hits q f x) (hits s f x) (hits_down x) (h x (here refl)) ∙ sym (leaf_hits s f x); looks_le = omega arith }
  walk_le (node k low l r) h =
      cut_le (ltb q new && touch) (ltb s new && touch) (descend (walk q f l) (walk q f r)) (descend (walk s f l) (walk s f r))
      (λ t. and_of (ltb s new) touch (lt→ltb s new (omega (arith, ltb→lt q new (left_of_lem (ltb q new) touch t)))) (right_of_lem (ltb q new) touch t))
      (λ _. descend_le (walk_le l (λ e m. h e (in_left (entries r) m))) (walk_le r (λ e m. h e (in_right (entries l) m))))
      (λ t n. stop_le (walk s f l) (walk s f r) (λ u.
      let x = descend_sound s f (walk s f l) (walk s f r) (walk_sound s f l) (walk_sound s f r) u in
      let y = of_hits q f x.0 (h x.0 x.1 x.2) in
      let z : x.0.position ≤ new = newest_max (node k low l r) x.1 in
      T_not (ltb q new && touch) n (and_of (ltb q new) touch (lt→ltb q new (omega arith)) (right_of_lem (ltb s new) touch t))))
    where
      new : ℕ
      new = newest (node k low l r)

      touch : Bool
      touch = meets f low (low + 2 ^ k)

-- a larger snapshot q, with no write of a key named or scanned at s + 1 .. q: the same in no more looks
pub later_snapshot : (S : State) (r : Rec) (q : ℕ) → r.snapshot ≤ q
    → ((e : Entry) → Mem e S.kept → T (meets (reach r) e.key (e.key + 1)) → r.snapshot < e.position → e.position ≤ q → ⊥)
    → NoMoreLooks (walk_of S (some (with_snapshot q r))) (walk_of S (some r))
unfolding reach
later_snapshot S r q le free = walk_le r.snapshot q (reach r) le (tree_of 32 0 S.kept) λ e m t.
    let x = of_hits r.snapshot (reach r) e t in
    hits_of q (reach r) e
    (⊎_elim (λ (i : e.position ≤ q). absurd (free e (tree_mem 32 0 S.kept m) x.1 x.0 i)) (λ (i : q < e.position). i) (le_or_lt e.position q)) x.1
