-- One law for each return of `judge_and_name`.
-- Assumes nothing.
use Prim.Native.Nat.{ℕ, ◌-◌, ◌≤◌, ◌<◌}
use mathlib.Core.Path.{◌≡◌, sym, ap, ◌∙◌}
use mathlib.Core.Bool.{true, false}
use Rattle.std.specs.Prelude as Code
use Rattle.std.specs.Prelude.{None}
use Rattle.std.specs.Option.{is_some}
use mathlib.Core.List.{List}
use native.Mathlib.Omega.{arith}
use borrow.Author.Tests.{lt-ltb, le-ltb}
use Rattle.record.specs.declared.point.Scan.{Scan}
use Rattle.nodes.specs.declared.header.Header.{Header}
use Rattle.nodes.specs.Nodes.{header_at}
use Rattle.std.specs.Prelude.{if◌then◌else◌}
use Rattle.rules.specs.Lists.{any}
use Rattle.rules.specs.Verdict.{Verdict, committed, conflict, too_old, ahead, hits, refusal_or}
use Rattle.rules.specs.Tree.{Tree, tree_of, walk}
use Rattle.rules.proofs.Search.{walk_found}
use Rattle.pool.specs.Image.{Arrangement, Image, state_of}
use Rattle.conflict_search.specs.declared.Searched.{Searched}
use Rattle.conflict_search.specs.Conflict.{leaves_or, first_hit, conflict_in}
use Rattle.conflict_search.proofs.Answer.{names_leaf, named_found}
use Rattle.judge.specs.declared.judged.Named.{Named}
use Rattle.judge.specs.Judged.{judged, judged_of, leaf_for, named_in}

-- THE LEAF FOUND

-- a leaf is named exactly if an entry of the state is hit
named_any : (s : ℕ) (f : List Scan) {m : List ℕ} {A : Arrangement} → Image m A → names_leaf (conflict_in s f A.tree) ≡ any (hits s f) (state_of A).kept
named_any s f i = named_found s f i ∙ ap (λ (t : Tree). (walk s f t).found) i.arranged.shape ∙ walk_found s f 32 0 i.arranged.lawful.rising

-- THE RETURNS

-- an answer with its looks, and a leaf
abbrev named : Verdict → ℕ → Code.Option ℕ → Named
named v n leaf = record { judged = judged v n; leaf = leaf }

module _ (m : List ℕ) (s : ℕ) (f : List Scan) (h : Header) (eh : h ≡ header_at m) where
  position_is : (A : Arrangement) → Image m A → h.position ≡ A.p
  position_is A i = ap (λ (x : Header). x.position) (eh ∙ i.header)

  zone_is : (A : Arrangement) → Image m A → h.zone ≡ A.Z
  zone_is A i = ap (λ (x : Header). x.zone) (eh ∙ i.header)

  pub is_ahead : h.position < s → (A : Arrangement) → Image m A → named ahead 0 None ≡ named_in A s f
  unfolding named_in judged_of refusal_or
  is_ahead l A i = let x : A.p < s = omega (arith, position_is A i) in rw (lt-ltb A.p s x)

  module _ (not_ahead : s ≤ h.position) where
    pub is_too_old : h.zone < h.position - s → (A : Arrangement) → Image m A → named too_old 0 None ≡ named_in A s f
    unfolding named_in judged_of refusal_or
    is_too_old l A i =
        let x : s ≤ A.p = omega (arith, position_is A i) in
        let y : A.Z < A.p - s = omega (arith, position_is A i, zone_is A i) in
        rw (le-ltb A.p s x, lt-ltb A.Z (A.p - s) y)

    module _ (young : h.position - s ≤ h.zone) (w : Searched) (ew : (A : Arrangement) → Image m A → w ≡ conflict_in s f A.tree) where
      -- the two tests before, and the looks
      tests : (A : Arrangement) → Image m A → named_in A s f ≡ named (if any (hits s f) (state_of A).kept then conflict else committed) w.looks (leaf_for w.leaf (if any (hits s f) (state_of A).kept then conflict else committed))
      unfolding named_in judged_of refusal_or
      tests A i =
          let x : s ≤ A.p = omega (arith, position_is A i) in
          let y : A.p - s ≤ A.Z = omega (arith, position_is A i, zone_is A i) in
          let l : w.looks ≡ (walk s f (tree_of 32 0 (state_of A).kept)).looks = ap (λ (v : Searched). v.looks) (ew A i) ∙ ap (λ (t : Tree). (walk s f t).looks) i.arranged.shape in
          let f' : w.leaf ≡ first_hit s f (leaves_or A.tree) = ap (λ (v : Searched). v.leaf) (ew A i) in
          rw (le-ltb A.p s x, le-ltb A.Z (A.p - s) y, ← l, ← f')

      -- whether the leaf is namesLeaf
      named_is : (A : Arrangement) → Image m A → names_leaf w ≡ any (hits s f) (state_of A).kept
      named_is A i = ap names_leaf (ew A i) ∙ named_any s f i

      -- what is told if a leaf was found, and if none was
      pub is_conflict : is_some w.leaf ≡ true → (A : Arrangement) → Image m A → named conflict w.looks w.leaf ≡ named_in A s f
      is_conflict d A i =
          let x : any (hits s f) (state_of A).kept ≡ true = sym (named_is A i) ∙ d in
          sym (tests A i ∙ rw x)

      pub is_free : is_some w.leaf ≡ false → (A : Arrangement) → Image m A → named committed w.looks None ≡ named_in A s f
      is_free d A i =
          let x : any (hits s f) (state_of A).kept ≡ false = sym (named_is A i) ∙ d in
          sym (tests A i ∙ rw x)

-- WITHOUT THE LEAF

pub without_leaf : (m : List ℕ) (s : ℕ) (f : List Scan) (x : Named) → ((A : Arrangement) → Image m A → x ≡ named_in A s f)
    → (A : Arrangement) → Image m A → x.judged ≡ judged_of (state_of A) s f
unfolding named_in
without_leaf m s f x e A i = ap (λ (y : Named). y.judged) (e A i)
