-- What the walk's answer means for a fit pool's arrangement: a leaf is named exactly if the search of R35 finds the conflict, and the
-- leaf named is hit.
-- Assumes nothing.
use Prim.Native.Nat.{ℕ, ◌+◌, ◌*◌, ◌≤◌}
use mathlib.Core.Path.{◌≡◌, refl, sym, ap, ◌∙◌}
use mathlib.Core.Bool.{Bool}
use mathlib.Core.List.{List, map, Memᴰ as Mem}
use mathlib.Core.Option.{Option, none, some}
use lib.Dec.{T}
use Rattle.std.specs.Prelude as Code
use Rattle.std.specs.Prelude.{Some, None}
use Rattle.std.specs.Option.{is_some}
use lib.ListN.{length}
use Rattle.record.specs.Record.{Rec, key_of, Valid}
use Rattle.record.specs.Reader.{low_of, high_of}
use Rattle.record.specs.declared.point.Scan.{Scan}
use Rattle.rules.specs.Footprint.{reach}
use Rattle.rules.specs.Verdict.{hits, conflicts}
use Rattle.rules.specs.Tree.{Tree, walk, walk_of}
use Rattle.rules.specs.Tree as rules
use Rattle.rules.proofs.Marks.{marks_of, marks_length, marks_marked, apart_ordered}
use Rattle.rules.proofs.Bound.{looks_bound}
use Rattle.rules.proofs.Trees.{tree_of_canonical}
use Rattle.rules.proofs.Search.{walk_conflicts}
use Rattle.pool.specs.Plan.{Plan, tree_in}
use Rattle.pool.specs.Image.{Arrangement, Image, tree_or, state_of}
use Rattle.pool.specs.Subtree.{StandsAt}
use Rattle.pool.proofs.Root.{Rooting, bare, planted, rooting}
use Rattle.conflict_search.specs.declared.Searched.{Searched}
use Rattle.conflict_search.specs.Sorted.{footprint}
use Rattle.conflict_search.specs.Conflict.{Leaf, leaves_or, first_hit, conflict_in}
use Rattle.conflict_search.proofs.Hit.{First, no_leaf, one_leaf, first_hit_lem, walk_tells}
use Rattle.conflict_search.proofs.Reach.{footprint_reach}

-- whether the answer names a leaf
abbrev pub names_leaf : Searched → Bool
names_leaf r = is_some r.leaf

-- in an empty tree, and in any other
named_none : (s : ℕ) (f : List Scan) → names_leaf (conflict_in s f none) ≡ (walk s f (tree_or none)).found
unfolding first_hit walk
named_none s f = refl

named_tree : (s : ℕ) (f : List Scan) {m : List ℕ} {i : ℕ} (P : Plan) → StandsAt m i P → names_leaf (conflict_in s f (some P)) ≡ (walk s f (tree_in P)).found
named_tree s f P st = sym (walk_tells s f P st)

-- a leaf is named exactly if the walk finds the conflict
pub named_found : {m : List ℕ} {A : Arrangement} (s : ℕ) (f : List Scan) → Image m A → names_leaf (conflict_in s f A.tree) ≡ (walk s f (tree_or A.tree)).found
named_found {m} {A} s f x = go (rooting x)
  where
    go : Rooting m A → names_leaf (conflict_in s f A.tree) ≡ (walk s f (tree_or A.tree)).found
    go (bare e w) = rw e (named_none s f)
    go (planted P e st) = rw e (named_tree s f P st)

-- the leaf named is a leaf of the tree, and its entry is named or scanned and was written above s
pub named_hits : (s : ℕ) (f : List Scan) (t : Option Plan) → ((conflict_in s f t).leaf ≡ None → ⊥)
    → (x : Leaf) × Mem x (leaves_or t) × (Some x.number ≡ (conflict_in s f t).leaf) × T (hits s f x.entry)
named_hits s f t d = go (first_hit_lem s f (leaves_or t)) refl
  where
    go : {j : Code.Option ℕ} → First s f (leaves_or t) j → first_hit s f (leaves_or t) ≡ j → (x : Leaf) × Mem x (leaves_or t) × (Some x.number ≡ first_hit s f (leaves_or t)) × T (hits s f x.entry)
    go (no_leaf g) q = absurd (d q)
    go (one_leaf x m h) q = (x, m, sym q, h)

-- FOR A RECORD

-- what the walk answers for a record's lists
abbrev pub conflict_of : Arrangement → Rec → Searched
conflict_of A r = conflict_in r.snapshot (footprint (map key_of r.points) (map low_of r.scans) (map high_of r.scans)) A.tree

-- the walk of the lists in the pool's tree is the walk of the record in the state's
same_walk : {m : List ℕ} {A : Arrangement} (r : Rec) → Image m A
    → walk r.snapshot (footprint (map key_of r.points) (map low_of r.scans) (map high_of r.scans)) (tree_or A.tree) ≡ walk_of (state_of A) (some r)
same_walk {m} {A} r x =
    ap (λ (f : List Scan). walk r.snapshot f (tree_or A.tree)) (footprint_reach r)
    ∙ ap (λ (t : Tree). walk r.snapshot (reach r) t) x.arranged.shape

-- the looks are those of R35
pub looks_walk : {m : List ℕ} {A : Arrangement} (r : Rec) → Image m A → (conflict_of A r).looks ≡ (walk_of (state_of A) (some r)).looks
looks_walk r x = ap (λ (w : rules.Walked). w.looks) (same_walk r x)

-- a leaf is named exactly if the state's entries are in conflict with the record
pub named_conflicts : {m : List ℕ} {A : Arrangement} (r : Rec) → Image m A → names_leaf (conflict_of A r) ≡ conflicts (state_of A) r
named_conflicts {m} {A} r x =
    named_found r.snapshot (footprint (map key_of r.points) (map low_of r.scans) (map high_of r.scans)) x
    ∙ ap (λ (w : rules.Walked). w.found) (same_walk r x) ∙ walk_conflicts r x.arranged.lawful

-- R37
pub looks_few : {m : List ℕ} {A : Arrangement} {r : Rec} → Image m A → Valid r → (conflict_of A r).looks ≤ 65 + 64 * (length r.points + 2 * length r.scans)
looks_few {m} {A} {r} x v = rw (looks_walk r x, ← (marks_length r))
    (looks_bound r.snapshot (reach r) (marks_of r) (marks_marked r (apart_ordered 0 r.scans v.apart)) (tree_of_canonical 32 0 x.arranged.lawful.rising))
