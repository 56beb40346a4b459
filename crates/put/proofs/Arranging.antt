-- An arrangement with an entry stored in it is one again: its state is the state with the entry stored, and tree and free nodes
-- together have the numbers that they had.
-- Assumes nothing.
use Prim.Native.Nat.{ℕ, ◌+◌, ◌*◌, ◌^◌, ◌≤◌, ◌<◌}
use mathlib.Core.Path.{◌≡◌, refl, sym, ap, ◌∙◌}
use mathlib.Core.Bool.{Bool, true, false}
use mathlib.Core.Logic.{⊎_elim}
use mathlib.Core.List.{List, [], ◌∷◌, ◌++◌}
use mathlib.Core.Option.{Option, none, some}
use native.Mathlib.Omega.{arith}
use lib.ListN.{length, length-append}
use Rattle.std.specs.Prelude.{if◌then◌else◌}
use Rattle.rules.specs.State.{Entry, Lawful, Fits}
use Rattle.rules.specs.Verdict.{store}
use Rattle.rules.specs.Tree.{entries}
use Rattle.rules.specs.Shape.{Canonical}
use Rattle.rules.proofs.Trees.{tree_of_canonical, tree_of_entries}
use Rattle.rules.specs.Shape as Shape
use Rattle.rules.proofs.Sorted.{store_rising}
use Rattle.rules.proofs.Stored.{store_mem}
use Rattle.rules.proofs.Insert.{Stored, insert_stored}
use Rattle.pool.specs.Plan.{Plan, tree_in, numbers}
use Rattle.pool.specs.Image.{Arrangement, Arranged, tree_or, numbers_or, state_of, first_of}
use Rattle.pool.specs.Times.{times}
use Rattle.pool.proofs.Numbers.{times_append, distinct_times, times_distinct, below_times, times_below}
use Rattle.put.specs.Storing.{has, put_plan, rest_of, tree_after, free_after, put_in}
use Rattle.put.proofs.Counts.{taken, times_put, node_count, length_put}
use Rattle.put.proofs.Shape.{Aligned, tree_in_put}

-- THE TREE

module _ (e : Entry) (key_fits : e.key < 2 ^ 32) where
  -- in a tree of the shape, storing with numbers stores
  pub stored_put : (a b : ℕ) (T : Plan) → Canonical 32 0 (tree_in T) → Stored 32 0 e (tree_in T) (tree_in (put_plan a b e T))
  stored_put a b T g =
      let zero_aligned : Aligned 32 0 = record { part = 0; is = refl } in
      rw (tree_in_put a b e T g zero_aligned (omega arith) (omega arith) key_fits) (insert_stored e g (omega arith) key_fits)

  -- the same of a tree or none
  pub stored_after : (free : List ℕ) (o : Option Plan) → Canonical 32 0 (tree_or o) → Stored 32 0 e (tree_or o) (tree_in (tree_after e free o))
  unfolding entries store
  stored_after free none g = record { fits = Shape.one {h = 32} {low = 0} {e = e} (omega arith) key_fits; holds = refl }
  stored_after free (some T) g = stored_put (first_of free) (first_of (rest_of free)) T g

-- an arrangement's tree is of the shape
pub arranged_canonical : (A : Arrangement) → Arranged A → Canonical 32 0 (tree_or A.tree)
arranged_canonical A q = rw q.shape (tree_of_canonical 32 0 q.lawful.rising)

-- THE NUMBERS

-- as many free nodes as are taken
abbrev pub Enough : ℕ → List ℕ → Option Plan → Type 0
Enough k free none = 1 ≤ length free
Enough k free (some T) = has k T ≡ false → 2 ≤ length free

module _ (e : Entry) (j : ℕ) where
  -- with a tree, by whether it has the key
  times_two : (T : Plan) (free : List ℕ) (c : Bool) → has e.key T ≡ c → (c ≡ false → 2 ≤ length free)
      → times j (numbers (put_plan (first_of free) (first_of (rest_of free)) e T) ++ (if c then free else rest_of (rest_of free))) ≡ times j (numbers T ++ free)
  unfolding times
  times_two T free true h f =
      let a = first_of free in
      let b = first_of (rest_of free) in
      omega (arith, times_append j (numbers (put_plan a b e T)) free, times_append j (numbers T) free, times_put a b e j T, ap (λ (x : Bool). times j (taken x a b)) h)
  times_two T [] false h f = absurd (omega (arith, f refl))
  times_two T (a ∷ []) false h f = absurd (omega (arith, f refl))
  times_two T (a ∷ b ∷ is) false h f =
      omega (arith, times_append j (numbers (put_plan a b e T)) is, times_append j (numbers T) (a ∷ b ∷ is), times_put a b e j T, ap (λ (x : Bool). times j (taken x a b)) h)

  -- tree and free nodes together have each number as often as before
  pub times_after : (free : List ℕ) (o : Option Plan) → Enough e.key free o → times j (numbers (tree_after e free o) ++ free_after e.key free o) ≡ times j (numbers_or o ++ free)
  unfolding times
  times_after [] none f = absurd (omega arith)
  times_after (a ∷ is) none f = refl
  times_after [] (some T) f = times_two T [] (has e.key T) refl f
  times_after (a ∷ is) (some T) f = times_two T (a ∷ is) (has e.key T) refl f

module _ (e : Entry) where
  length_two : (T : Plan) (free : List ℕ) (c : Bool) → has e.key T ≡ c → (c ≡ false → 2 ≤ length free)
      → length (numbers (put_plan (first_of free) (first_of (rest_of free)) e T) ++ (if c then free else rest_of (rest_of free))) ≡ length (numbers T ++ free)
  length_two T free true h f =
      let a = first_of free in
      let b = first_of (rest_of free) in
      omega (arith, length-append (numbers (put_plan a b e T)) free, length-append (numbers T) free, length_put a b e T, ap (λ (x : Bool). length (taken x a b)) h)
  length_two T [] false h f = absurd (omega (arith, f refl))
  length_two T (a ∷ []) false h f = absurd (omega (arith, f refl))
  length_two T (a ∷ b ∷ is) false h f =
      omega (arith, length-append (numbers (put_plan a b e T)) is, length-append (numbers T) (a ∷ b ∷ is), length_put a b e T, ap (λ (x : Bool). length (taken x a b)) h)

  -- and are as many
  pub length_after : (free : List ℕ) (o : Option Plan) → Enough e.key free o → length (numbers (tree_after e free o) ++ free_after e.key free o) ≡ length (numbers_or o ++ free)
  length_after [] none f = absurd (omega arith)
  length_after (a ∷ is) none f = refl
  length_after [] (some T) f = length_two T [] (has e.key T) refl f
  length_after (a ∷ is) (some T) f = length_two T (a ∷ is) (has e.key T) refl f

-- how many leaves there are then
pub leaves_put : (a b : ℕ) (e : Entry) (T : Plan) (c : Bool) → has e.key T ≡ c
    → length (entries (tree_in (put_plan a b e T))) ≡ length (entries (tree_in T)) + (if c then 0 else 1)
leaves_put a b e T true h = omega (arith, node_count T, node_count (put_plan a b e T), length_put a b e T, ap (λ (x : Bool). length (taken x a b)) h)
leaves_put a b e T false h = omega (arith, node_count T, node_count (put_plan a b e T), length_put a b e T, ap (λ (x : Bool). length (taken x a b)) h)

-- THE ARRANGEMENT

-- what an entry needs to be stored: it is a state's, at a position up to p, and there is room for it
pub record Storable (A : Arrangement) (e : Entry) : Type 0 where
  pub key_fits : e.key < 2 ^ 32
  pub payload_fits : Fits e.payload
  pub written : 1 ≤ e.position
  pub up_to_p : e.position ≤ A.p
  pub room : length (store e (state_of A).kept) ≤ A.N

module _ (A : Arrangement) (q : Arranged A) (e : Entry) (s : Storable A e) where
  stored : Stored 32 0 e (tree_or A.tree) (tree_in (tree_after e A.free A.tree))
  stored = stored_after e s.key_fits A.free A.tree (arranged_canonical A q)

  -- the state afterwards is the state with the entry stored
  pub state_put : state_of (put_in A e) ≡ record { N = A.N; Z = A.Z; p = A.p; kept = store e (state_of A).kept }
  state_put = rw stored.holds

  -- room for the key is room for its nodes
  pub enough : Enough e.key A.free A.tree
  enough = go A.tree A.free q.all stored.holds s.room
    where
      go : (o : Option Plan) (free : List ℕ) → length (numbers_or o ++ free) ≡ 2 * A.N → entries (tree_in (tree_after e free o)) ≡ store e (entries (tree_or o)) → length (store e (entries (tree_or o))) ≤ A.N
          → Enough e.key free o
      go none free h k w = omega (arith, q.lawful.limit_N.0)
      go (some T) free h k w = λ n.
          omega (
            arith,
            length-append (numbers T) free,
            ap (length {A = Entry}) k,
            node_count T,
            leaves_put (first_of free) (first_of (rest_of free)) e T false n,
          )

  abbrev All : List ℕ
  All = numbers_or A.tree ++ A.free

  abbrev AllAfter : List ℕ
  AllAfter = numbers (tree_after e A.free A.tree) ++ free_after e.key A.free A.tree

  times_all : (j : ℕ) → times j AllAfter ≡ times j All
  times_all j = times_after e j A.free A.tree enough

  -- the state is lawful (R17)
  lawful_put : Lawful (state_of (put_in A e))
  lawful_put = rw state_put (record {
    limit_N = q.lawful.limit_N;
    limit_Z = q.lawful.limit_Z;
    last = q.lawful.last;
    few = s.room;
    rising = store_rising e q.lawful.rising (omega arith) s.key_fits;
    positions = λ x m. ⊎_elim (λ (p : x ≡ e). rw p (s.written, s.up_to_p)) (λ n. q.lawful.positions x n) (store_mem e (state_of A).kept m);
    payloads = λ x m. ⊎_elim (λ (p : x ≡ e). rw p s.payload_fits) (λ n. q.lawful.payloads x n) (store_mem e (state_of A).kept m);
  })

  -- the arrangement with e stored is one again
  pub arranged_put : Arranged (put_in A e)
  arranged_put = record {
    lawful = lawful_put;
    shape = sym (tree_of_entries stored.fits);
    below = times_below (2 * A.N) AllAfter (λ j l. times_all j ∙ below_times (2 * A.N) All q.below j l);
    distinct = times_distinct AllAfter (λ j. rw (times_all j) (distinct_times All q.distinct j));
    all = length_after e A.free A.tree enough ∙ q.all;
  }
