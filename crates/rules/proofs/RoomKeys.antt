-- Which keys have to find room (R26), one by one: the kept ones that are live or young, and those of the points that write.
-- The idea: a count is that of keys of which none stands twice, so where every key that is counted here is counted there, the count here is no larger.
-- Assumes nothing.
use Prim.Native.Nat.{ℕ, ◌+◌, ◌≤◌}
use native.Mathlib.Omega.{arith}
use mathlib.Core.Path.{◌≡◌, refl, sym, ap, ◌∙◌, subst}
use mathlib.Core.Logic.{◌⊎◌, inl, inr, ⊎_elim}
use mathlib.Core.Bool.{Bool}
use mathlib.Core.List.Memᴰ.{append_cases as in-append}
use mathlib.Core.List.Memᴰ.{append_left as in_left}
use mathlib.Core.List.Memᴰ.{append_right as in_right}
use mathlib.Core.List.Memᴰ.{head as here}
use mathlib.Core.List.Memᴰ.{tail as there}
use mathlib.Core.List.{List, [], ◌∷◌, map, Memᴰ as Mem}
use lib.Dec.{T, ltb, ltb→lt, lt→ltb}
use Rattle.record.specs.Record.{key_of}
use Rattle.record.specs.declared.point.Point.{Point}
use Rattle.record.specs.declared.point.Point.TheVariants.{Read, Put, Delete}
use Rattle.rules.specs.Lists.{keep, distinct}
use Rattle.rules.specs.State.{Entry, State, key_in, is_live}
use Rattle.rules.specs.Footprint.{stored_at, writes, writes_of}
use Rattle.rules.specs.Verdict.{young, counted, count}
use Rattle.rules.proofs.Tests.{if_ind, or_left, or_right, or_cases, keep_mem, mem_keep, mem_map, of_map}
use Rattle.rules.proofs.Counted.{once_le, distinct_of, of_distinct, distinct_once}

-- what is kept passes the test
keep_passes : {A : Type 0} (f : A → Bool) (xs : List A) {x : A} → Mem x (keep f xs) → T (f x)
keep_passes f [] {x} = λ m. elim m [ ]
keep_passes f (y ∷ ys) {x} = if_ind (λ l. Mem x l → T (f x)) (f y)
    (λ t. elim [ here e ↦ subst (λ z. T (f z)) (sym e) t | there m ↦ keep_passes f ys m ]) (λ _ m. keep_passes f ys m)

-- WHAT POINTS WRITE

-- what points store has the key of one of them
stored_by : (v : ℕ) (ps : List Point) {e : Entry} → Mem e (stored_at v ps) → (q : Point) × Mem q ps × (e.key ≡ key_of q)
stored_by v [] m = elim m [ ]
stored_by v (Read k ∷ ps) m = let x = stored_by v ps m in (x.0, there x.1, x.2)
stored_by v (Put k y ∷ ps) (here e) = (Put k y, here refl, ap key_in e)
stored_by v (Put k y ∷ ps) (there m) = let x = stored_by v ps m in (x.0, there x.1, x.2)
stored_by v (Delete k ∷ ps) (here e) = (Delete k, here refl, ap key_in e)
stored_by v (Delete k ∷ ps) (there m) = let x = stored_by v ps m in (x.0, there x.1, x.2)

-- R22: what is written has the key of a point that writes
pub written_by : (S : State) (ps : List Point) {e : Entry} → Mem e (writes_of S ps) → (q : Point) × Mem q ps × T (writes S q) × (e.key ≡ key_of q)
unfolding writes_of
written_by S ps m = let x = stored_by (S.p + 1) (keep (writes S) ps) m in (x.0, keep_mem (writes S) ps x.1, keep_passes (writes S) ps x.1, x.2)

-- a point that writes is stored
stored_key : (S : State) (v : ℕ) (ps : List Point) {q : Point} → Mem q ps → T (writes S q) → Mem (key_of q) (map key_in (stored_at v ps))
stored_key S v [] {q = q} x'' t = elim x'' [ ]
stored_key S v (Read k ∷ ps) (here e) t = absurd (subst (λ (z : Point). T (writes S z)) e t)
stored_key S v (Read k ∷ ps) (there m) t = stored_key S v ps m t
stored_key S v (Put k y ∷ ps) (here e) t = here (ap key_of e)
stored_key S v (Put k y ∷ ps) (there m) t = there (stored_key S v ps m t)
stored_key S v (Delete k ∷ ps) (here e) t = here (ap key_of e)
stored_key S v (Delete k ∷ ps) (there m) t = there (stored_key S v ps m t)

-- R22: the key of a point that writes is written
written_key : (S : State) (ps : List Point) {q : Point} → Mem q ps → T (writes S q) → Mem (key_of q) (map key_in (writes_of S ps))
unfolding writes_of
written_key S ps m t = stored_key S (S.p + 1) (keep (writes S) ps) (mem_keep (writes S) ps m t) t

-- WHAT IS COUNTED

-- what is young at a position was young at the one before
pub young_before : (z v : ℕ) (e : Entry) → T (young z (v + 1) e) → T (young z v e)
unfolding young
young_before z v e t = ⊎_elim (λ (l : T (is_live e.payload)). or_left (is_live e.payload) (ltb v (e.position + z)) l)
    (λ (y : T (ltb (v + 1) (e.position + z))). or_right (is_live e.payload) (ltb v (e.position + z)) (lt→ltb v (e.position + z) (omega (arith, ltb→lt (v + 1) (e.position + z) y))))
    (or_cases (is_live e.payload) (ltb (v + 1) (e.position + z)) t)

module _ (S : State) (ps : List Point) where
  -- R26: key k is counted: it is kept and young, or a point writes it
  abbrev pub Counts : ℕ → Type 0
  Counts k = ((e : Entry) × Mem e S.kept × T (young S.Z (S.p + 1) e) × (k ≡ e.key)) ⊎ ((q : Point) × Mem q ps × T (writes S q) × (k ≡ key_of q))

  -- one that is counted is one of these
  of_counted : (k : ℕ) → Mem k (counted S ps) → Counts k
  of_counted k m = ⊎_elim
      (λ (i : Mem k (map key_in (keep (young S.Z (S.p + 1)) S.kept))).
      let x = of_map key_in (keep (young S.Z (S.p + 1)) S.kept) i in
      inl (x.0, keep_mem (young S.Z (S.p + 1)) S.kept x.1, keep_passes (young S.Z (S.p + 1)) S.kept x.1, x.2))
      (λ (i : Mem k (map key_in (writes_of S ps))).
      let x = of_map key_in (writes_of S ps) i in
      let y = written_by S ps x.1 in
      inr (y.0, y.1, y.2, x.2 ∙ y.3))
      (in-append (map key_in (keep (young S.Z (S.p + 1)) S.kept)) m)

  -- and the reverse
  counted_of : (k : ℕ) → Counts k → Mem k (counted S ps)
  counted_of k (inl x) =
      in_left (map key_in (writes_of S ps))
      (subst (λ (i : ℕ). Mem i (map key_in (keep (young S.Z (S.p + 1)) S.kept))) (sym x.3) (mem_map key_in (mem_keep (young S.Z (S.p + 1)) S.kept x.1 x.2)))
  counted_of k (inr x) =
      in_right (map key_in (keep (young S.Z (S.p + 1)) S.kept))
      (subst (λ (i : ℕ). Mem i (map key_in (writes_of S ps))) (sym x.3) (written_key S ps x.1 x.2))

-- R26: where every key that is counted here is counted there, no more keys have to find room here
pub count_within : (S R : State) (ps qs : List Point) → ((k : ℕ) → Counts S ps k → Counts R qs k) → count S ps ≤ count R qs
unfolding count
count_within S R ps qs h =
    once_le (distinct_once (counted S ps)) (distinct (counted R qs)) (λ k m. of_distinct (counted R qs) (counted_of R qs k (h k (of_counted S ps k (distinct_of (counted S ps) m)))))
