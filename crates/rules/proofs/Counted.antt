-- Row 3's count, and the count of the drop, are how many entries would be stored.
-- The idea: a list of keys in which none stands twice is no longer than any list that holds them all; so two such lists that hold the same
-- keys are equally long. Stored entries rise by key, so their keys are such a list.
-- Assumes nothing.
use Prim.Native.Nat.{ℕ, suc, ◌+◌, ◌^◌, ◌≤◌, ◌<◌}
use native.Mathlib.Omega.{arith}
use mathlib.Core.Path.{◌≡◌, refl, sym, ap, subst, ◌∙◌}
use mathlib.Core.Logic.{◌⊎◌, inl, inr, ⊎_elim}
use mathlib.Core.List.Memᴰ.{append_cases as in-append}
use mathlib.Core.List.Memᴰ.{append_left as in_left}
use mathlib.Core.List.Memᴰ.{append_right as in_right}
use mathlib.Core.List.Memᴰ.{head as here}
use mathlib.Core.List.Memᴰ.{tail as there}
use mathlib.Core.List.{List, [], ◌∷◌, ◌++◌, map, Memᴰ as Mem}
use lib.Dec.{T, ltb, eqb, eqb→eq, T_not}
use lib.ListN.{length, length-map}
use Rattle.record.specs.Record.{Rec, Valid}
use Rattle.record.specs.declared.point.Point.{Point}
use Rattle.std.specs.Prelude.{if◌then◌else◌}
use Rattle.rules.specs.Lists.{any, keep, distinct, NoneTwice, nil, cons}
use Rattle.rules.specs.State.{Entry, State, key_in, Rising, end, link, Lawful}
use Rattle.rules.specs.Footprint.{writes_of}
use Rattle.rules.specs.Verdict.{store, store_all, young, whole, lean, kept_or_written, drops, counted, count}
use Rattle.rules.specs.EntryFits.{EntryFits}
use Rattle.rules.proofs.Tests.{if_ind, is_true, yes_eq, any_of, of_any, keep_mem, mem_map, of_map}
use Rattle.rules.proofs.Stored.{store_self, store_other, store_all_mem}
use Rattle.rules.proofs.Sorted.{rising_mem, keep_rising, store_all_rising}
use Rattle.rules.proofs.Written.{written_sized}

-- NO KEY TWICE

-- a list without one occurrence of a number
without : ℕ → List ℕ → List ℕ
without k [] = []
without k (x ∷ xs) = if eqb x k then xs else x ∷ without k xs

-- it is shorter, if the number was there
without_length : (k : ℕ) (xs : List ℕ) → Mem k xs → suc (length (without k xs)) ≤ length xs
unfolding without
without_length k [] x' = elim x' [ ]
without_length k (x ∷ xs) (here p) = rw (is_true (eqb x k) (yes_eq (sym p))) (omega arith)
without_length k (x ∷ xs) (there m) = if_ind (λ (l : List ℕ). suc (length l) ≤ suc (length xs)) (eqb x k) (λ _. omega arith) (λ _. omega (arith, without_length k xs m))

-- any other number is still there
without_mem : (k : ℕ) (xs : List ℕ) {j : ℕ} → (j ≡ k → ⊥) → Mem j xs → Mem j (without k xs)
unfolding without
without_mem k [] {j = j} n x'' = elim x'' [ ]
without_mem k (x ∷ xs) {j} n (here p) = if_ind (λ (l : List ℕ). Mem j l) (eqb x k) (λ t. absurd (n (p ∙ eqb→eq x k t))) (λ _. here p)
without_mem k (x ∷ xs) {j} n (there m) = if_ind (λ (l : List ℕ). Mem j l) (eqb x k) (λ _. m) (λ _. there (without_mem k xs n m))

-- no longer than any list that holds them all
pub once_le : {ks : List ℕ} → NoneTwice ks → (xs : List ℕ) → ((k : ℕ) → Mem k ks → Mem k xs) → length ks ≤ length xs
once_le nil xs h = omega arith
once_le (cons {k = k} {ks = ks} n o) xs h =
    let a = once_le o (without k xs) (λ j m. without_mem k xs (λ e. n (subst (λ (i : ℕ). Mem i ks) e m)) (h j (there m))) in
    omega (arith, without_length k xs (h k (here refl)))

-- two lists of the same numbers, none twice, are equally long
pub once_length : {ks js : List ℕ} → NoneTwice ks → NoneTwice js → ((k : ℕ) → Mem k ks → Mem k js) → ((k : ℕ) → Mem k js → Mem k ks) → length ks ≡ length js
once_length {ks} {js} a b f g = omega (arith, once_le a js f, once_le b ks g)

-- DISTINCT

-- what is distinct was there
pub distinct_of : (ks : List ℕ) {k : ℕ} → Mem k (distinct ks) → Mem k ks
distinct_of [] = λ m. m
distinct_of (j ∷ ks) {k} = if_ind (λ (l : List ℕ). Mem k l → Mem k (j ∷ ks)) (any (eqb j) ks) (λ _ m. there (distinct_of ks m))
    (λ _. elim [ here e ↦ here e | there m ↦ there (distinct_of ks m) ])

-- a number that a test finds is there
held : {j : ℕ} (ks : List ℕ) → T (any (eqb j) ks) → Mem j ks
held {j} ks t = let x = of_any (eqb j) ks t in subst (λ (i : ℕ). Mem i ks) (sym (eqb→eq j x.0 x.2)) x.1

-- what was there is among the distinct
pub of_distinct : (ks : List ℕ) {k : ℕ} → Mem k ks → Mem k (distinct ks)
of_distinct [] {k = k} x' = elim x' [ ]
of_distinct (j ∷ ks) {k} (here e) = if_ind (λ (l : List ℕ). Mem k l) (any (eqb j) ks) (λ t. of_distinct ks (subst (λ (i : ℕ). Mem i ks) (sym e) (held ks t))) (λ _. here e)
of_distinct (j ∷ ks) {k} (there m) = if_ind (λ (l : List ℕ). Mem k l) (any (eqb j) ks) (λ _. of_distinct ks m) (λ _. there (of_distinct ks m))

-- none of the distinct stands twice
pub distinct_once : (ks : List ℕ) → NoneTwice (distinct ks)
distinct_once [] = nil
distinct_once (j ∷ ks) = if_ind NoneTwice (any (eqb j) ks) (λ _. distinct_once ks)
    (λ t. cons (λ m. T_not (any (eqb j) ks) t (any_of (eqb j) (distinct_of ks m) (yes_eq {a = j} refl))) (distinct_once ks))

-- STORED ENTRIES

-- where keys rise none stands twice
pub rising_once : {top low : ℕ} {es : List Entry} → Rising top low es → NoneTwice (map key_in es)
rising_once (end h) = nil
rising_once (link {e = e} {es = es} h r) = cons (λ (m : Mem e.key (map key_in es)). let x = of_map key_in es m in let k = rising_mem r x.1 in omega (arith, x.2)) (rising_once r)

-- the keys of what is stored: the keys that were there, and those of the writes
store_all_keys : (ws es : List Entry) {k : ℕ} → Mem k (map key_in es) → Mem k (map key_in (store_all ws es))
unfolding store_all
store_all_keys [] es m = m
store_all_keys (w ∷ ws) es {k} m =
    let x = of_map key_in es m in
    store_all_keys ws (store w es)
    (⊎_elim (λ (i : Mem x.0 (store w es)). subst (λ (j : ℕ). Mem j (map key_in (store w es))) (sym x.2) (mem_map key_in i))
    (λ (e : w.key ≡ x.0.key). subst (λ (j : ℕ). Mem j (map key_in (store w es))) (e ∙ sym x.2) (mem_map key_in (store_self w es)))
    (store_other w es x.1))

-- the keys of the writes are there
store_all_new : (ws es : List Entry) {k : ℕ} → Mem k (map key_in ws) → Mem k (map key_in (store_all ws es))
unfolding store_all
store_all_new [] es {k = k} x' = elim x' [ ]
store_all_new (w ∷ ws) es {k} (here e) = store_all_keys ws (store w es) (subst (λ (j : ℕ). Mem j (map key_in (store w es))) (sym e) (mem_map key_in (store_self w es)))
store_all_new (w ∷ ws) es (there m) = store_all_new ws (store w es) m

-- how many entries there are once writes are stored: the distinct keys of both
pub stored_count : (ws : List Entry) {es : List Entry} → ((e : Entry) → Mem e ws → e.key < 2 ^ 32) → Rising (2 ^ 32) 0 es
    → length (store_all ws es) ≡ length (distinct (map key_in es ++ map key_in ws))
stored_count ws {es} k r =
    sym (length-map (store_all ws es) key_in)
    ∙ once_length (rising_once (store_all_rising ws k r)) (distinct_once (map key_in es ++ map key_in ws))
    (λ j m. of_distinct (map key_in es ++ map key_in ws) (to j m)) (λ j m. back j (in-append (map key_in es) (distinct_of (map key_in es ++ map key_in ws) m)))
  where
    to : (j : ℕ) → Mem j (map key_in (store_all ws es)) → Mem j (map key_in es ++ map key_in ws)
    to j m = let x = of_map key_in (store_all ws es) m in
        rw x.2 (⊎_elim (λ (i : Mem x.0 ws). in_right (map key_in es) (mem_map key_in i)) (λ (i : Mem x.0 es). in_left (map key_in ws) (mem_map key_in i)) (store_all_mem ws es x.1))

    back : (j : ℕ) → Mem j (map key_in es) ⊎ Mem j (map key_in ws) → Mem j (map key_in (store_all ws es))
    back j (inl m) = store_all_keys ws es m
    back j (inr m) = store_all_new ws es m

-- FOR POINTS AND A STATE

module _ (S : State) (ps : List Point) (rising : Rising (2 ^ 32) 0 S.kept) (sized : (e : Entry) → Mem e (writes_of S ps) → EntryFits e) where
  -- R26's keys, each once, are as many as there are entries once the writes are stored and the old tombstones are gone
  pub count_stored : count S ps ≡ length (lean S ps)
  unfolding count
  count_stored = sym (stored_count (writes_of S ps) (λ e m. (sized e m).0) (keep_rising (young S.Z (S.p + 1)) rising))

  -- R27's keys, each once, are as many as there are entries once the writes are stored
  pub taken_stored : length (distinct (kept_or_written S ps)) ≡ length (whole S ps)
  taken_stored = sym (stored_count (writes_of S ps) (λ e m. (sized e m).0) rising)

  -- so the drop turns on these
  pub drops_whole : drops S ps ≡ ltb S.N (length (whole S ps))
  unfolding drops
  drops_whole = ap (ltb S.N) taken_stored

  -- R26's keys are no more than R27's
  pub count_whole : count S ps ≤ length (whole S ps)
  unfolding count
  count_whole = rw (← taken_stored) (once_le (distinct_once (counted S ps)) (distinct (kept_or_written S ps))
      (λ k m. of_distinct (kept_or_written S ps) (among k (in-append (map key_in (keep (young S.Z (S.p + 1)) S.kept)) (distinct_of (counted S ps) m)))))
    where
      among : (k : ℕ) → Mem k (map key_in (keep (young S.Z (S.p + 1)) S.kept)) ⊎ Mem k (map key_in (writes_of S ps)) → Mem k (kept_or_written S ps)
      among k (inl m) =
          let x = of_map key_in (keep (young S.Z (S.p + 1)) S.kept) m in
          in_left (map key_in (writes_of S ps))
          (subst (λ (j : ℕ). Mem j (map key_in S.kept)) (sym x.2) (mem_map key_in (keep_mem (young S.Z (S.p + 1)) S.kept x.1)))
      among k (inr m) = in_right (map key_in S.kept) m

-- FOR A RECORD AND A LAWFUL STATE

-- row 3's count is how many entries would be stored, were the old tombstones dropped
pub row_three : {S : State} {r : Rec} → Lawful S → Valid r → count S r.points ≡ length (lean S r.points)
row_three {S} {r} l v = count_stored S r.points l.rising (written_sized S 0 r.points v.rising)

-- the drop turns on how many entries would be stored, were none dropped
pub drop_count : {S : State} {r : Rec} → Lawful S → Valid r → drops S r.points ≡ ltb S.N (length (whole S r.points))
drop_count {S} {r} l v = drops_whole S r.points l.rising (written_sized S 0 r.points v.rising)
