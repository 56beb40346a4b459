-- Lists of node numbers, by how often each number stands in them: what is distinct, what is below a limit, and what is a member
-- are facts of counts, and counts of joined lists add up.
-- Assumes nothing.
use Prim.Native.Nat.{ℕ, zero, suc, ◌+◌, ◌≤◌, ◌<◌}
use mathlib.Core.Path.{◌≡◌, refl, ap, subst}
use mathlib.Core.Logic.{◌≢◌}
use mathlib.Core.Bool.{Bool, true, false}
use mathlib.Core.List.Memᴰ.{head as here}
use mathlib.Core.List.Memᴰ.{tail as there}
use mathlib.Core.List.{List, [], ◌∷◌, ◌++◌, Memᴰ as Mem}
use native.Mathlib.Omega.{arith}
use lib.Dec.{eqb}
use borrow.Author.Tests.{eq-eqb, ne_eqb, eqb-true}
use Rattle.pool.specs.Times.{bit, times}
use Rattle.pool.specs.Image.{Distinct, AllBelow}

pub times_append : (i : ℕ) (xs ys : List ℕ) → times i (xs ++ ys) ≡ times i xs + times i ys
unfolding times
times_append i [] ys = omega arith
times_append i (x ∷ xs) ys = omega (arith, times_append i xs ys)

pub times_same : (i : ℕ) (js : List ℕ) → times i (i ∷ js) ≡ suc (times i js)
unfolding times
times_same i js = rw (eq-eqb i i refl) (omega arith)

pub times_other : (i j : ℕ) (js : List ℕ) → i ≢ j → times i (j ∷ js) ≡ times i js
unfolding times
times_other i j js d = rw (ne_eqb i j d) (omega arith)

pub times_mem : (i : ℕ) (xs : List ℕ) → 1 ≤ times i xs → Mem i xs
unfolding times
times_mem i [] h = absurd (omega arith)
times_mem i (x ∷ xs) h = go (eqb i x) refl (times_mem i xs)
  where
    go : (b : Bool) → eqb i x ≡ b → (1 ≤ times i xs → Mem i xs) → Mem i (x ∷ xs)
    go true e f = here (eqb-true i x e)
    go false e f = there (f (omega (arith, ap bit e)))

pub mem_times : {i : ℕ} {xs : List ℕ} → Mem i xs → 1 ≤ times i xs
unfolding times
mem_times {i = i} {xs = []} x'' = elim x'' [ ]
mem_times {i} {xs = x ∷ xs} (here e) = rw (eq-eqb i x e) (omega arith)
mem_times {i} {xs = x ∷ xs} (there m) = omega (arith, mem_times m)

pub distinct_times : (xs : List ℕ) → Distinct xs → (i : ℕ) → times i xs ≤ 1
unfolding times
distinct_times [] d i = omega arith
distinct_times (x ∷ xs) d i = go (eqb i x) refl (distinct_times xs d.1 i)
  where
    go : (b : Bool) → eqb i x ≡ b → times i xs ≤ 1 → bit b + times i xs ≤ 1
    go false e h = omega arith
    go true e h = none (times i xs) refl
      where
        none : (n : ℕ) → times i xs ≡ n → 1 + n ≤ 1
        none zero q = omega arith
        none (suc n) q = absurd (d.0 (subst (λ (z : ℕ). Mem z xs) (eqb-true i x e) (times_mem i xs (omega arith))))

pub times_distinct : (xs : List ℕ) → ((i : ℕ) → times i xs ≤ 1) → Distinct xs
unfolding times
times_distinct [] h = tt
times_distinct (x ∷ xs) h = (λ m. omega (arith, h x, times_same x xs, mem_times m), times_distinct xs (λ i. omega (arith, h i)))

pub below_times : (n : ℕ) (xs : List ℕ) → AllBelow n xs → (i : ℕ) → n ≤ i → times i xs ≡ 0
unfolding times
below_times n [] b i h = refl
below_times n (x ∷ xs) b i h = omega (arith, below_times n xs b.1 i h, ap bit (ne_eqb i x (λ e. omega (arith, b.0))))

pub times_below : (n : ℕ) (xs : List ℕ) → ((i : ℕ) → n ≤ i → times i xs ≡ 0) → AllBelow n xs
unfolding times
times_below n [] h = tt
times_below n (x ∷ xs) h = (small, times_below n xs (λ i l. omega (arith, h i l)))
  where
    small : x < n
    small = elim (native.Mathlib.Decide.dec_lt x n) [ yes l ↦ l | no g ↦ absurd (omega (arith, h x (omega arith), times_same x xs)) ]

pub below_mem : {n i : ℕ} {xs : List ℕ} → AllBelow n xs → Mem i xs → i < n
below_mem {n = n} {i = i} {xs = []} b x5 = elim x5 [ ]
below_mem {n} {i} {xs = x ∷ xs} b (here e) = omega (arith, b.0)
below_mem {n} {i} {xs = x ∷ xs} b (there m) = below_mem b.1 m

-- a list that has no number more often is below what the other is below
pub below_part : (n : ℕ) (xs ys : List ℕ) → ((j : ℕ) → times j ys ≤ times j xs) → AllBelow n xs → AllBelow n ys
below_part n xs ys f b = times_below n ys (λ j h. omega (arith, f j, below_times n xs b j h))
