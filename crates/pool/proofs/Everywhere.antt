-- Distinct numbers below n, n of them: every number below n is among them.
-- Assumes nothing.
use Prim.Native.Nat.{ℕ, zero, suc, ◌+◌, ◌≤◌, ◌<◌}
use mathlib.Core.Path.{◌≡◌, refl, sym, ap, ◌∙◌, subst}
use mathlib.Core.List.{List, [], ◌∷◌, Memᴰ as Mem}
use native.Mathlib.Omega.{arith}
use native.Mathlib.Decide.{dec_lt}
use lib.ListN.{length}
use Rattle.pool.specs.Image.{Distinct, AllBelow}
use Rattle.pool.specs.Times.{times}
use Rattle.pool.proofs.Numbers.{times_same, times_other, times_mem, distinct_times}

-- how often the numbers below n stand in a list, all together
total : ℕ → List ℕ → ℕ
total zero xs = 0
total (suc n) xs = times n xs + total n xs

total_none : (n : ℕ) → total n [] ≡ 0
unfolding total times
total_none zero = refl
total_none (suc n) = omega (arith, total_none n)

total_miss : (n x : ℕ) (xs : List ℕ) → n ≤ x → total n (x ∷ xs) ≡ total n xs
unfolding total
total_miss zero x xs h = refl
total_miss (suc n) x xs h = omega (arith, times_other n x xs (λ e. omega (arith, e)), total_miss n x xs (omega arith))

total_hit : (n x : ℕ) (xs : List ℕ) → x < n → total n (x ∷ xs) ≡ suc (total n xs)
unfolding total
total_hit zero x xs h = absurd (omega arith)
total_hit (suc n) x xs h =
    elim (dec_lt x n) [
      | yes l ↦ omega (arith, times_other n x xs (λ e. omega (arith, e)), total_hit n x xs l)
      | no g ↦ omega (arith, same (omega arith), total_miss n x xs (omega arith))
    ]
  where
    same : x ≡ n → times n (x ∷ xs) ≡ suc (times n xs)
    same e = subst (λ (y : ℕ). times n (y ∷ xs) ≡ suc (times n xs)) (sym e) (times_same n xs)

total_length : (n : ℕ) (xs : List ℕ) → AllBelow n xs → total n xs ≡ length xs
total_length n [] b = total_none n
total_length n (x ∷ xs) b = total_hit n x xs b.0 ∙ ap suc (total_length n xs b.1)

total_most : (n : ℕ) (xs : List ℕ) → ((i : ℕ) → times i xs ≤ 1) → total n xs ≤ n
unfolding total
total_most zero xs h = omega arith
total_most (suc n) xs h = omega (arith, h n, total_most n xs h)

total_gap : (n j : ℕ) (xs : List ℕ) → ((i : ℕ) → times i xs ≤ 1) → j < n → times j xs ≡ 0 → total n xs < n
unfolding total
total_gap zero j xs h l e = absurd (omega arith)
total_gap (suc n) j xs h l e =
    elim (dec_lt j n) [
      | yes g ↦ omega (arith, h n, total_gap n j xs h g e)
      | no g ↦ omega (arith, subst (λ (x : ℕ). times x xs ≡ 0) {x = j} {y = n} (omega arith) e, total_most n xs h)
    ]

pub everywhere : (n : ℕ) (xs : List ℕ) → AllBelow n xs → Distinct xs → length xs ≡ n → (j : ℕ) → j < n → Mem j xs
everywhere n xs b d e j l = times_mem j xs (go (times j xs) refl)
  where
    go : (k : ℕ) → times j xs ≡ k → 1 ≤ times j xs
    go zero q = absurd (omega (arith, total_gap n j xs (distinct_times xs d) l q, total_length n xs b))
    go (suc k) q = omega arith
