-- Which lengths no record has (R14): what the test tells.
-- Assumes nothing.
use Prim.Native.Nat.{ℕ, ◌≤◌, ◌<◌}
use mathlib.Core.Path.{◌≡◌}
use mathlib.Core.Logic.{◌⊎◌, inl, inr}
use mathlib.Core.Bool.{true, false, true≢false}
use lib.Dec.{ltb}
use borrow.Author.Tests.{ltb-true, ltb-false, le-ltb}
use Rattle.record.proofs.Cases.{by_case}
use Rattle.record_log.specs.Log.{min_length, max_length, impossible}

-- a length that no record has
pub impossible_tells : (n : ℕ) → impossible n ≡ true → (n < min_length) ⊎ (max_length < n)
impossible_tells n e =
    by_case (ltb n min_length) (λ t. inl (ltb-true n min_length t)) λ f.
    inr (ltb-true max_length n (simp f at e))

-- and one that a record may have
pub possible_tells : (n : ℕ) → impossible n ≡ false → (min_length ≤ n) × (n ≤ max_length)
possible_tells n e =
    by_case (ltb n min_length) (λ t. absurd (true≢false (simp t at e))) λ f.
    (ltb-false n min_length f, ltb-false max_length n (simp f at e))

pub possible_is : (n : ℕ) → min_length ≤ n → n ≤ max_length → impossible n ≡ false
possible_is n l h = simp (le-ltb n min_length l, le-ltb max_length n h)
