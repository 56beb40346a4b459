-- The version that counts have: which it is, and that its counts have room for them.
-- Assumes nothing.
use Prim.Native.Nat.{ℕ, ◌^◌, ◌≤◌, ◌<◌}
use mathlib.Core.Path.{◌≡◌}
use native.Mathlib.Omega.{arith}
use lib.Dec.{leb}
use borrow.Author.Tests.{le-leb, lt-leb, leb-true, leb-false}
use Rattle.record.specs.Record.{version_for}
use Rattle.record.proofs.Cases.{by_case}

module _ (p s : ℕ) where
  -- few of both
  pub version_1 : p ≤ 64 → s ≤ 8 → version_for p s ≡ 1
  unfolding version_for
  version_1 a b = simp (le-leb _ _ a, le-leb _ _ b)

  -- many points
  pub version_2_points : 64 < p → version_for p s ≡ 2
  unfolding version_for
  version_2_points a = simp (lt-leb _ _ a)

  -- many scans
  pub version_2_scans : p ≤ 64 → 8 < s → version_for p s ≡ 2
  unfolding version_for
  version_2_scans a b = simp (le-leb _ _ a, lt-leb _ _ b)

  -- there is no third
  pub by_version : {P : Type 0} → (p ≤ 64 → s ≤ 8 → version_for p s ≡ 1 → P) → (version_for p s ≡ 2 → P) → P
  by_version f g =
      by_case (leb p 64)
      (λ a. let a' = leb-true _ _ a in by_case (leb s 8) (λ b. let b' = leb-true _ _ b in f a' b' (version_1 a' b')) (λ b. g (version_2_scans a' (leb-false _ _ b))))
      (λ a. g (version_2_points (leb-false _ _ a)))

  -- so it is 1 or 2
  pub version_least : 1 ≤ version_for p s
  version_least = by_version (λ a b e. omega arith) (λ e. omega arith)

  pub version_most : version_for p s ≤ 2
  version_most = by_version (λ a b e. omega arith) (λ e. omega arith)

  -- the counts fit their bytes
  pub counts_fit : p ≤ 1024 → s ≤ 64 → (p < 256 ^ version_for p s) × (s < 256 ^ version_for p s)
  counts_fit x y = by_version (λ a b e. rw e (omega arith, omega arith)) (λ e. rw e (omega arith, omega arith))
