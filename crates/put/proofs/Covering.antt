-- The two tests of a cover: below its low, and by the bits above its height.
-- Assumes nothing.
use Prim.Native.Nat.{ℕ, ◌+◌, ◌-◌, ◌*◌, ◌/◌, ◌^◌, ◌≤◌, ◌<◌}
use mathlib.Core.Path.{◌≡◌, ◌∙◌}
use mathlib.Core.Bool.{◌&&◌}
use native.Mathlib.Omega.{arith}
use native.Mathlib.Nat.{div-eq_of_lt, div-lt_iff_lt-mul}
use lib.Dec.{ltb, leb, eqb, ltb→lt, le→leb, lt→ltb, eqb→eq}
use lib.Pow.{pow_pos}
use Rattle.rules.proofs.Tests.{no_le, same, and_of, right_of_lem, yes_eq}
use Rattle.put.specs.Storing.{covered}

-- a key below low is not covered
pub covered_below : (low h k : ℕ) → k < low → leb low k ≡ covered low h k
unfolding covered
covered_below low h k l = rw (no_le l)

-- a key from low on is covered if no bit of its distance stands above the height
pub covered_above : (low h k r : ℕ) → low ≤ k → r ≡ (k - low) / 2 ^ h → eqb r 0 ≡ covered low h k
unfolding covered
covered_above low h k r l q = same (eqb r 0) (leb low k && ltb k (low + 2 ^ h))
    (λ t.
    let z = eqb→eq r 0 t in
    let w : (k - low) / 2 ^ h < 1 = omega arith in
    let v : k - low < 1 * 2 ^ h = (div-lt_iff_lt-mul (pow_pos h)).0 w in
    and_of (leb low k) (ltb k (low + 2 ^ h)) (le→leb low k l) (lt→ltb k (low + 2 ^ h) (omega (arith, native.Mathlib.Nat.one-mul (2 ^ h)))))
    (λ t.
    let z = ltb→lt k (low + 2 ^ h) (right_of_lem (leb low k) (ltb k (low + 2 ^ h)) t) in
    yes_eq {a = r} {b = 0} (q ∙ div-eq_of_lt (omega arith)))
