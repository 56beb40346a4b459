-- What is left of a record's points or scans, as a run: its first one stands in front of the rest.
-- Assumes nothing.
use Prim.Native.Nat.{ℕ, zero, suc, ◌+◌, ◌-◌}
use mathlib.Core.Path.{◌≡◌, refl, ap}
use mathlib.Core.Bool.{true}
use mathlib.Core.List.{List, []}
use native.Mathlib.Numerals.{sub-one}
use Rattle.std.specs.Prelude.{Option, Some, None}
use Rattle.record.specs.Parse.{Items, Parsed, bad, took, also, parse_run, is_took}
use Rattle.joiner.specs.declared.left.Left.{Left}
use Rattle.joiner.specs.Left.{run_left, behind}

module _ {A : Type 0} (k : Items A) (bs : List ℕ) (l : Left) where
  -- none is left
  pub left_none : l.count ≡ 0 → run_left k bs l ≡ took [] l.at
  unfolding parse_run
  left_none e = rw e

  module _ (r : Option A) (is : r ≡ k.step l.least bs l.at) (more : l.count ≡ 0 → ⊥) where
    -- the first is not well formed, so the run is not
    pub left_bad : r ≡ None → is_took (run_left k bs l) ≡ true → ⊥
    unfolding parse_run
    left_bad e t = let z = ap is_took (refused l.count more) in cc
      where
        refused : (n : ℕ) → (n ≡ 0 → ⊥) → parse_run k n l.least bs l.at ≡ bad
        refused zero m = absurd (m refl)
        refused (suc n) m = simp (← is, e)

    -- the first, and the run behind it
    pub left_first : (a : A) → r ≡ Some a → run_left k bs l ≡ also a (run_left k bs (behind k l a))
    unfolding parse_run
    left_first a e = found l.count more
      where
        found : (n : ℕ) → (n ≡ 0 → ⊥) → parse_run k n l.least bs l.at ≡ also a (parse_run k (n - 1) (k.above a) bs (l.at + k.size a))
        found zero m = absurd (m refl)
        found (suc n) m = simp (← is, e, sub-one)
