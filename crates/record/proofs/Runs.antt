-- What a loop over a run of items meets at each turn: the item that was found or not, and what is left of the run.
-- Assumes nothing.
use Prim.Native.Nat.{ℕ, suc, ◌+◌, ◌-◌, ◌≤◌, ◌<◌}
use Rattle.std.specs.Prelude.{Option, Some, None}
use mathlib.Core.Path.{◌≡◌, ap, ◌∙◌}
use mathlib.Core.List.{List, []}
use native.Mathlib.Omega.{arith}
use Rattle.record.specs.Parse.{Items, bad, took, also, parse_run, end_of}
use Rattle.record.proofs.Cases.{end_also}

module _ {A : Type 0} (k : Items A) (bs : List ℕ) (least at count i : ℕ) where
  module _ (r : Option A) (is : r ≡ k.step least bs at) (more : i < count) where
    -- one more is left
    left : count - i ≡ suc (count - (i + 1))
    left = omega arith

    -- no item here, so no run
    pub run_none : r ≡ None → parse_run k (count - i) least bs at ≡ bad
    unfolding parse_run
    run_none b = simp (left, ← is, b)

    -- an item here stands in front of the rest
    pub run_some : (a : A) (size next : ℕ) → r ≡ Some a → size ≡ k.size a → next ≡ k.above a
        → parse_run k (count - i) least bs at ≡ also a (parse_run k (count - (i + 1)) next bs (at + size))
    unfolding parse_run
    run_some a size next b s n = simp (left, ← is, b, s, n)

    -- so the run ends where the rest ends
    pub run_on : (end : Option ℕ) (a : A) (size next : ℕ) → end ≡ end_of (parse_run k (count - i) least bs at) → r ≡ Some a → size ≡ k.size a → next ≡ k.above a
        → end ≡ end_of (parse_run k (count - (i + 1)) next bs (at + size))
    run_on end a size next e b s n = e ∙ ap end_of (run_some a size next b s n) ∙ end_also a (parse_run k (count - (i + 1)) next bs (at + size))

  -- none left: the run ends here
  pub run_done : count ≤ i → parse_run k (count - i) least bs at ≡ took [] at
  unfolding parse_run
  run_done h = let z : count - i ≡ 0 = omega arith in simp z
