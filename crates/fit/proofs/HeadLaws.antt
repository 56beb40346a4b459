-- What the code of the header's and the whole check knows at each of its answers.
-- Assumes nothing.
use Prim.Native.Nat.{ℕ, ◌+◌, ◌≤◌, ◌<◌}
use mathlib.Core.Path.{◌≡◌, refl, sym, subst}
use mathlib.Core.Bool.{true, false}
use mathlib.Core.List.{List}
use native.Mathlib.Omega.{arith}
use lib.ListN.{get_or}
use Rattle.fit.specs.Whole.{Decides}
use Rattle.fit.proofs.Tests.{differ}

pub decides_yes : {P : Type 0} → P → Decides P true
decides_yes p = record { sound = λ _. p; complete = λ _. refl }

pub decides_no : {P : Type 0} → (P → ⊥) → Decides P false
decides_no h = record { sound = λ e. differ (sym e); complete = λ p. absurd (h p) }

-- THE ZEROS

abbrev pub Zeros : List ℕ → ℕ → Type 0
Zeros m to = (k : ℕ) → 28 ≤ k → k < to → get_or m k 0 ≡ 0

-- one more
pub zeros_more : (m : List ℕ) (at : ℕ) → Zeros m at → get_or m at 0 ≡ 0 → Zeros m (at + 1)
zeros_more m at z e k a b = elim (native.Mathlib.Decide.dec_lt k at) [ yes l ↦ z k a l | no g ↦ subst (λ (j : ℕ). get_or m j 0 ≡ 0) (omega arith) e ]
