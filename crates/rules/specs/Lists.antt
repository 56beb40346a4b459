-- Words on lists that the rules are said with.
-- Assumes nothing: these are definitions.
use Rattle.std.specs.Prelude.{ℕ, Bool, false, ◌||◌, eqb}
use mathlib.Core.List.{List, [], ◌∷◌, Memᴰ as Mem}
use Rattle.std.specs.Prelude.{if◌then◌else◌}

-- one of them passes the test (R24 is said with it)
abbrev pub any : {A : Type 0} → (A → Bool) → List A → Bool
any f [] = false
any f (x ∷ xs) = f x || any f xs

-- those that pass the test (R26 and R27 are said with it)
abbrev pub keep : {A : Type 0} → (A → Bool) → List A → List A
keep f [] = []
keep f (x ∷ xs) = if f x then x ∷ keep f xs else keep f xs

-- each number once (R26, R27)
abbrev pub distinct : List ℕ → List ℕ
distinct [] = []
distinct (k ∷ ks) = if any (eqb k) ks then distinct ks else k ∷ distinct ks

-- none of the numbers stands twice (R26 and R27 count so)
pub data NoneTwice : List ℕ → Type 0 where
  nil : NoneTwice []
  cons : {k : ℕ} {ks : List ℕ} → (Mem k ks → ⊥) → NoneTwice ks → NoneTwice (k ∷ ks)
