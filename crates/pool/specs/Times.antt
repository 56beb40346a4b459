-- How often a number stands in a list of node numbers.
-- Assumes nothing: these are definitions.
use Rattle.std.specs.Prelude.{ℕ, ◌+◌, Bool, true, false, List, [], ◌∷◌, eqb}

-- a test as a number
abbrev pub bit : Bool → ℕ
bit true = 1
bit false = 0

-- how often i stands in a list
unfoldable pub times : ℕ → List ℕ → ℕ
times i [] = 0
times i (j ∷ js) = bit (eqb i j) + times i js
