-- Cursors into lists of numbers.
-- Assumes nothing: these are definitions.
use Rattle.std.specs.Prelude.{ℕ, ◌≤◌, ◌<◌, Bool, ◌&&◌, List, length, get_or, ltb}

-- every number before the cursor is below x
abbrev pub Passed : List ℕ → ℕ → ℕ → Type 0
Passed xs cursor x = (k : ℕ) → k < cursor → get_or xs k 0 < x

-- r is the first place from the cursor on whose number is at least x, or the list's end
pub record Reached (xs : List ℕ) (cursor x r : ℕ) : Type 0 where
  pub on : cursor ≤ r
  pub within : r ≤ length xs
  pub passed : (k : ℕ) → cursor ≤ k → k < r → get_or xs k 0 < x
  pub there : r < length xs → x ≤ get_or xs r 0

-- there is a number at the cursor, and it is below x
unfoldable pub below_at : List ℕ → ℕ → ℕ → Bool
below_at xs cursor x = ltb cursor (length xs) && ltb (get_or xs cursor 0) x
