-- What the functions on cursors know at each place.
-- Assumes nothing.
use Prim.Native.Nat.{ℕ, ◌≤◌, ◌<◌}
use mathlib.Core.Path.{◌≡◌}
use mathlib.Core.List.{List}
use lib.Dec.{ltb}
use lib.ListN.{length, get_or}
use borrow.Author.Tests.{lt-ltb, le-ltb}
use Rattle.conflict_search.specs.Cursor.{below_at}

-- what lies from the cursor up to a place is below x
pub record Going (xs : List ℕ) (cursor x i : ℕ) : Type 0 where
  pub on : cursor ≤ i
  pub within : i ≤ length xs
  pub passed : (k : ℕ) → cursor ≤ k → k < i → get_or xs k 0 < x

module _ (xs : List ℕ) (cursor x : ℕ) where
  -- the test past the list's end, and within the list
  pub none_at : length xs ≤ cursor → ltb cursor (length xs) ≡ below_at xs cursor x
  unfolding below_at
  none_at h = rw (le-ltb cursor (length xs) h)

  pub one_at : (w : ℕ) → cursor < length xs → w ≡ get_or xs cursor 0 → ltb w x ≡ below_at xs cursor x
  unfolding below_at
  one_at w h e = rw (lt-ltb cursor (length xs) h, e)
