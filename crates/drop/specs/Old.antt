-- Which entries are old (R27): tombstones w with w + Z ≤ v, said with limit = v − Z.
-- Assumes nothing: these are definitions.
use Rattle.std.specs.Prelude.{ℕ, Bool, not, ◌&&◌, leb}
use Rattle.rules.specs.State.{Entry, is_live}

-- a tombstone written at limit or before
unfoldable pub old : ℕ → Entry → Bool
old limit e = not (is_live e.payload) && leb e.position limit

-- what is not dropped
abbrev pub stays : ℕ → Entry → Bool
stays limit e = not (old limit e)
