-- What a committed record leaves in an arrangement.
-- Assumes nothing: these are definitions.
use Rattle.std.specs.Prelude.{ℕ, ◌+◌, ◌-◌, ◌≤◌, ◌<◌, ◌≡◌, length}
use mathlib.Core.List.{List, Memᴰ as Mem}
use Rattle.rules.specs.Lists.{keep}
use Rattle.rules.specs.State.{Entry, last_position}
use Rattle.rules.specs.Verdict.{store_all}
use Rattle.rules.specs.EntryFits.{EntryFits}
use Rattle.pool.specs.Image.{Arrangement, Image, state_of}
use Rattle.drop.specs.Old.{stays}
use Rattle.drop.specs.Drop.{drop_in}
use Rattle.advance.specs.Moved.{moved_on}
use Rattle.commit.specs.Applied.{writes_in, store_in}

-- the last position whose tombstones are old at p + 1
abbrev pub old_at : Arrangement → ℕ
old_at A = A.p + 1 - A.Z

-- the writes of three lists of points, stored at p + 1
abbrev pub commit_in : List ℕ → List ℕ → List ℕ → Arrangement → Arrangement
commit_in kinds ks xs A = store_in (moved_on A) (writes_in (A.p + 1) kinds ks xs)

-- the same after the old tombstones are dropped
abbrev pub commit_lean : List ℕ → List ℕ → List ℕ → Arrangement → Arrangement
commit_lean kinds ks xs A = store_in (drop_in (old_at A) (moved_on A)) (writes_in (A.p + 1) kinds ks xs)

-- the pool is fit, a position is left, the lists are equally long, and the writes fit their bytes and find room among these entries
pub record Committable (m kinds ks xs : List ℕ) (among : Arrangement → List Entry) : Type 0 where
  pub arrangement : Arrangement
  pub image : Image m arrangement
  pub left : arrangement.p < last_position
  pub as_many_keys : length ks ≡ length kinds
  pub as_many_payloads : length xs ≡ length kinds
  pub sized : (e : Entry) → Mem e (writes_in (arrangement.p + 1) kinds ks xs) → EntryFits e
  pub room : length (store_all (writes_in (arrangement.p + 1) kinds ks xs) (among arrangement)) ≤ arrangement.N

-- all that is kept, and all but the old tombstones
abbrev pub all_kept : Arrangement → List Entry
all_kept A = (state_of A).kept

abbrev pub not_old : Arrangement → List Entry
not_old A = keep (stays (old_at A)) (state_of A).kept
