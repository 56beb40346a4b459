-- The size of the parts that the log rule hands out.
-- Assumes nothing: these are definitions.
use Rattle.std.specs.Prelude.{ℕ, ◌+◌, ◌≤◌, ◌≡◌, List, [], ◌∷◌, length}
use Rattle.record_log.specs.Log.{length_at, min_length, max_length}

-- a part as the log rule hands it out: as many bytes as its length says and the two of the length itself, the length from 7 to 13,833
pub record PartSized (part : List ℕ) : Type 0 where
  pub size : length part ≡ length_at part 0 + 2
  pub least : min_length ≤ length_at part 0
  pub most : length_at part 0 ≤ max_length

-- each of the parts is so
pub data PartsSized : List (List ℕ) → Type 0 where
  no_part : PartsSized []
  one_more : {part : List ℕ} {parts : List (List ℕ)} → PartSized part → PartsSized parts → PartsSized (part ∷ parts)
