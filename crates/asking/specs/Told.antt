-- What is told of bytes explained as a record to a pool (R50, R52).
-- Assumes nothing: these are definitions.
use Rattle.std.specs.Prelude.{ℕ, List, Ok}
use Rattle.pool.specs.Image.{Fit}
use Rattle.meld.specs.Statuses.{StatusIs}
use Rattle.reason.specs.Reason.{Explains}
use Rattle.asking.specs.declared.telling.Told.{Told}
use Rattle.asking.specs.declared.telling.Told.TheVariants.{Limits, Over, Unfit, Record}

-- the status of the pool (R45), and the explanation (R50); or that the pool is unfit, and the explanation
abbrev pub Tells : (m bytes : List ℕ) → Told → Type 0
Tells m bytes (Limits held n z) = ⊥
Tells m bytes (Over found records) = ⊥
Tells m bytes (Unfit x) = (Fit m → ⊥) × Explains m bytes x
Tells m bytes (Record status x) = StatusIs m (Ok status) × Explains m bytes x
