-- What a record leaves that stores nothing: the position moves on (R23, "p + 1").
-- Assumes nothing: these are definitions.
use Rattle.std.specs.Prelude.{ℕ, ◌+◌, ◌<◌, List}
use Rattle.rules.specs.State.{last_position}
use Rattle.pool.specs.Image.{Arrangement, Image}

-- the arrangement one position on
abbrev pub moved_on : Arrangement → Arrangement
moved_on A = record { N = A.N; Z = A.Z; p = A.p + 1; tree = A.tree; free = A.free }

-- a fit pool whose positions are not used up
pub record PositionsLeft (m : List ℕ) : Type 0 where
  pub arrangement : Arrangement
  pub image : Image m arrangement
  pub more : arrangement.p < last_position
