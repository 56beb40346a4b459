-- The limits, read into eight bytes (specs/Runs.antt).
-- Assumes nothing.
use Rattle.std.proofs.Common.{ℕ, List, replicate, refl}
use Rattle.stream.specs.declared.input.Filled.{Filled}
use Rattle.stream.specs.Buffer.{FilledUp}
use Rattle.stream.specs.Runs.{Head}

pub limits_read : {head : List ℕ} {r : Filled} → FilledUp 0 (replicate 8 0) head r → Head head r
limits_read f = record { before = replicate 8 0; eight = refl; filled = f }
