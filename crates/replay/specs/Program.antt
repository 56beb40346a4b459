-- The program of R46: its largest N.
-- Assumes nothing: these are definitions.
use Rattle.std.specs.Prelude.{ℕ, List}
use Rattle.stream.specs.declared.closing.Ending.{Ending}
use Rattle.stream.specs.Runs.{Runs}

-- the largest N that the program takes (R46)
abbrev pub largest_n : ℕ
largest_n = 65536

-- a run of the program, from the bytes that it sets aside for a pool to those left behind, and how it ends (R46)
abbrev pub ProgramRuns : List ℕ → List ℕ → Ending → Type 0
ProgramRuns = Runs largest_n
