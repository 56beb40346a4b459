-- The program of R52: its largest N.
-- Assumes nothing: these are definitions.
use Rattle.std.specs.Prelude.{ℕ, List, Result}
use Rattle.asking.specs.declared.telling.Told.{Told}
use Rattle.asking.specs.declared.telling.Unread.{Unread}
use Rattle.asking.specs.Asked.{AsksLog}

-- the largest N that the program takes (R52)
abbrev pub largest_n : ℕ
largest_n = 65536

-- a question about a log, for the record that so many records stand before: the bytes for a pool and the window, before and after, and what is told (R52)
abbrev pub ProgramAsks : ℕ → List ℕ → List ℕ → List ℕ → List ℕ → Result Told Unread → Type 0
ProgramAsks = AsksLog largest_n
