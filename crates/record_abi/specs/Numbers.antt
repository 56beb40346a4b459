-- The record part's answers and results as the plain numbers that C is given.
-- Assumes nothing: these are definitions.
use Rattle.std.specs.Prelude.{ℕ, Result, Ok, Err}
use Rattle.std.proofs.Math.Option.{Option, none, some}
use Rattle.words.specs.Choice.{value_or}
use Rattle.record.specs.declared.answer.Answer.{Answer}
use Rattle.record.specs.declared.reader.Reading.{Reading}
use Rattle.record_log.specs.declared.found.Cut.{Cut}
use Rattle.record_log.specs.Log.{CutTold, cut_told}
use Rattle.record_abi.specs.declared.numbers.CutNumbers.{CutNumbers}
use Rattle.record_abi.specs.declared.numbers.ReadingNumbers.{ReadingNumbers}
use Rattle.record_abi.specs.declared.numbers.SizeNumbers.{SizeNumbers}

-- the answer with a number (R3)
abbrev pub answer : ℕ → Answer
answer n = record { number = n }

-- the four numbers of a reading: the answer's, the snapshot and both counts
abbrev pub reading : ℕ → ℕ → ℕ → ℕ → ReadingNumbers
reading n s points scans = record { number = n; snapshot = s; points = points; scans = scans }

-- so 0 with what was read, and a refusal's number with three times 0 (R11)
abbrev pub of_reading : Result Reading Answer → ReadingNumbers
of_reading (Ok q) = reading 0 q.snapshot q.points q.scans
of_reading (Err a) = reading a.number 0 0 0

-- the two numbers of a record that was written or joined: the answer's and the size
abbrev pub sized : ℕ → ℕ → SizeNumbers
sized n size = record { number = n; size = size }

-- so 0 with the size, and a refusal's number with 0 (R10, R56)
abbrev pub of_size : Result ℕ Answer → SizeNumbers
of_size (Ok size) = sized 0 size
of_size (Err a) = sized a.number 0

-- the two numbers of a cut
abbrev pub found : ℕ → ℕ → CutNumbers
found n next = record { number = n; next = next }

-- the number of what is told: the rules', or 0 where they have none
abbrev pub number_in : Option Answer → ℕ
number_in none = 0
number_in (some a) = a.number

-- what is told of a place, as numbers: the place stays where no record is handed out
abbrev pub cut_numbers : CutTold → ℕ → CutNumbers
cut_numbers t place = found (number_in t.answer) (value_or place t.past)

-- so 10 and the place for a torn log, 11 and the place for an impossible length; 0 and the place at the end; 0 and the place past a record (R14)
abbrev pub of_cut : Cut → ℕ → CutNumbers
of_cut c place = cut_numbers (cut_told c) place
