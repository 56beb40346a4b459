-- What the exported functions of the record part promise, in `record_abi` and in `abi`; and what the numbers of a cut say.
-- Assumes nothing: these are definitions.
use Rattle.std.specs.Prelude.{ℕ, ◌<◌, ◌≡◌, List, Result}
use Rattle.record.specs.declared.answer.Answer.{Answer}
use Rattle.record.specs.declared.reader.Reading.{Reading}
use Rattle.record.specs.Reader.{Lists, ReadsAs}
use Rattle.writer.specs.Writer.{WritesAs}
use Rattle.joiner.specs.Joiner.{JoinsAs}
use Rattle.record.specs.Parse.{CheckIs}
use Rattle.record_log.specs.declared.found.Cut.TheVariants.{End, Torn, Impossible, Record}
use Rattle.record_log.specs.Log.{cut_at}
use Rattle.record_abi.specs.declared.numbers.CutNumbers.{CutNumbers}
use Rattle.record_abi.specs.declared.numbers.ReadingNumbers.{ReadingNumbers}
use Rattle.record_abi.specs.declared.numbers.SizeNumbers.{SizeNumbers}
use Rattle.record_abi.specs.Numbers.{answer, of_reading, of_size, of_cut}

-- the number of the check's answer (R11)
abbrev pub ChecksAs : List ℕ → ℕ → Type 0
ChecksAs bytes n = CheckIs bytes (answer n)

-- R11, of the numbers: they are those of what the reader gives back
pub record ReadsInNumbers (bytes : List ℕ) (before : Lists) (t : ReadingNumbers) (after : Lists) : Type 0 where
  pub said : Result Reading Answer
  pub reads : ReadsAs bytes before said after
  pub told : t ≡ of_reading said

-- R10, of the numbers: they are those of what the writer gives back
pub record WritesInNumbers (snapshot : ℕ) (l : Lists) (before : List ℕ) (t : SizeNumbers) (after : List ℕ) : Type 0 where
  pub said : Result ℕ Answer
  pub writes : WritesAs snapshot l before said after
  pub told : t ≡ of_size said

-- R56, of the numbers: they are those of what the joiner gives back
pub record JoinsInNumbers (a b before : List ℕ) (t : SizeNumbers) (after : List ℕ) : Type 0 where
  pub said : Result ℕ Answer
  pub joins : JoinsAs a b before said after
  pub told : t ≡ of_size said

-- what is told of a place of a log, as numbers (R14)
abbrev pub CutsAs : List ℕ → ℕ → CutNumbers → Type 0
CutsAs log place t = t ≡ of_cut (cut_at log place) place

-- 10 says that the log is torn there, 11 that the length is impossible; 0 with the same place that it ends there; 0 with a later place that a record stands there
pub record CutTells (log : List ℕ) (place n next : ℕ) : Type 0 where
  pub torn_is : n ≡ 10 → cut_at log place ≡ Torn
  pub impossible_is : n ≡ 11 → cut_at log place ≡ Impossible
  pub end_is : n ≡ 0 → next ≡ place → cut_at log place ≡ End
  pub record_is : n ≡ 0 → place < next → cut_at log place ≡ Record next
