-- A whole run of the program: the limits read, the pool for them made, and the log melded (R41, R46).
-- Assumes nothing: these are definitions.
use Rattle.std.specs.Prelude.{ℕ, ◌≡◌, true, false, Ok, Err, List, ◌++◌, length, take, drop}
use Rattle.pages.specs.Pages.{carry_size}
use Rattle.record.specs.declared.answer.Answer.{Answer}
use Rattle.lines.specs.Opening.{Opens}
use Rattle.stream.specs.declared.closing.Ending.{Ending}
use Rattle.stream.specs.declared.closing.Ending.TheVariants.{Limits, Unread}
use Rattle.stream.specs.declared.input.Filled.{Filled}
use Rattle.stream.specs.Buffer.{FilledUp}
use Rattle.stream.specs.Turns.{Streamed}

-- the first eight bytes of the input, as many as there are: a buffer of eight is filled
pub record Head (head : List ℕ) (r : Filled) : Type 0 where
  pub before : List ℕ
  pub eight : length before ≡ 8
  pub filled : FilledUp 0 before head r

-- what a run with a largest N makes of the bytes lent m, and how it ends. Where a read of the limits fails, no byte changes and that is
-- told. Else the pool that they ask for is made; a refusal of that ends the run with its answer. Else the log is melded into the pool
-- made, at the front of the bytes lent, and the run ends as the log does; the bytes behind the pool are as they were (R41, R46)
pub data Runs (most : ℕ) (m : List ℕ) : List ℕ → Ending → Type 0 where
  limits_unread : {head : List ℕ} {r : Filled} → Head head r → r.failed ≡ true → Runs most m m Unread
  refused : {head m' : List ℕ} {r : Filled} {answer : Answer}
      → Head head r → r.failed ≡ false → Opens most m (take r.held head) (Err answer) m' → Runs most m m' (Limits answer)
  melded : {head m' new carry page : List ℕ} {r : Filled} {size : ℕ} {last : Ending}
      → Head head r → r.failed ≡ false → Opens most m (take r.held head) (Ok size) m' → length carry ≡ carry_size
      → Streamed (take size m') carry page new last → Runs most m (new ++ drop size m') last
