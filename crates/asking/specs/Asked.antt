-- A whole question about a log: the limits read, the pool for them made, and the record sought (R52).
-- Assumes nothing: these are definitions.
use Rattle.std.specs.Prelude.{◌≡◌, ℕ, true, false, List, ◌++◌, take, drop, Result, Ok, Err}
use Rattle.record.specs.declared.answer.Answer.{Answer}
use Rattle.lines.specs.Opening.{limit_n, limit_z, Opens}
use Rattle.stream.specs.declared.input.Filled.{Filled}
use Rattle.stream.specs.Runs.{Head}
use Rattle.asking.specs.declared.telling.Told.{Told}
use Rattle.asking.specs.declared.telling.Told.TheVariants.{Limits}
use Rattle.asking.specs.declared.telling.Unread.{Unread}
use Rattle.asking.specs.Seeking.{Sought}

-- where a read of the limits fails, that is told; where no pool is made for them, they are; else the record is sought, in the log behind them, with
-- the pool made at the front of the bytes lent. The bytes behind it are as they were
pub data AsksLog (most before : ℕ) (m window : List ℕ) : List ℕ → List ℕ → Result Told Unread → Type 0 where
  limits_unread : {head : List ℕ} {r : Filled} {unread : Unread} → Head head r → r.failed ≡ true → AsksLog most before m window m window (Err unread)
  refused : {head m' : List ℕ} {r : Filled} {answer : Answer}
      → Head head r → r.failed ≡ false → Opens most m (take r.held head) (Err answer) m'
      → AsksLog most before m window m' window (Ok (Limits r.held (limit_n head) (limit_z head)))
  sought : {head m' new window' : List ℕ} {r : Filled} {size : ℕ} {told : Result Told Unread}
      → Head head r → r.failed ≡ false → Opens most m (take r.held head) (Ok size) m'
      → Sought before (take size m') window new window' told → AsksLog most before m window (new ++ drop size m') window' told
