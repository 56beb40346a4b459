-- The nine numbers of an explanation (R52).
-- Assumes nothing: these are definitions.
use Rattle.std.specs.Prelude.{ℕ, ◌+◌, ◌%◌, ◌^◌}
use Rattle.words.specs.Choice.{value_or}
use Rattle.meld.specs.declared.kept.Status.{Status}
use Rattle.reason.specs.declared.told.Explained.{Explained}
use Rattle.reason.specs.Reason.{reason_told}
use Rattle.asking.specs.declared.line.Numbers.{Numbers}

-- the position behind a position, in 32 bits: 0 behind the last (R52)
abbrev pub position_for : ℕ → ℕ
position_for position = (position + 1) % 2 ^ 32

-- R52: the position, the answer and the looks, and what the reason tells; what it does not tell is 0
abbrev pub numbers_of : Status → Explained → Numbers
numbers_of status x =
    record {
      position = position_for status.position;
      answer = x.answer.number;
      looks = x.looks;
      key = value_or 0 (reason_told x.reason).key;
      written = value_or 0 (reason_told x.reason).position;
      point = value_or 0 (reason_told x.reason).point;
      scan = value_or 0 (reason_told x.reason).scan;
      lag = value_or 0 (reason_told x.reason).lag;
      keys = value_or 0 (reason_told x.reason).keys;
    }
