-- What the steps of `feed` promise.
-- Assumes nothing: these are definitions.
use Rattle.std.specs.Prelude.{ℕ, ◌+◌, ◌-◌, ◌≤◌, ◌≡◌, Bool, not, List, ltb, eqb, length, take}
use Rattle.std.specs.Prelude.{if◌then◌else◌}
use Rattle.record.specs.Answer.{impossible_length}
use Rattle.record.specs.Reader.{front}
use Rattle.record_log.specs.Log.{length_at, past_at, impossible}
use Rattle.meld.specs.declared.melding.Melded.{Melded}
use Rattle.pages.specs.declared.carry.Begun.{Begun}
use Rattle.pages.specs.declared.carry.Begun.TheVariants.{Short, Impossible, Sized}
use Rattle.pages.specs.declared.told.Happened.TheVariants.{Decided, Refused}
use Rattle.pages.specs.declared.told.Fed.{Fed}
use Rattle.pages.specs.Pages.{bytes_in, FeedRow, goes_on, at_end, torn, undecided}

-- what a length says of its record
abbrev pub sized_by : ℕ → Begun
sized_by n = if impossible n then Impossible else Sized (2 + n)

-- how far the record is that begins with some bytes
abbrev pub begun_in : List ℕ → Begun
begun_in bytes = if ltb (length bytes) 2 then Short else sized_by (length_at bytes 0)

-- R47's last three rows, for so many bytes in
abbrev pub wait_row : Bool → ℕ → FeedRow
wait_row over n = if not over then goes_on else if eqb n 0 then at_end else torn

-- the two bytes of a length are in, and no more of them carried
pub record LengthIn (carry : List ℕ) (carried : ℕ) (part : List ℕ) : Type 0 where
  pub no_more : carried ≤ 2
  pub both : 2 ≤ carried + length part
  pub room : 2 ≤ length carry

-- 11, the two bytes at the carry's front, and of the part those that were new
pub record KeepsLength (carry : List ℕ) (carried : ℕ) (part : List ℕ) (r : Fed) (carry' : List ℕ) : Type 0 where
  pub said : r ≡ undecided (Refused impossible_length) (2 - carried) 2
  pub carry_is : carry' ≡ front (take 2 (bytes_in carry carried part)) carry

-- the record's last byte is in, and the carry has room for it
pub record Complete (carry : List ℕ) (carried : ℕ) (part : List ℕ) (size : ℕ) : Type 0 where
  pub size_is : size ≡ past_at (bytes_in carry carried part) 0
  pub begun : carried ≤ size
  pub ends : size ≤ carried + length part
  pub room : size ≤ length carry

-- what is told of a verdict
abbrev pub decided : Melded → ℕ → Fed
decided a taken = record { happened = Decided a.answer; looks = a.looks; taken = taken; carried = 0 }
