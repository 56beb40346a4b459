-- There and back on lists: what the writer was given and what the reader gives (R12).
-- Assumes nothing: these are definitions.
use Rattle.std.specs.Prelude.{ℕ, ◌≤◌, ◌≡◌, length, take, Result, Ok}
use Rattle.record.specs.declared.answer.Answer.{Answer}
use Rattle.record.specs.declared.reader.Reading.{Reading}
use Rattle.record.specs.Reader.{Lists}

-- R11: each of some lists has room for the list that goes into it
pub record HasRoom (l room : Lists) : Type 0 where
  pub kinds : length l.kinds ≤ length room.kinds
  pub keys : length l.keys ≤ length room.keys
  pub payloads : length l.payloads ≤ length room.payloads
  pub lows : length l.lows ≤ length room.lows
  pub highs : length l.highs ≤ length room.highs

-- R12: what the reader gives back, q, having left the lists after, is a snapshot and lists: no refusal, the snapshot, both counts, and the lists at the
-- fronts
pub record ReadBack (snapshot : ℕ) (l : Lists) (q : Result Reading Answer) (after : Lists) : Type 0 where
  pub reading_is : q ≡ Ok (record { snapshot = snapshot; points = length l.kinds; scans = length l.lows })
  pub kinds : take (length l.kinds) after.kinds ≡ l.kinds
  pub keys : take (length l.keys) after.keys ≡ l.keys
  pub payloads : take (length l.payloads) after.payloads ≡ l.payloads
  pub lows : take (length l.lows) after.lows ≡ l.lows
  pub highs : take (length l.highs) after.highs ≡ l.highs
