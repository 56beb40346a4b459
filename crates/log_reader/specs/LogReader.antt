-- The log reader (R15): it holds the lent log and its own place in it. What its functions promise, in the words of
-- the log (Log.antt of `record_log`): what stands at a place, the part handed out there, and the place afterwards.
-- Assumes nothing: these are definitions.
use Rattle.std.specs.Prelude.{ℕ, ◌≡◌, List}
use Rattle.std.specs.Borrow.{Bor}
use Rattle.record_log.specs.Log.{CutIs, HandedOut, SameSlice, cut_at, place_after}
use Rattle.log_reader.specs.declared.LogReader.{LogReader}
use Rattle.log_reader.specs.declared.Step.{Step}
use Rattle.log_reader.specs.declared.Move.{Move}

-- a new reader holds the lent log, and its own place is the log's first byte
pub record Opened (lent : Bor (List ℕ)) (r : LogReader) : Type 0 where
  pub log : r.log ≡ lent
  pub place : r.place ≡ 0

-- a number is the reader's own place
abbrev pub PlaceIs : LogReader → ℕ → Type 0
PlaceIs reader n = n ≡ reader.place

-- one step: what stands at the reader's place, the part handed out there, the same lent log afterwards, and the place afterwards,
-- past a record, and unchanged with "end", 10 and 11
pub record Stepped (before after : LogReader) (r : Step) : Type 0 where
  pub found : CutIs before.log.now before.place r.found
  pub part : HandedOut before.log before.place r.part
  pub log : after.log ≡ before.log
  pub place : after.place ≡ place_after (cut_at before.log.now before.place) before.place

-- two steps are one (R43): the same case, and one slice of the log as the part
pub record SameStep (r q : Step) : Type 0 where
  pub found : r.found ≡ q.found
  pub part : SameSlice r.part q.part

-- the same step for a caller that holds no reader: what stands at the place, and the place afterwards
pub record Moved (log : List ℕ) (place : ℕ) (r : Move) : Type 0 where
  pub found : CutIs log place r.found
  pub after : r.place ≡ place_after (cut_at log place) place
