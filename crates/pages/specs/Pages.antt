-- Feeding a log in parts: what a call does (R47), and what may be carried from one part to the next (R48).
-- Assumes nothing: these are definitions.
use Rattle.std.specs.Prelude.{ℕ, ◌+◌, ◌-◌, ◌≡◌, Bool, not, ◌&&◌, ◌||◌, List, ◌++◌, ltb, eqb, length, take}
use Rattle.std.specs.Prelude.{if◌then◌else◌}
use Rattle.record.specs.declared.answer.Answer.{Answer}
use Rattle.record.specs.Answer.{unfit_pool, output_short, torn_log, impossible_length}
use Rattle.record.specs.Reader.{front}
use Rattle.record_log.specs.Log.{max_length, length_at, past_at, impossible}
use Rattle.meld.specs.declared.melding.Melded.{Melded}
use Rattle.meld.specs.Melds.{Melds}
use Rattle.pages.specs.declared.told.Happened.{Happened}
use Rattle.pages.specs.declared.told.Happened.TheVariants.{Decided, Refused, More, End}
use Rattle.pages.specs.declared.told.Fed.{Fed}

-- WHAT IS CARRIED, AND WHAT IS IN

-- R47: the bytes of a carry, as many as the longest record has
abbrev pub carry_size : ℕ
carry_size = max_length + 2

-- R48: what may be carried: fewer than two bytes, or two of a length that cannot be, or fewer than a length that can be asks for
abbrev pub may_carry : List ℕ → ℕ → Bool
may_carry carry carried =
    ltb carried 2
    || (if impossible (length_at carry 0) then eqb carried 2 else ltb carried (past_at carry 0))

-- R47: the bytes that are in: those carried, and the part behind them
abbrev pub bytes_in : List ℕ → ℕ → List ℕ → List ℕ
bytes_in carry carried part = take carried carry ++ part

-- R47: the two bytes of a length are there, and it cannot be
abbrev pub cannot_be : List ℕ → Bool
cannot_be bytes = not (ltb (length bytes) 2) && impossible (length_at bytes 0)

-- R47: the last byte of the record at the front is there
abbrev pub whole_in : List ℕ → Bool
whole_in bytes = not (ltb (length bytes) 2) && not (ltb (length bytes) (past_at bytes 0))

-- R47: that record
abbrev pub record_in : List ℕ → List ℕ
record_in bytes = take (past_at bytes 0) bytes

-- THE TABLE OF R47

-- R47: its rows
pub data FeedRow : Type 0 where
  -- no call could leave this carry with so many bytes
  wrong_carry : FeedRow
  -- a length that cannot be is carried, or is in with this part
  stuck : FeedRow
  cannot_go_on : FeedRow
  -- the record's last byte is in
  record_whole : FeedRow
  -- it is not, and the log is not over; or is over, with nothing in, or within a record
  goes_on : FeedRow
  at_end : FeedRow
  torn : FeedRow

-- R47: the first of them that applies
unfoldable pub feed_row : List ℕ → ℕ → List ℕ → Bool → FeedRow
feed_row carry carried part over =
    if not (eqb (length carry) carry_size && may_carry carry carried) then wrong_carry else
    if cannot_be (take carried carry) then stuck else
    if cannot_be (bytes_in carry carried part) then cannot_go_on else
    if whole_in (bytes_in carry carried part) then record_whole else
    if not over then goes_on else
    if eqb (carried + length part) 0 then at_end else
    torn

-- R47: what is given back where no record was decided: no looks
abbrev pub undecided : Happened → ℕ → ℕ → Fed
undecided what taken carried = record { happened = what; looks = 0; taken = taken; carried = carried }

-- R47: a refusal that takes nothing
abbrev pub refusing : Answer → ℕ → Fed
refusing a carried = undecided (Refused a) 0 carried

-- R47: what is given back, and the pool and the carry afterwards
pub record Leaves (x : Fed) (m carry : List ℕ) (r : Fed) (m' carry' : List ℕ) : Type 0 where
  pub said : r ≡ x
  pub pool : m' ≡ m
  pub carry_is : carry' ≡ carry

-- R19: meld has answered 7
abbrev pub is_unfit : Melded → Bool
is_unfit a = eqb a.answer.number unfit_pool.number

-- R47: what is given back where the record's last byte is in, and meld has answered so
abbrev pub fed_by : Melded → ℕ → List ℕ → Fed
fed_by a carried bytes =
    if is_unfit a then refusing unfit_pool carried else
    record { happened = Decided a.answer; looks = a.looks; taken = past_at bytes 0 - carried; carried = 0 }

-- R47: the carry then: with 7 as it was, and with nothing carried before; else the record is at its front
abbrev pub carry_by : Melded → List ℕ → ℕ → List ℕ → List ℕ
carry_by a carry carried bytes =
    if is_unfit a then carry else
    if eqb carried 0 then carry else
    front (record_in bytes) carry

-- R47: the record's last byte is in: what meld answers to the record, and the pool that it leaves
pub record RecordDecided (m carry : List ℕ) (carried : ℕ) (bytes : List ℕ) (r : Fed) (m' carry' : List ℕ) : Type 0 where
  pub melded : Melded
  pub melds : Melds m (record_in bytes) m' melded
  pub said : r ≡ fed_by melded carried bytes
  pub carry_is : carry' ≡ carry_by melded carry carried bytes

-- R47: what each row says
abbrev pub FeedsAs : FeedRow → List ℕ → List ℕ → ℕ → List ℕ → Fed → List ℕ → List ℕ → Type 0
FeedsAs wrong_carry m carry carried part = Leaves (refusing output_short carried) m carry
FeedsAs stuck m carry carried part = Leaves (refusing impossible_length carried) m carry
FeedsAs cannot_go_on m carry carried part =
    Leaves (undecided (Refused impossible_length) (2 - carried) 2) m (front (take 2 (bytes_in carry carried part)) carry)
FeedsAs record_whole m carry carried part = RecordDecided m carry carried (bytes_in carry carried part)
FeedsAs goes_on m carry carried part = Leaves (undecided More (length part) (carried + length part)) m (front (bytes_in carry carried part) carry)
FeedsAs at_end m carry carried part = Leaves (undecided End 0 0) m carry
FeedsAs torn m carry carried part = Leaves (refusing torn_log carried) m carry

-- R47: the promise of `feed`, for any bytes lent: what is given back, and the pool and the carry afterwards
pub record Feeds (m carry : List ℕ) (carried : ℕ) (part : List ℕ) (over : Bool) (r : Fed) (m' carry' : List ℕ) : Type 0 where
  pub as_said : FeedsAs (feed_row carry carried part over) m carry carried part r m' carry'
