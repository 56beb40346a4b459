-- Demand 1: which lent bytes can differ at exit, by the answer. Functions that are lent everything by `&` change nothing: `check`, `cut`,
-- `part`, `fit`, `status`, `lookup`, `in_force`.
-- Assumes nothing: these are definitions.
use Rattle.std.specs.Prelude.{ℕ, ◌+◌, ◌≤◌, ◌<◌, ◌≡◌, ◌⊎◌, List, length, get_or, Result, Err}
use Rattle.record.specs.declared.answer.Answer.{Answer}
use Rattle.record.specs.declared.reader.Reading.{Reading}
use Rattle.record.specs.Answer.{given, committed, positions_used_up, unfit_pool, output_short, bad_limits}
use Rattle.record.specs.Reader.{Lists, points_read, scans_read}
use Rattle.pages.specs.declared.told.Happened.TheVariants.{Decided, Refused}
use Rattle.pages.specs.declared.told.Fed.{Fed}

-- R42: no more than the elements from .. to − 1 can differ, and there are as many as before
pub record Within (from to : ℕ) (before after : List ℕ) : Type 0 where
  pub size : length after ≡ length before
  pub others : (i : ℕ) → (i < from) ⊎ (to ≤ i) → get_or after i 0 ≡ get_or before i 0

-- R42: `create`: nothing on 9; on 0 the pool, whole
pub record CreateTouches (m : List ℕ) (a : Answer) (m' : List ℕ) : Type 0 where
  pub answers : (a ≡ committed) ⊎ (a ≡ bad_limits)
  pub refusal : a ≡ bad_limits → m' ≡ m
  pub commit : length m' ≡ length m

-- R29: the bytes of a pool that hold its position begin here (docs/LAYOUT.md)
abbrev pub position_from : ℕ
position_from = 12

-- R29: and end before here
abbrev pub position_to : ℕ
position_to = 16

-- R42: `meld`: nothing on 7 and 6; on 4, 5, 2, 1 and 3 the position; on 0 the pool
pub record MeldTouches (m : List ℕ) (a : Answer) (m' : List ℕ) : Type 0 where
  pub refusal : (a ≡ unfit_pool) ⊎ (a ≡ positions_used_up) → m' ≡ m
  pub abort : (a ≡ committed → ⊥) → Within position_from position_to m m'
  pub commit : length m' ≡ length m

-- R42: `feed`: the pool where a record is decided, as `meld` does; of the carry no more than the bytes taken, behind those carried; on 8 and 7
-- neither
pub record FeedTouches (m carry : List ℕ) (carried : ℕ) (r : Fed) (m' carry' : List ℕ) : Type 0 where
  pub decided : (a : Answer) → r.happened ≡ Decided a → MeldTouches m a m'
  pub undecided : ((a : Answer) → r.happened ≡ Decided a → ⊥) → m' ≡ m
  pub taken : Within carried (carried + r.taken) carry carry'
  pub refusal : (r.happened ≡ Refused output_short) ⊎ (r.happened ≡ Refused unfit_pool) → (m' ≡ m) × (carry' ≡ carry)

-- R42: `refresh`: nothing unless 0; then the front of the output, as long as the original
pub record RefreshTouches (original before : List ℕ) (a : Answer) (after : List ℕ) : Type 0 where
  pub refusal : (a ≡ committed → ⊥) → after ≡ before
  pub commit : Within 0 (length original) before after

-- R42: `write`: nothing unless 0; then the front of the output, as long as the record's size
pub record WriteTouches (before : List ℕ) (w : Result ℕ Answer) (after : List ℕ) : Type 0 where
  pub refusal : (a : Answer) → w ≡ Err a → after ≡ before
  pub commit : Within 0 (given w) before after

-- R42: `join`: nothing unless 0; then the front of the output, as long as the joined record
pub record JoinTouches (before : List ℕ) (j : Result ℕ Answer) (after : List ℕ) : Type 0 where
  pub refusal : (a : Answer) → j ≡ Err a → after ≡ before
  pub commit : Within 0 (given j) before after

-- R42: `read`: nothing unless 0; then the fronts of the lists, as many elements as there are points and scans
pub record ReadTouches (before : Lists) (r : Result Reading Answer) (after : Lists) : Type 0 where
  pub refusal : (a : Answer) → r ≡ Err a → after ≡ before
  pub kinds : Within 0 (points_read r) before.kinds after.kinds
  pub keys : Within 0 (points_read r) before.keys after.keys
  pub payloads : Within 0 (points_read r) before.payloads after.payloads
  pub lows : Within 0 (scans_read r) before.lows after.lows
  pub highs : Within 0 (scans_read r) before.highs after.highs
