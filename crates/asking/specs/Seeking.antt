-- A log read through a window: the records before a position are melded one by one, and the next is explained (R52).
-- What a read brings is not said: it is what the window holds behind the bytes held before.
-- Assumes nothing: these are definitions.
use Rattle.std.specs.Prelude.{◌≡◌, ℕ, ◌+◌, ◌≤◌, Bool, true, false, ◌⊎◌, List, [], ◌++◌, length, take, drop, Result, Ok, Err, IsOk, IsErr, IfOk}
use Rattle.record_log.specs.declared.found.Cut.{Cut}
use Rattle.record_log.specs.declared.found.Cut.TheVariants.{Record}
use Rattle.record_log.specs.Log.{CutIs, part_of}
use Rattle.meld.specs.declared.melding.Melded.{Melded}
use Rattle.meld.specs.Melds.{Melds}
use Rattle.demands.specs.Runs.{PoolAt, Whole}
use Rattle.asking.specs.declared.window.Front.{Front}
use Rattle.asking.specs.declared.window.Stop.{Stop}
use Rattle.asking.specs.declared.window.Stop.TheVariants as Stops
use Rattle.asking.specs.declared.telling.Told.{Told}
use Rattle.asking.specs.declared.telling.Told.TheVariants as Tolds
use Rattle.asking.specs.declared.telling.Unread.{Unread}
use Rattle.asking.specs.Window.{held_now, Looked, Shifted}
use Rattle.asking.specs.Told.{Tells}

-- what the reads of a look have brought: the bytes held behind those held before
abbrev pub brought_by : {held : ℕ} {window filled : List ℕ} {seen : Result Front Stop} → Looked held window filled seen → List ℕ
brought_by {held} {filled = filled} {seen = seen} looked = drop held (take (held_now seen) filled)

-- the record at the window's front melded, and the window moved past it
pub record PassIs (held : ℕ) (m window m' window' : List ℕ) (left : ℕ) : Type 0 where
  pub front : Front
  pub filled : List ℕ
  pub looked : Looked held window filled (Ok front)
  pub answer : Melded
  pub melds : Melds m (take front.next filled) m' answer
  pub shifted : Shifted front.next front.held filled window' left

-- a step: a record is passed; or no record stands there, or a read failed, and then the pool is as it was
abbrev pub PassedBy : (held : ℕ) (m window m' window' : List ℕ) → Result ℕ Stop → Type 0
PassedBy held m window m' window' (Ok left) = PassIs held m window m' window' left
PassedBy held m window m' window' (Err stop) = Looked held window window' (Err stop) × (m' ≡ m)

-- what is told where no record is at the window's front, so many records into the log
abbrev pub stopped_by : Stop → ℕ → Result Told Unread
stopped_by (Stops.Unread held found) records = Err (record {})
stopped_by (Stops.Over held found) records = Ok (Tolds.Over found records)

-- records passed one after the other, from nothing held on: all that the reads have brought, how many records, how many bytes are held, and the pool
-- and the window then
pub data Passed (m window : List ℕ) : List ℕ → ℕ → ℕ → List ℕ → List ℕ → Type 0 where
  none_yet : Passed m window [] 0 0 m window
  one_more : {brought m' window' m'' window'' : List ℕ} {records held left : ℕ}
      → Passed m window brought records held m' window' → (p : PassIs held m' window' m'' window'' left)
      → Passed m window (brought ++ brought_by p.looked) (records + 1) left m'' window''

-- what is told where so many records stand before: the record at the front, explained; or why there is none
abbrev pub ToldAt : (records : ℕ) (m filled : List ℕ) → Result Front Stop → Result Told Unread → Type 0
ToldAt records m filled (Ok front) told = IfOk told (Tells m (take front.next filled)) × IsOk told
ToldAt records m filled (Err stop) told = told ≡ stopped_by stop records

-- a look, and what is told of it
pub record LooksAndTells (held records : ℕ) (m window filled : List ℕ) (told : Result Told Unread) : Type 0 where
  pub seen : Result Front Stop
  pub looked : Looked held window filled seen
  pub told_at : ToldAt records m filled seen told

-- so many records are passed; where no record is left to pass, or a read fails, before that, it is told then
pub record Sought (before : ℕ) (m window m' window' : List ℕ) (told : Result Told Unread) : Type 0 where
  pub brought : List ℕ
  pub records : ℕ
  pub held : ℕ
  pub between : List ℕ
  pub passed : Passed m window brought records held m' between
  pub last : LooksAndTells held records m' between window' told
  pub few : records ≤ before
  pub all_passed : IsErr last.seen ⊎ (records ≡ before)

-- all that the reads have brought: the log
abbrev pub log_in : {before : ℕ} {m window m' window' : List ℕ} {told : Result Told Unread} → Sought before m window m' window' told → List ℕ
log_in s = s.brought ++ brought_by s.last.looked

-- R52: a record was explained
abbrev pub is_record : Told → Bool
is_record (Tolds.Limits held n z) = false
is_record (Tolds.Over found records) = false
is_record (Tolds.Unfit x) = false
is_record (Tolds.Record status x) = true

-- R52: the record that so many records of a log stand before, explained to the pool of a card that has melded these: the pool is the card's, a record
-- stands at the place that the card has come to, and its bytes are what was explained
pub record ExplainedAt (N Z : ℕ) (log : List ℕ) (before : ℕ) (m : List ℕ) (told : Told) : Type 0 where
  pub pool : PoolAt N Z log before m
  pub next : ℕ
  pub found : CutIs log pool.place (Record next)
  pub tells : Tells m (part_of (Record next) log pool.place) told

-- R52: no record has the position: a card that has melded the whole log, so many records, and what stands behind the last
pub record OverAt (N Z : ℕ) (log : List ℕ) (records : ℕ) (found : Cut) (m : List ℕ) : Type 0 where
  pub answers : List Melded
  pub whole : Whole N Z log answers found m
  pub count : length answers ≡ records
