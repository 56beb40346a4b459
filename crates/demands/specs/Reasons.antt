-- The reason of an answer at a pool of a log, said by the log's records and not by the pool's keys (R50, R51).
-- Assumes nothing: these are definitions.
use Rattle.std.specs.Prelude.{ℕ, ◌+◌, ◌-◌, ◌≤◌, ◌<◌, ◌≡◌, ◌⊎◌, length}
use mathlib.Core.List.{◌∷◌, ◌++◌, Memᴰ as Mem}
use Rattle.std.proofs.Math.Option.{Option, none, some}
use Rattle.record.specs.declared.answer.Answer.{Answer}
use Rattle.record.specs.Answer as Names
use Rattle.record.specs.Record.{Rec}
use Rattle.rules.specs.State.{Entry, fresh}
use Rattle.rules.specs.Footprint.{writes_of}
use Rattle.rules.specs.Verdict.{committed, count, verdict, next}
use Rattle.rules.specs.Log.{Log, after, commits}
use Rattle.rules.specs.Demands.{Reaches, last_write}
use Rattle.reason.specs.declared.told.Touch.{Touch}
use Rattle.reason.specs.declared.told.Reason.{Reason}
use Rattle.reason.specs.declared.told.Reason.TheVariants.{Conflict, TooOld, NoRoom}
use Rattle.reason.specs.Reason.{TouchedBy}

-- 1 CONFLICT

-- R51: after this log from a new pool, key k and position w are what has beaten record r
pub record BeatenBy (N Z : ℕ) (log : Log) (r : Rec) (k w : ℕ) : Type 0 where
  -- the last committed record of the log that wrote the key did so at that position
  pub write : Entry
  pub last : last_write k none (commits (fresh N Z) log) ≡ some write
  pub of_key : write.key ≡ k
  pub at_position : write.position ≡ w
  -- it is one of s + 1 to p
  pub above : r.snapshot < w
  pub within : w ≤ (after (fresh N Z) log).p
  -- no committed record of the log wrote a smaller key that r names or scans at one of these positions
  pub no_smaller : (e : Entry) → Mem e (commits (fresh N Z) log) → Reaches r e.key → r.snapshot < e.position → e.position ≤ (after (fresh N Z) log).p → k ≤ e.key

-- R51: that is, record number w of the log committed and wrote key k, and no committed record behind it did
pub record LastWriter (N Z : ℕ) (log : Log) (k w : ℕ) : Type 0 where
  pub before : Log
  pub writer : Rec
  pub behind : Log
  pub stands : log ≡ before ++ (some writer ∷ behind)
  pub number : length before + 1 ≡ w
  pub committed_there : verdict (after (fresh N Z) before) (some writer) ≡ committed
  pub wrote : (e : Entry) × Mem e (writes_of (after (fresh N Z) before) writer.points) × (e.key ≡ k)
  pub none_behind : (e : Entry) → Mem e (commits (next (after (fresh N Z) before) (some writer)) behind) → e.key ≡ k → ⊥

-- R50, R51: m is a record, and its reason names what has beaten it, and what of it touches that key
pub record Blamed (N Z : ℕ) (log : Log) (m : Option Rec) (x : Reason) : Type 0 where
  pub r : Rec
  pub well_formed : m ≡ some r
  pub k : ℕ
  pub w : ℕ
  pub touch : Touch
  pub is : x ≡ Conflict k w touch
  pub beaten_by : BeatenBy N Z log r k w
  pub touched : TouchedBy r k touch

-- 2 TOO OLD, 3 NO ROOM, AND THE OTHERS

-- R50: m is a record, its snapshot lies p − s positions back, which is more than Z, and its reason says so many
pub record Lagging (N Z : ℕ) (log : Log) (m : Option Rec) (x : Reason) : Type 0 where
  pub r : Rec
  pub well_formed : m ≡ some r
  pub not_ahead : r.snapshot ≤ (after (fresh N Z) log).p
  pub too_old : Z < (after (fresh N Z) log).p - r.snapshot
  pub is : x ≡ TooOld ((after (fresh N Z) log).p - r.snapshot)

-- R50: m is a record, the keys that R26 counts for it are more than N, and its reason says how many
pub record Crowded (N Z : ℕ) (log : Log) (m : Option Rec) (x : Reason) : Type 0 where
  pub r : Rec
  pub well_formed : m ≡ some r
  pub no_room : N < count (after (fresh N Z) log) r.points
  pub is : x ≡ NoRoom (count (after (fresh N Z) log) r.points)

-- R50: 1, 2 and 3 have a reason
abbrev pub HasReason : Answer → Type 0
HasReason a = (a ≡ Names.conflict) ⊎ ((a ≡ Names.too_old) ⊎ (a ≡ Names.no_room))
