-- A log of records, melded one after the other, and who wrote what in it.
-- Assumes nothing: these are definitions.
use Rattle.std.specs.Prelude.{ℕ, ◌≡◌, Bool, true, false, ◌&&◌, leb, take}
use mathlib.Core.List.{List, [], ◌∷◌, ◌++◌, Memᴰ as Mem}
use Rattle.std.proofs.Math.Option.{Option, some}
use Rattle.record.specs.Record.{Rec, Valid}
use Rattle.record.specs.declared.point.Point.{Point}
use Rattle.record.specs.declared.point.Scan.{Scan}
use Rattle.std.specs.Prelude.{if◌then◌else◌}
use Rattle.rules.specs.Lists.{any}
use Rattle.rules.specs.State.{Entry, State, fresh}
use Rattle.rules.specs.Footprint.{writes_of}
use Rattle.rules.specs.Verdict.{Verdict, committed, conflict, too_old, no_room, malformed, ahead, positions_used_up, hits, verdict, points_of, next}

-- R13: each record as it parses, none where it is malformed
abbrev pub Log : Type 0
Log = List (Option Rec)

-- R9: a record that parses keeps the rules of a record
abbrev pub ValidIf : Option Rec → Type 0
ValidIf m = (r : Rec) → m ≡ some r → Valid r

-- R9: what parses keeps the rules of a record
abbrev pub WellFormed : Log → Type 0
WellFormed log = (r : Rec) → Mem (some r) log → Valid r

-- R30: the state after a log
unfoldable pub after : State → Log → State
after S [] = S
after S (m ∷ ms) = after (next S m) ms

-- R30: the state after the first q records of a log from a new pool
abbrev pub state_at : ℕ → ℕ → Log → ℕ → State
state_at N Z log q = after (fresh N Z) (take q log)

-- R25: only a committed record writes
abbrev pub is_writer : Verdict → Bool
is_writer committed = true
is_writer conflict = false
is_writer too_old = false
is_writer no_room = false
is_writer malformed = false
is_writer ahead = false
is_writer positions_used_up = false

-- R25: what the record after state S wrote, by its answer
abbrev pub wrote : State → List Point → Verdict → List Entry
wrote S ps a = if is_writer a then writes_of S ps else []

-- R30: the writes of the committed records, in log order
unfoldable pub commits : State → Log → List Entry
commits S [] = []
commits S (m ∷ ms) = wrote S (points_of m) (verdict S m) ++ commits (next S m) ms

-- R25: a write of a key named or scanned, at one of s + 1 to p
abbrev pub between : ℕ → ℕ → List Scan → Entry → Bool
between s p f e = hits s f e && leb e.position p

-- R25: some key named or scanned is among these writes at s + 1 to p
unfoldable pub written_in : ℕ → ℕ → List Scan → List Entry → Bool
written_in s p f es = any (between s p f) es
