-- Conflict in a log, said by the log's writers and not by the kept keys (R25).
-- Assumes nothing: these are definitions.
use Rattle.std.specs.Prelude.{ℕ, ◌-◌, ◌≤◌, ◌<◌, ◌≡◌}
use Rattle.std.proofs.Math.Option.{Option, some}
use Rattle.record.specs.Record.{Rec}
use Rattle.rules.specs.State.{fresh, last_position}
use Rattle.rules.specs.Log.{Log, after}
use Rattle.rules.specs.Demands.{Beaten}

-- R25: after this log from a new pool a position is left, m is a well-formed record, neither ahead nor too old there, and a committed
-- record of the log wrote a key that it names or scans at one of the positions s + 1 to p
pub record Conflicted (N Z : ℕ) (log : Log) (m : Option Rec) : Type 0 where
  pub position_left : (after (fresh N Z) log).p < last_position
  pub r : Rec
  pub well_formed : m ≡ some r
  pub not_ahead : r.snapshot ≤ (after (fresh N Z) log).p
  pub not_too_old : (after (fresh N Z) log).p - r.snapshot ≤ Z
  pub beaten : Beaten N Z log r
