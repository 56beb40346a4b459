-- What a value is in a state.
-- Assumes nothing: these are definitions.
use Rattle.std.specs.Prelude as Code
use Rattle.std.specs.Prelude.{ℕ, Some, None}
use Rattle.std.proofs.Math.Option.{Option, none, some}
use Rattle.rules.specs.State.{Entry}

-- what a put or a delete stores for a key: the payload, or none for a tombstone
abbrev pub Value : Type 0
Value = Code.Option ℕ

-- the same as an entry has it
abbrev pub payload_stored : Value → Option ℕ
payload_stored (Some x) = some x
payload_stored None = none

-- the entry that is stored for a key at position p
abbrev pub entry_of : ℕ → ℕ → Value → Entry
entry_of k p v = record { key = k; position = p; payload = payload_stored v }
