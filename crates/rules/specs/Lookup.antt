-- Lookup (R31), over states. (7 concerns bytes.)
-- Assumes nothing: these are definitions.
use Rattle.std.specs.Prelude.{ℕ, List, [], ◌∷◌, eqb}
use Rattle.std.proofs.Math.Option.{Option, none, some}
use Rattle.std.specs.Prelude.{if◌then◌else◌}
use Rattle.rules.specs.State.{Entry, State}

-- R31: absent, or a payload and its write position
pub data Seen : Type 0 where
  absent : Seen
  found : ℕ → ℕ → Seen

-- R31: the entry of a key
abbrev pub find : ℕ → List Entry → Option Entry
find k [] = none
find k (e ∷ es) = if eqb e.key k then some e else find k es

-- R31: what is seen of a payload or a tombstone written at w
abbrev pub payload_at : ℕ → Option ℕ → Seen
payload_at w none = absent
payload_at w (some x) = found x w

-- R31: what is seen of an entry
abbrev pub seen : Option Entry → Seen
seen none = absent
seen (some e) = payload_at e.position e.payload

-- R31: what a lookup of key k sees
unfoldable pub lookup : ℕ → State → Seen
lookup k S = seen (find k S.kept)
