-- What is kept under a key: nothing, a payload, or a tombstone.
-- Assumes nothing: these are definitions.
use Rattle.std.specs.Prelude.{ℕ, List}
use Rattle.std.proofs.Math.Option.{Option, none, some}
use Rattle.rules.specs.State.{Entry}
use Rattle.rules.specs.Lookup.{Seen, absent, found, find}
use Rattle.find.specs.declared.Found.{Found}
use Rattle.find.specs.declared.Found.TheVariants.{Absent, Live, Tombstone}

-- a payload and its write position, or a tombstone's
abbrev pub found_at : ℕ → Option ℕ → Found
found_at w none = Tombstone w
found_at w (some x) = Live x w

-- what an entry is found as
abbrev pub found_of : Option Entry → Found
found_of none = Absent
found_of (some e) = found_at e.position e.payload

-- what these entries hold under a key
unfoldable pub found_in : ℕ → List Entry → Found
found_in k es = found_of (find k es)

-- as a lookup sees it (R31): a tombstone is absent
abbrev pub seen_as : Found → Seen
seen_as Absent = absent
seen_as (Live x w) = found x w
seen_as (Tombstone w) = absent
