-- What a record names or scans, and what it writes. Everything else cites these two definitions, `reach` and `writes_of`.
-- Assumes nothing: these are definitions.
use Rattle.std.specs.Prelude.{ℕ, ◌+◌, Bool, true, false, ◌&&◌, List, [], ◌∷◌, ◌++◌, map, ltb, leb}
use Rattle.std.proofs.Math.Option.{Option, none, some}
use Rattle.record.specs.Record.{Rec, key_of}
use Rattle.record.specs.declared.point.Point.{Point}
use Rattle.record.specs.declared.point.Point.TheVariants.{Read, Put, Delete}
use Rattle.record.specs.declared.point.Scan.{Scan}
use Rattle.rules.specs.Lists.{any, keep}
use Rattle.rules.specs.State.{Entry, State, is_live}
use Rattle.rules.specs.Lookup.{find}

-- R21: a point names its key: it is the scan from the key to the key
abbrev pub named : Point → Scan
named q = record { low = key_of q; high = key_of q }

-- R21: the key of each point, and every key that a scan covers
unfoldable pub reach : Rec → List Scan
reach r = map named r.points ++ r.scans

-- R21: something of a scan lies in from .. to − 1
abbrev pub lies : ℕ → ℕ → Scan → Bool
lies from to c = ltb c.low to && leb from c.high

-- R21: something of what a record names or scans lies in from .. to − 1
unfoldable pub meets : List Scan → ℕ → ℕ → Bool
meets f from to = any (lies from to) f

-- R28: what these points store at position v: a put its payload, a delete a tombstone; anything else is passed over
abbrev pub stored_at : ℕ → List Point → List Entry
stored_at v [] = []
stored_at v (Read k ∷ ps) = stored_at v ps
stored_at v (Put k x ∷ ps) = record { key = k; position = v; payload = some x } ∷ stored_at v ps
stored_at v (Delete k ∷ ps) = record { key = k; position = v; payload = none } ∷ stored_at v ps

-- R17: a key under which this is found is live: it is kept, and has no tombstone
abbrev pub live_at : Option Entry → Bool
live_at none = false
live_at (some e) = is_live e.payload

-- R22: a put writes its key, and a delete does if the key is live in the state
abbrev pub writes : State → Point → Bool
writes S (Read k) = false
writes S (Put k x) = true
writes S (Delete k) = live_at (find k S.kept)

-- R22 and R28: what the points of a record write at p + 1, for the state at p
unfoldable pub writes_of : State → List Point → List Entry
writes_of S ps = stored_at (S.p + 1) (keep (writes S) ps)
