-- What the functions inside the library ask of an entry that they store.
-- Assumes nothing: these are definitions.
use Rattle.std.specs.Prelude.{◌^◌, ◌<◌}
use Rattle.rules.specs.State.{Entry, Fits}

-- an entry whose key and payload fit their bytes
abbrev pub EntryFits : Entry → Type 0
EntryFits e = (e.key < 2 ^ 32) × Fits e.payload
