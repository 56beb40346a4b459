-- Reading: bytes are read behind those held (R41, R52).
-- What a read brings is not said: no definition can speak of a program's input. What is made of the number that it answers is said.
-- Assumes nothing: these are definitions.
use Rattle.std.specs.Prelude.{ℕ, ◌+◌, ◌-◌, ◌≤◌, ◌≡◌, Bool, true, false, List, Result, Ok, Err, min, length, take}
use Rattle.std.specs.declared.io.Error.{Error}
use Rattle.stream.specs.declared.input.Filled.{Filled}

-- a read failed: it answers an error
abbrev pub failed_by : Result ℕ Error → Bool
failed_by (Ok n) = false
failed_by (Err e) = true

-- how many bytes a read has brought, where there is room for so many: none where it failed
abbrev pub count_of : Result ℕ Error → ℕ → ℕ
count_of (Ok n) room = min n room
count_of (Err e) room = 0

-- what is told of a read's answer, for a buffer of a length with some bytes held: so many more are held, none where the read failed
abbrev pub filled_by : Result ℕ Error → ℕ → ℕ → Filled
filled_by got held size = record { held = held + count_of got (size - held); failed = failed_by got }

-- after a read behind the bytes held: what is told is what the read answered, and the bytes of before are as they were
pub record Refilled (held : ℕ) (before after : List ℕ) (r : Filled) : Type 0 where
  pub as_long : length after ≡ length before
  pub kept : take held after ≡ take held before
  pub got : Result ℕ Error
  pub told : r ≡ filled_by got held (length before)
  pub least : held ≤ r.held
  pub most : r.held ≤ length after

-- reads one behind the other, from some bytes held on, each of which brought something: how many bytes are held by now
pub data Reads (held₀ : ℕ) (before : List ℕ) : ℕ → List ℕ → Type 0 where
  none_yet : Reads held₀ before held₀ before
  one_more : {held : ℕ} {after after' : List ℕ} {r : Filled}
      → Reads held₀ before held after → Refilled held after after' r → (r.held ≡ held → ⊥) → Reads held₀ before r.held after'

-- reads until all bytes are held, and then none has failed; or until a read brought nothing, and then what is told of that read is told
pub data FilledUp (held₀ : ℕ) (before : List ℕ) : List ℕ → Filled → Type 0 where
  full : {after : List ℕ} {held : ℕ}
      → Reads held₀ before held after → length before ≤ held → FilledUp held₀ before after (record { held = held; failed = false })
  stopped : {held : ℕ} {after after' : List ℕ} {r : Filled}
      → Reads held₀ before held after → Refilled held after after' r → r.held ≡ held → FilledUp held₀ before after' r
