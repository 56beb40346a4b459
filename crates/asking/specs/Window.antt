-- The window on a log: at its front are held the bytes from the log's place on (R52).
-- Assumes nothing: these are definitions.
use Rattle.std.specs.Prelude.{◌≡◌, ℕ, ◌-◌, Bool, true, false, List, length, take, drop, Result, Ok, Err}
use Rattle.record_log.specs.declared.found.Cut.{Cut}
use Rattle.record_log.specs.declared.found.Cut.TheVariants.{Record}
use Rattle.record_log.specs.Log.{CutIs}
use Rattle.stream.specs.Buffer.{FilledUp}
use Rattle.demands.specs.Runs.{is_over}
use Rattle.asking.specs.declared.window.Front.{Front}
use Rattle.asking.specs.declared.window.Stop.{Stop}
use Rattle.asking.specs.declared.window.Stop.TheVariants as Stops

-- a read failed
abbrev pub is_unread : Result Front Stop → Bool
is_unread (Ok front) = false
is_unread (Err (Stops.Unread held found)) = true
is_unread (Err (Stops.Over held found)) = false

-- how many bytes are held then
abbrev pub held_now : Result Front Stop → ℕ
held_now (Ok front) = front.held
held_now (Err (Stops.Unread held found)) = held
held_now (Err (Stops.Over held found)) = held

-- what stands at their front
abbrev pub found_now : Result Front Stop → Cut
found_now (Ok front) = Record front.next
found_now (Err (Stops.Unread held found)) = found
found_now (Err (Stops.Over held found)) = found

-- what stands at the front of the bytes held, where no read failed: a record, or none (R14)
abbrev pub Shows : (held : ℕ) (window : List ℕ) → Result Front Stop → Type 0
Shows held window (Ok front) = (front.held ≡ held) × CutIs (take held window) 0 (Record front.next)
Shows held window (Err (Stops.Unread held' found)) = Unit {0}
Shows held window (Err (Stops.Over held' found)) = CutIs (take held window) 0 found × is_over found

-- the window filled up behind the bytes held, and what stands at its front then, behind a failed read too (R14)
pub record Looked (held : ℕ) (window filled : List ℕ) (r : Result Front Stop) : Type 0 where
  pub filled_up : FilledUp held window filled (record { held = held_now r; failed = is_unread r })
  pub found : CutIs (take (held_now r) filled) 0 (found_now r)
  pub shows : Shows (held_now r) filled r

-- what was held behind the first bytes stands at the front, and is all that is held
pub record Shifted (past held : ℕ) (window shifted : List ℕ) (left : ℕ) : Type 0 where
  pub moved : take left shifted ≡ drop past (take held window)
  pub as_long : length shifted ≡ length window
  pub left_is : left ≡ held - past
