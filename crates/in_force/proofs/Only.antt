-- No second answer meets the promise of `in_force`: the bytes of the slice and where it lies are fixed.
-- Assumes nothing.
use mathlib.Core.Path.{sym, ◌∙◌}
use mathlib.Core.List.{List}
use Prim.Native.Nat.{ℕ}
use denote.Ref.{Bor}
use Rattle.record.specs.declared.answer.Answer.{Answer}
use Rattle.record_log.specs.Log.{SameSlice}
use Rattle.in_force.specs.InForce.{InForce}

pub in_force_only : (a : Answer) (o b r q : Bor (List ℕ)) → InForce a o b r → InForce a o b q → SameSlice r q
in_force_only a o b r q x y = record { bytes = x.bytes ∙ sym y.bytes; block = x.block ∙ sym y.block; start = x.start ∙ sym y.start }
