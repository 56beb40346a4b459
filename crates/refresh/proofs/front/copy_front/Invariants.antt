-- `front::copy_front`: the output is what it was with the first i bytes of the source at its front (Copies.antt).
use Prim.Native.Nat.{◌≤◌}
use mathlib.Core.Path.{◌≡◌}
use lib.ListN.{length}
use lib.Seq.{paste}
use Rattle.refresh.proofs.front.copy_front.Given as goal

abbrev pub invariant-loop-i : goal.invariant-loop-i
invariant-loop-i l = (l.output ≡ paste l.initial.output 0 l.source l.i) × (l.i ≤ length l.source) × (length l.output ≡ length l.initial.output)
