-- `carry::put_behind`: the carry is what it was with the first i bytes of the part behind those carried (Stored.antt).
use Prim.Native.Nat.{◌≤◌}
use mathlib.Core.Path.{◌≡◌}
use lib.ListN.{length}
use lib.Seq.{paste}
use Rattle.pages.proofs.carry.put_behind.Given as goal

abbrev pub invariant-loop-i : goal.invariant-loop-i
invariant-loop-i l = (l.carry ≡ paste l.initial.carry l.carried l.part l.i) × (l.i ≤ length l.part) × (length l.carry ≡ length l.initial.carry)
