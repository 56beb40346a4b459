-- `bits::cut` meets its contract. The bits above, put back in their place, are at most the key, so nothing is lost.
-- Assumes nothing.
use Prim.Native.Nat.{◌^◌, ◌/◌}
use mathlib.Core.Path.{◌≡◌}
use native.Mathlib.Nat.{div-mul-le_self}
use native.Mathlib.Omega.{arith}
use Rattle.bits.proofs.Part.{cut_fits}
use Rattle.bits.proofs.cut.Goals as goal

pub overflow_cast-result-2 : goal.overflow_cast-result-2
overflow_cast-result-2 c =
    let x = c.args.x in
    let h = c.args.h in
    let e : c.above.result ≡ x / 2 ^ h = c.above.ensures in
    rw (e, cut_fits x h (omega arith)) (omega (arith, div-mul-le_self x (2 ^ h)))

pub returns : goal.returns
returns c =
    let x = c.args.x in
    let h = c.args.h in
    let e : c.above.result ≡ x / 2 ^ h = c.above.ensures in
    rw (e, cut_fits x h (omega arith))
