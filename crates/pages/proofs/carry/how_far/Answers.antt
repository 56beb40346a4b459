-- `carry::how_far` meets its contract: the two bytes of the length may be carried, be in the part, or lie in both (Lengths.antt).
-- Assumes nothing.
use native.Mathlib.Omega.{arith}
use Rattle.pages.proofs.Lengths.{far_carried, far_in_both}
use Rattle.pages.proofs.carry.how_far.Goals as goal

pub returns-then-carried-ge2 : goal.returns-then-carried-ge2
returns-then-carried-ge2 c = far_carried c.args.carry.now c.args.carried c.args.part.now c.requires (omega arith) _ c.word2.ensures _ c.sized.ensures

pub returns : goal.returns
returns c = far_in_both c.args.carry.now c.args.carried c.args.part.now c.requires (omega arith) (omega arith) _ c.word2-2.ensures _ c.sized-2.ensures
