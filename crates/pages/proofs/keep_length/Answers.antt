-- `keep_length` meets its contract: the front of what is in, where only the new bytes of the length were stored (Stored.antt).
-- Assumes nothing.
use mathlib.Core.Path.{◌∙◌}
use native.Mathlib.Omega.{arith}
use Rattle.pages.proofs.Stored.{front_behind}
use Rattle.pages.proofs.keep_length.Goals as goal

pub returns : goal.returns
returns c = record { said = c.undecided.ensures; carry_is = c.put_behind.ensures ∙ front_behind c.args.carry.now c.args.carried c.args.part.now 2 (omega (arith, c.requires.no_more, c.requires.room)) c.requires.no_more }
