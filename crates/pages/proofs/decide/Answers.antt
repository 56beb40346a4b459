-- `decide` meets its contract: by what `fit` decides, and where the record lies (Deciding.antt).
-- Assumes nothing.
use mathlib.Core.Path.{◌∙◌}
use native.Mathlib.Omega.{arith}
use Rattle.pages.proofs.Stored.{front_behind}
use Rattle.pages.proofs.Deciding.{decided_unfit, decided_in_carry}
use Rattle.std.proofs.lemmas.Bool.{not_from_false, not_from_true}
use Rattle.pages.proofs.decide.Goals as goal

pub returns-then-not-fit : goal.returns-then-not-fit
returns-then-not-fit c = decided_unfit c.args.carry.now c.args.carried c.args.part.now _ _ c.fit.ensures (not_from_false _ c.if-not-fit.true) _ c.refused.ensures

pub returns : goal.returns
returns c =
    decided_in_carry c.args.carry.now c.args.carried c.args.part.now _ _ _ c.fit.ensures (not_from_true _ c.if-not-fit.false) c.args.size c.requires.size_is _ _
    (omega (arith, c.requires.begun, c.requires.room)) c.requires.ends c.if-carried-eq0.false _ (c.put_behind.ensures ∙ front_behind _ _ _ c.args.size (omega (arith, c.requires.begun, c.requires.room)) c.requires.begun) c.meld_fit-2.ensures c.verdict-2.ensures
