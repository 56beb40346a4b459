-- `wait` meets its contract: each return is a row of R47.
-- Assumes nothing.
use mathlib.Core.Path.{refl}
use borrow.Author.Tests.{eq-eqb, ne_eqb}
use Rattle.std.proofs.lemmas.Bool.{not_from_false, not_from_true}
use Rattle.pages.proofs.wait.Goals as goal

pub returns-then-not-over : goal.returns-then-not-over
returns-then-not-over c m =
    simp (not_from_false _ c.if-not-over.true) (record { said = c.undecided.ensures; pool = refl; carry_is = c.put_behind.ensures })

pub returns-then-carried-part-eq0 : goal.returns-then-carried-part-eq0
returns-then-carried-part-eq0 c m =
    simp (not_from_true _ c.if-not-over.false, eq-eqb _ 0 c.if-carried-part-eq0.true) (record { said = c.undecided-then-carried-part-eq0.ensures; pool = refl; carry_is = refl })

pub returns : goal.returns
returns c m = simp (not_from_true _ c.if-not-over.false, ne_eqb _ 0 c.if-carried-part-eq0.false) (record { said = c.refused.ensures; pool = refl; carry_is = refl })
