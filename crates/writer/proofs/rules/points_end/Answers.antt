-- `points_end` meets its contract. The loop's invariant: what is left of the lists, from this place on, ends where the whole run ends.
-- Assumes nothing.
use mathlib.Core.Path.{◌∙◌}
use native.Mathlib.Omega.{arith}
use Rattle.record.proofs.Sizes.{size_most}
use Rattle.writer.proofs.RuleLaws.{named_bad, named_next, named_none}
use borrow.Author.Rules.{rules}
use Rattle.writer.proofs.rules.points_end.Goals as goal

pub returns-in_err-point : goal.returns-in_err-point
returns-in_err-point c =
    c.from_residual.ensures ∙ named_bad _ _ _ c.requires.0 c.requires.1 _ _ _ _ c.point_named.ensures c.loop-i-test.true _ c.loop-i.invariant.1 c.in_err-point.was

pub loop-i-preserved : goal.loop-i-preserved
loop-i-preserved c = (omega (arith, size_most c.in_ok-point.point), search (named_next, rules))

pub returns : goal.returns
returns c = search (named_none, rules)
