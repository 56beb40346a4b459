-- `scans_end` meets its contract. The loop's invariant: what is left of the lists, from this place on, ends where the whole run ends.
-- Assumes nothing.
use mathlib.Core.Path.{◌∙◌}
use Rattle.writer.proofs.RuleLaws.{scan_named_bad, scan_named_turn, scan_named_none}
use borrow.Author.Rules.{rules}
use Rattle.writer.proofs.rules.scans_end.Goals as goal

pub returns-in_err-scan : goal.returns-in_err-scan
returns-in_err-scan c =
    c.from_residual.ensures ∙ scan_named_bad _ _ c.requires.0 _ _ _ _ c.scan_named.ensures c.loop-i-test.true _ c.loop-i.invariant.1 c.in_err-scan.was

pub loop-i-preserved : goal.loop-i-preserved
loop-i-preserved c = (search rules, search (scan_named_turn, rules))

pub returns : goal.returns
returns c = search (scan_named_none, rules)
