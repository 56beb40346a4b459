-- `run_end` meets its contract. The loop's invariant: what is left to parse, from this place on, ends where the whole run ends.
-- Assumes nothing.
use mathlib.Core.Path.{sym, ap, ◌∙◌}
use Rattle.record.specs.Parse.{end_of}
use Rattle.record.proofs.Runs.{run_none, run_on, run_done}
use borrow.Author.Rules.{rules}
use Rattle.record.proofs.checker.run_end.Goals as goal

pub returns-in_err-item : goal.returns-in_err-item
returns-in_err-item g c =
    c.from_residual.ensures ∙ sym (c.loop.invariant.1 ∙ ap end_of (run_none g.T.Item.items _ _ _ _ _ _ c.item_at.ensures c.loop-test.true c.in_err-item.was))

pub loop-preserved : goal.loop-preserved
loop-preserved g c = (search (g.met.T.Item.within, rules), search (run_on, rules))

pub returns : goal.returns
returns g c = search (run_done, rules)
