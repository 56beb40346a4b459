-- `well_formed` meets its contract: a law of CheckLaws for each return.
-- Assumes nothing.
use mathlib.Core.Path.{◌∙◌}
use Rattle.record.proofs.HeadLaws.{head_within}
use Rattle.record.proofs.CheckLaws.{formed_head, formed_points, formed_within, formed_scans, formed_end, formed_whole}
use borrow.Author.Rules.{rules}
use Rattle.record.proofs.checker.well_formed.Goals as goal

pub returns-in_err-head : goal.returns-in_err-head
returns-in_err-head c = c.from_residual.ensures ∙ formed_head _ _ c.head_of.ensures c.in_err-head.was

pub run_end-requires : goal.run_end-requires
run_end-requires c = search (head_within, rules)

pub returns-in_err-at : goal.returns-in_err-at
returns-in_err-at c = c.from_residual-in_err-at.ensures ∙ formed_points _ _ c.head_of.ensures _ c.in_ok-head.was _ c.run_end.ensures c.in_err-at.was

pub run_end-requires-2 : goal.run_end-requires-2
run_end-requires-2 c = search (formed_within, rules)

pub returns-in_err-end : goal.returns-in_err-end
returns-in_err-end c = c.from_residual-in_err-end.ensures ∙ formed_scans _ _ c.head_of.ensures _ c.in_ok-head.was _ c.run_end.ensures _ c.in_ok-at.was _ c.run_end-2.ensures c.in_err-end.was

pub returns-then-end-bytes : goal.returns-then-end-bytes
returns-then-end-bytes c = search (formed_whole, rules)

pub returns-else-end-bytes : goal.returns-else-end-bytes
returns-else-end-bytes c = search (formed_end, c.if-end-bytes.false, rules)
