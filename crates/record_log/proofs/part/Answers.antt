-- `record_log::part` meets its contract: what `cut` promises gives the range's bounds, and the part that is handed out (Handed.antt).
-- Assumes nothing.
use native.Mathlib.Omega.{arith}
use Rattle.record_log.proofs.Told.{cut_case}
use Rattle.record_log.proofs.Handed.{stands, hands_none, hands_record}
use Rattle.record_log.proofs.part.Goals as goal

pub returns-in_default : goal.returns-in_default
returns-in_default c = hands_none _ _ _ (cut_case _ _ _ c.cut.ensures) c.in_default.not-Record

pub slice_bounds-result-count : goal.slice_bounds-result-count
slice_bounds-result-count c = omega (arith, stands _ _ _ _ (cut_case _ _ _ c.cut.ensures) c.in-Record.is)

pub slice_bounds-result-start : goal.slice_bounds-result-start
slice_bounds-result-start c = omega (arith, stands _ _ _ _ (cut_case _ _ _ c.cut.ensures) c.in-Record.is)

pub slice_bounds-result-end-2 : goal.slice_bounds-result-end-2
slice_bounds-result-end-2 c = omega (arith, stands _ _ _ _ (cut_case _ _ _ c.cut.ensures) c.in-Record.is)

pub returns : goal.returns
returns c = hands_record _ _ _ (cut_case _ _ _ c.cut.ensures) _ c.in-Record.is _ _ (omega arith) (omega arith)
