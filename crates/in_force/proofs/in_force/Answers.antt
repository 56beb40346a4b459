-- `in_force` meets its promise: the record that was cut out ends within the buffer.
use mathlib.Core.Path.{sym, ◌∙◌}
use lib.Seq.{length-take-le}
use Rattle.record_log.proofs.Stands.{record_tells}
use Rattle.record_log.proofs.Told.{cut_case}
use Rattle.in_force.proofs.in_force.Goals as goal

pub slice_bounds-result-end-2 : goal.slice_bounds-result-end-2
slice_bounds-result-end-2 c = sym (length-take-le _ _ (record_tells _ _ _ (sym (cut_case _ _ _ c.cut.ensures) ∙ c.in-Record.is)).inside)
