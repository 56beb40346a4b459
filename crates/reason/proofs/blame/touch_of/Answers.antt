-- `blame::touch_of` meets its promise: one law for each return (Touching.antt).
use mathlib.Core.Path.{sym, ◌∙◌}
use Rattle.reason.proofs.Touching.{point_touches, scan_touches}
use Rattle.reason.proofs.blame.touch_of.Goals as goal

pub returns-then-below : goal.returns-then-below
returns-then-below c = point_touches _ _ _ _ _ c.forward-point.ensures c.from.ensures (sym c.below.ensures ∙ c.if-below.true)

pub returns : goal.returns
returns c = scan_touches _ _ _ _ _ c.forward-point.ensures c.from.ensures (sym c.below.ensures ∙ c.if-below.false) _ c.forward-scan.ensures
