-- `judge::judge_and_name` meets its promise: one law for each return (Cases.antt).
use mathlib.Core.Path.{sym, ◌∙◌}
use Rattle.judge.proofs.Cases.{is_ahead, is_too_old, is_conflict, is_free}
use Rattle.judge.proofs.judged.judge_and_name.Goals as goal

pub returns-then-h-snapshot : goal.returns-then-h-snapshot
returns-then-h-snapshot c A i = c.refused.ensures ∙ is_ahead _ _ _ _ c.read_header-h.ensures c.if-h-snapshot.true A i

pub returns-then-h-snapshot-2 : goal.returns-then-h-snapshot-2
returns-then-h-snapshot-2 c A i = c.refused-then-h-snapshot-2.ensures ∙ is_too_old _ _ _ _ c.read_header-h.ensures c.if-h-snapshot.false c.if-h-snapshot-2.true A i

pub returns-then-is_some : goal.returns-then-is_some
returns-then-is_some c = is_conflict _ _ _ _ c.read_header-h.ensures c.if-h-snapshot.false c.if-h-snapshot-2.false _ c.conflict-leaf.ensures (sym c.is_some.ensures ∙ c.if-is_some.true)

pub returns : goal.returns
returns c = is_free _ _ _ _ c.read_header-h.ensures c.if-h-snapshot.false c.if-h-snapshot-2.false _ c.conflict-leaf.ensures (sym c.is_some.ensures ∙ c.if-is_some.false)
