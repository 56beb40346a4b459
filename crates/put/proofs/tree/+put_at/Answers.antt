-- The proof of the cycle of calls {put_at}. The measure is the height of the node; each place is one law of `Cases`.
-- Assumes nothing.
use mathlib.Core.Path.{sym, ◌∙◌}
use Rattle.put.proofs.Cases.{ready_room, split_rooms, leaf_case, split_case, left_asks, left_mend, left_case, right_asks, right_mend, right_case}
use Rattle.put.proofs.tree.+put_at.Goals as goal

pub read_node-n-requires : goal.read_node-n-requires
read_node-n-requires t c = ready_room _ _ _ _ _ c.requires

pub write_node-requires : goal.write_node-requires
write_node-requires t c = ready_room _ _ _ _ _ c.requires

pub returns-then-n-eq0 : goal.returns-then-n-eq0
returns-then-n-eq0 t c =
    leaf_case _ _ _ _ _ _ c.read_node-n.ensures (sym c.covers.ensures ∙ c.if-covers.true) c.if-n-eq0.true _ c.write_node.ensures

pub put_at-under-requires : goal.put_at-under-requires
put_at-under-requires t c =
    left_asks _ _ _ _ _ _ c.read_node-n.ensures (sym c.covers.ensures ∙ c.if-covers.true) c.if-n-eq0.false (sym c.covers-then-covers.ensures ∙ c.if-covers-2.true) t c.decreases c.requires

pub mend-requires : goal.mend-requires
mend-requires t c =
    left_mend _ _ _ _ _ _ c.read_node-n.ensures (sym c.covers.ensures ∙ c.if-covers.true) c.if-n-eq0.false (sym c.covers-then-covers.ensures ∙ c.if-covers-2.true) c.requires _ _ c.put_at-under.ensures

pub returns-then-covers-2 : goal.returns-then-covers-2
returns-then-covers-2 t c =
    left_case _ _ _ _ _ _ c.read_node-n.ensures (sym c.covers.ensures ∙ c.if-covers.true) c.if-n-eq0.false (sym c.covers-then-covers.ensures ∙ c.if-covers-2.true) _ _ c.put_at-under.ensures c.mend.new.pool c.mend.ensures

pub put_at-under-requires-then-covers : goal.put_at-under-requires-then-covers
put_at-under-requires-then-covers t c =
    right_asks _ _ _ _ _ _ c.read_node-n.ensures (sym c.covers.ensures ∙ c.if-covers.true) c.if-n-eq0.false (sym c.covers-then-covers.ensures ∙ c.if-covers-2.false) t c.decreases c.requires

pub mend-requires-then-covers : goal.mend-requires-then-covers
mend-requires-then-covers t c =
    right_mend _ _ _ _ _ _ c.read_node-n.ensures (sym c.covers.ensures ∙ c.if-covers.true) c.if-n-eq0.false (sym c.covers-then-covers.ensures ∙ c.if-covers-2.false) c.requires c.put_at-under-then-covers.new.pool c.put_at-under-then-covers.result c.put_at-under-then-covers.ensures

pub returns-then-covers : goal.returns-then-covers
returns-then-covers t c =
    right_case _ _ _ _ _ _ c.read_node-n.ensures (sym c.covers.ensures ∙ c.if-covers.true) c.if-n-eq0.false (sym c.covers-then-covers.ensures ∙ c.if-covers-2.false) c.put_at-under-then-covers.new.pool c.put_at-under-then-covers.result c.put_at-under-then-covers.ensures c.mend-then-covers.new.pool c.mend-then-covers.ensures

pub split-requires : goal.split-requires
split-requires t c =
    split_rooms _ _ _ _ _ c.requires _ c.read_node-n.ensures (sym c.covers.ensures ∙ c.if-covers.false)

pub returns : goal.returns
returns t c =
    split_case _ _ _ _ _ _ c.read_node-n.ensures (sym c.covers.ensures ∙ c.if-covers.false) c.split.new.pool c.split.ensures
