-- `commit::apply` meets its promise. The invariant: storing the rest from the present arrangement gives the whole (Turns.antt).
use mathlib.Core.Path.{refl}
use Rattle.commit.proofs.Turns.{passed_over, is_put, is_delete, has_room, moved_on_lem, loop_ends}
use Rattle.commit.proofs.apply.apply.Goals as goal
use Rattle.commit.proofs.apply.apply.Goals.{in-Put, in-Put-2}

pub loop-i-preserved-in_default : goal.loop-i-preserved-in_default
loop-i-preserved-in_default c = passed_over _ _ _ _ _ _ c.requires c.loop-i.invariant c.loop-i-test.true _ _ c.point_of-point.ensures c.in_default.is

pub put-requires : goal.put-requires
put-requires c = has_room _ _ _ _ _ _ c.requires c.loop-i.invariant c.loop-i-test.true _ _ (elim c.match-point.branch [ in-Put w ↦ is_put _ _ _ _ _ _ c.requires c.loop-i.invariant c.loop-i-test.true _ _ _ _ _ _ w.in-Put.ensures refl w.point-is w.key-is c.value_of.ensures | in-Put-2 w ↦ is_delete _ _ _ _ _ _ c.requires c.loop-i.invariant c.loop-i-test.true _ _ _ _ _ w.in-Put.ensures refl w.point-is w.key-is c.value_of.ensures ])

pub loop-i-preserved : goal.loop-i-preserved
loop-i-preserved c = moved_on_lem _ _ _ _ _ _ c.requires c.loop-i.invariant c.loop-i-test.true _ _ (elim c.match-point.branch [ in-Put w ↦ is_put _ _ _ _ _ _ c.requires c.loop-i.invariant c.loop-i-test.true _ _ _ _ _ _ w.in-Put.ensures refl w.point-is w.key-is c.value_of.ensures | in-Put-2 w ↦ is_delete _ _ _ _ _ _ c.requires c.loop-i.invariant c.loop-i-test.true _ _ _ _ _ w.in-Put.ensures refl w.point-is w.key-is c.value_of.ensures ]) _ c.put.auto.pool c.put.ensures

pub returns : goal.returns
returns c = loop_ends _ _ _ _ _ _ c.requires c.loop-i.invariant c.loop-i-test.false
