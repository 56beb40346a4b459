-- `feed` meets its promise: what its steps have found out gives the row of R47 (Table.antt).
-- Assumes nothing.
use native.Mathlib.Omega.{arith}
use Rattle.pages.proofs.Table.{refuses_carry, short_waits, length_is_in, length_kept, begun_before, sized_waits, is_complete, is_decided}
use Rattle.std.proofs.lemmas.Bool.{not_from_false, not_from_true}
use Rattle.pages.proofs.feed.Goals as goal

pub returns-then-not-may_carry : goal.returns-then-not-may_carry
returns-then-not-may_carry c = refuses_carry c.args.carry.now c.args.carried c.args.part.now c.args.over _ c.may_carry.ensures (not_from_false _ c.if-not-may_carry.true) _ _ c.refused.ensures

pub keep_length-requires : goal.keep_length-requires
keep_length-requires c = length_is_in c.args.carry.now c.args.carried c.args.part.now c.args.over _ c.may_carry.ensures (not_from_true _ c.if-not-may_carry.false) _ c.how_far.ensures c.in-Impossible.is

pub overflow_sub-size : goal.overflow_sub-size
overflow_sub-size c = begun_before c.args.carry.now c.args.carried c.args.part.now c.args.over _ c.may_carry.ensures (not_from_true _ c.if-not-may_carry.false) _ c.how_far.ensures _ c.in-Sized.is

pub returns-then-part-size : goal.returns-then-part-size
returns-then-part-size c = sized_waits c.args.carry.now c.args.carried c.args.part.now c.args.over _ c.may_carry.ensures (not_from_true _ c.if-not-may_carry.false) _ c.how_far.ensures _ c.in-Sized.is (omega arith) _ _ c.wait-then-part-size.ensures _

pub decide-requires : goal.decide-requires
decide-requires c = is_complete c.args.carry.now c.args.carried c.args.part.now c.args.over _ c.may_carry.ensures (not_from_true _ c.if-not-may_carry.false) _ c.how_far.ensures _ c.in-Sized.is (omega arith)

pub returns-in-Short : goal.returns-in-Short
returns-in-Short c = short_waits c.args.carry.now c.args.carried c.args.part.now c.args.over _ c.may_carry.ensures (not_from_true _ c.if-not-may_carry.false) _ c.how_far.ensures c.in-Short.is _ _ c.wait.ensures _

pub returns-in-Impossible : goal.returns-in-Impossible
returns-in-Impossible c = length_kept c.args.carry.now c.args.carried c.args.part.now c.args.over _ c.may_carry.ensures (not_from_true _ c.if-not-may_carry.false) _ c.how_far.ensures c.in-Impossible.is _ _ c.keep_length.ensures _

pub returns-else-part-size : goal.returns-else-part-size
returns-else-part-size c = is_decided c.args.carry.now c.args.carried c.args.part.now c.args.over _ c.may_carry.ensures (not_from_true _ c.if-not-may_carry.false) _ c.how_far.ensures _ c.in-Sized.is (omega arith) _ _ _ _ c.decide.ensures
