-- One law for each way in which a turn goes on or ends (Turning.antt).
-- Assumes nothing.
use Rattle.std.proofs.Common.{sym, refl, ◌∙◌, arith, rules}
use Rattle.stream.proofs.Turning.{follows, last, over_at, turned_none, used_up, turn_stops, turn_unread, turn_over, turn_on}
use Rattle.stream.proofs.turns.meld_through.Goals as goal
use Rattle.stream.proofs.turns.meld_through.Goals.{else-loop-test, then-loop-test+else-more_after+else-going+else-read}

pub loop-init : goal.loop-init
loop-init g c = (turned_none _ _ _, refl, refl, refl)

pub returns-then-going : goal.returns-then-going
returns-then-going g c = turn_stops c.loop.invariant.0 c.refill-read.ensures c.feed_part-going.ensures c.if-going.true

pub returns-then-read : goal.returns-then-read
returns-then-read g c = turn_unread c.loop.invariant.0 c.refill-read.ensures c.feed_part-going.ensures c.if-going.false c.if-read.true

pub loop-preserved : goal.loop-preserved
loop-preserved g c =
    let f = follows c.refill-read.ensures _ (sym c.more_after.ensures ∙ c.if-more_after.true) in
    (turn_on c.loop.invariant.0 c.refill-read.ensures c.feed_part-going.ensures f.0 f.1 f.2, search rules, search rules, search rules)

pub returns : goal.returns
returns g c = elim c.loop-test.branch [
  | else-loop-test w ↦ used_up c.loop.invariant.0 (omega arith) (over_at w.pool-is w.carry-is w.carried-is c.finish.ensures)
  | then-loop-test+else-more_after+else-going+else-read w ↦
      turn_over c.loop.invariant.0 w.refill-read.ensures w.feed_part-going.ensures w.if-going.false w.if-read.false (last _ _ (sym w.more_after.ensures ∙ w.if-more_after.false) w.if-going.false)
      (over_at w.pool-is w.carry-is w.carried-is c.finish.ensures)
]
