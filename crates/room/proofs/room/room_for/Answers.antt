-- `room::room_for` meets its promise: what was counted decides row 3 (Decides.antt), and the kinds are what the count has settled.
use Rattle.room.proofs.Decides.{all_fits, more_fits, enough, after_drop, too_little}
use Rattle.room.proofs.room.room_for.Goals as goal

pub overflow_add-all : goal.overflow_add-all
overflow_add-all c = record { fits = all_fits _ _ _ c.requires.fit c.requires.writable _ c.read_header-h.ensures _ c.old_limit-limit.ensures _ c.settle_points-written.ensures.tally_is }

pub returns-then-all-h-clause-room_is : goal.returns-then-all-h-clause-room_is
returns-then-all-h-clause-room_is c = enough _ _ _ c.requires.fit c.requires.writable _ c.read_header-h.ensures _ c.old_limit-limit.ensures _ c.settle_points-written.ensures.tally_is c.if-all-h.true

pub overflow_add-more : goal.overflow_add-more
overflow_add-more c = record { fits = more_fits _ _ _ c.requires.fit c.requires.writable _ c.read_header-h.ensures _ c.old_limit-limit.ensures _ c.settle_points-written.ensures.tally_is }

pub returns-then-needed-old-clause-room_is : goal.returns-then-needed-old-clause-room_is
returns-then-needed-old-clause-room_is c = after_drop _ _ _ c.requires.fit c.requires.writable _ c.read_header-h.ensures _ c.old_limit-limit.ensures _ c.settle_points-written.ensures.tally_is c.if-all-h.false _ c.count_old-old.ensures c.if-needed-old.true

pub returns-clause-room_is : goal.returns-clause-room_is
returns-clause-room_is c = too_little _ _ _ c.requires.fit c.requires.writable _ c.read_header-h.ensures _ c.old_limit-limit.ensures _ c.settle_points-written.ensures.tally_is c.if-all-h.false _ c.count_old-old.ensures c.if-needed-old.false
