-- `asked::asked_with` meets its contract: what was read is the record's lists (Asks.antt), so `judge` may be asked and its answer is refresh's.
-- Assumes nothing.
use mathlib.Core.Path.{sym}
use lib.Seq.{length-take-le}
use Rattle.record.specs.Reader.{Lists, lists}
use Rattle.refresh.proofs.Asks.{lent_bytes, Taken, none_taken, taken, asked_malformed, taken_sorted, asked_judged}
use Rattle.refresh.proofs.asked.asked_with.Goals as goal
use Rattle.refresh.proofs.asked.asked_with.Goals.{In-Ok}
use Rattle.std.proofs.lemmas.Grind.{merely}

-- what was read
abbrev read_lists : In-Ok → Lists
read_lists c = lists c.read.new.kinds c.read.new.keys c.read.new.payloads c.read.new.lows c.read.new.highs

read_taken : (c : In-Ok) → Taken c.args.original.now c.in-Ok.reading (read_lists c)
read_taken c = taken _ (lent_bytes _ c.type_inv.original) _ _ c.requires.room_for _ c.read.ensures _ c.in-Ok.is

pub returns-in_default : goal.returns-in_default
returns-in_default c = asked_malformed _ _ (none_taken _ (lent_bytes _ c.type_inv.original) _ _ c.requires.room_for _ c.read.ensures _ c.in_default.is)

pub slice_bounds-footprint-end : goal.slice_bounds-footprint-end
slice_bounds-footprint-end c = (read_taken c).points_inside

pub slice_bounds-footprint-end-2 : goal.slice_bounds-footprint-end-2
slice_bounds-footprint-end-2 c = sym (length-take-le _ _ (read_taken c).points_inside)

pub slice_bounds-footprint-end-3 : goal.slice_bounds-footprint-end-3
slice_bounds-footprint-end-3 c = (read_taken c).lows_inside

pub slice_bounds-footprint-end-4 : goal.slice_bounds-footprint-end-4
slice_bounds-footprint-end-4 c = sym (length-take-le _ _ (read_taken c).lows_inside)

pub slice_bounds-footprint-end-5 : goal.slice_bounds-footprint-end-5
slice_bounds-footprint-end-5 c = (read_taken c).highs_inside

pub slice_bounds-footprint-end-6 : goal.slice_bounds-footprint-end-6
slice_bounds-footprint-end-6 c = sym (length-take-le _ _ (read_taken c).highs_inside)

pub invariant_of-footprint : goal.invariant_of-footprint
invariant_of-footprint c = record { sorted = merely (taken_sorted c.args.pool.now _ _ _ (read_taken c)) }

pub returns : goal.returns
returns c = asked_judged _ _ _ _ (taken _ (lent_bytes _ c.type_inv.original) _ _ c.requires.room_for _ c.read.ensures _ c.in-Ok.is) _ c.judge.ensures
