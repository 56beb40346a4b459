-- `melding::meld_with` meets its promise: what `read` leaves (Readings.antt), and one law for each return (Whole.antt).
-- Assumes nothing.
use mathlib.Core.Path.{sym}
use native.Mathlib.Omega.{arith}
use lib.Seq.{length-take-le}
use Rattle.record.specs.Reader.{Lists, lists}
use Rattle.meld.proofs.Readings.{Got, read_none, read_some}
use Rattle.meld.proofs.Whole.{used_up, is_malformed, is_meldable, melded_lists}
use Rattle.meld.proofs.melding.meld_with.Goals.{In-Ok}
use Rattle.meld.proofs.melding.meld_with.Goals as goal

pub returns-then-read_header : goal.returns-then-read_header
returns-then-read_header c = used_up _ _ _ c.read_header.ensures c.if-read_header.true

pub returns-in_default : goal.returns-in_default
returns-in_default c = is_malformed _ c.args.bytes.now _ c.read_header.ensures c.requires.fit c.if-read_header.false (read_none _ (record { byte = λ i. omega (arith, c.type_inv.bytes i) }) _ _ c.requires.room_for _ c.read.ensures _ c.in_default.is) _ c.advance.ensures

-- the lists after the reading, and what was read where it is a record
abbrev lists_read : In-Ok → Lists
lists_read c = lists c.read.new.kinds c.read.new.keys c.read.new.payloads c.read.new.lows c.read.new.highs

got : (c : In-Ok) → Got c.args.bytes.now (lists_read c) c.in-Ok.reading
got c = read_some _ (record { byte = λ i. omega (arith, c.type_inv.bytes i) }) _ _ c.requires.room_for _ c.read.ensures _ c.in-Ok.is

pub slice_bounds-meld_lists-end : goal.slice_bounds-meld_lists-end
slice_bounds-meld_lists-end c = (got (goal.at.slice_bounds-meld_lists-end c).In-Ok).kinds_inside

pub slice_bounds-meld_lists-end-2 : goal.slice_bounds-meld_lists-end-2
slice_bounds-meld_lists-end-2 c = sym (length-take-le _ _ (got (goal.at.slice_bounds-meld_lists-end-2 c).In-Ok).kinds_inside)

pub slice_bounds-meld_lists-end-3 : goal.slice_bounds-meld_lists-end-3
slice_bounds-meld_lists-end-3 c = (got (goal.at.slice_bounds-meld_lists-end-3 c).In-Ok).keys_inside

pub slice_bounds-meld_lists-end-4 : goal.slice_bounds-meld_lists-end-4
slice_bounds-meld_lists-end-4 c = sym (length-take-le _ _ (got (goal.at.slice_bounds-meld_lists-end-4 c).In-Ok).keys_inside)

pub slice_bounds-meld_lists-end-5 : goal.slice_bounds-meld_lists-end-5
slice_bounds-meld_lists-end-5 c = (got (goal.at.slice_bounds-meld_lists-end-5 c).In-Ok).payloads_inside

pub slice_bounds-meld_lists-end-6 : goal.slice_bounds-meld_lists-end-6
slice_bounds-meld_lists-end-6 c = sym (length-take-le _ _ (got (goal.at.slice_bounds-meld_lists-end-6 c).In-Ok).payloads_inside)

pub slice_bounds-meld_lists-end-7 : goal.slice_bounds-meld_lists-end-7
slice_bounds-meld_lists-end-7 c = (got (goal.at.slice_bounds-meld_lists-end-7 c).In-Ok).lows_inside

pub slice_bounds-meld_lists-end-8 : goal.slice_bounds-meld_lists-end-8
slice_bounds-meld_lists-end-8 c = sym (length-take-le _ _ (got (goal.at.slice_bounds-meld_lists-end-8 c).In-Ok).lows_inside)

pub slice_bounds-meld_lists-end-9 : goal.slice_bounds-meld_lists-end-9
slice_bounds-meld_lists-end-9 c = (got (goal.at.slice_bounds-meld_lists-end-9 c).In-Ok).highs_inside

pub slice_bounds-meld_lists-end-10 : goal.slice_bounds-meld_lists-end-10
slice_bounds-meld_lists-end-10 c = sym (length-take-le _ _ (got (goal.at.slice_bounds-meld_lists-end-10 c).In-Ok).highs_inside)

pub meld_lists-requires : goal.meld_lists-requires
meld_lists-requires c = let g = got (goal.at.meld_lists-requires c).In-Ok in is_meldable _ c.args.bytes.now _ c.read_header.ensures c.requires.fit c.if-read_header.false _ _ _ _ _ _ g.r g.names

pub returns : goal.returns
returns c = let g = got (goal.at.returns c).In-Ok in melded_lists _ c.args.bytes.now _ c.read_header.ensures c.requires.fit c.if-read_header.false _ _ _ _ _ _ g.r g.names g.is _ _ c.meld_lists.ensures
