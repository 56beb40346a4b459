-- `read` meets its contract: a law of ReadLaws for each return; what the check has seen is what the filling functions require.
-- Assumes nothing.
use native.Mathlib.Omega.{arith}
use Rattle.record.proofs.WellFormed.{checked_long, checked_start, checked_points, checked_within, checked_scans}
use Rattle.record.proofs.ReadLaws.{read_malformed, read_short, read_whole}
use borrow.Author.Rules.{rules}
use Rattle.record.proofs.reader.read.Goals as goal

pub returns-in_err-head : goal.returns-in_err-head
returns-in_err-head c =
    let kept = read_malformed _ c.args.kinds.now c.args.keys.now c.args.payloads.now c.args.lows.now c.args.highs.now _ c.well_formed-2.ensures _ c.in_err-head.ensures.ok_part c.in_err-head.ensures.value in
    search rules

pub returns-then-kinds-head : goal.returns-then-kinds-head
returns-then-kinds-head c =
    read_short _ _ _ _ _ _ _ c.well_formed-2.ensures _ c.in_ok-head.ensures.ok_part (λ k e x l h. grind arith)

pub word4-snapshot-requires : goal.word4-snapshot-requires
word4-snapshot-requires c = search (checked_long, rules)

pub fill_points-at-requires-clause-start_in_bounds : goal.fill_points-at-requires-clause-start_in_bounds
fill_points-at-requires-clause-start_in_bounds c = search (checked_start, rules)

pub fill_points-at-requires-clause-start_value : goal.fill_points-at-requires-clause-start_value
fill_points-at-requires-clause-start_value c = search (checked_points, rules)

pub fill_scans-requires-clause-start_in_bounds : goal.fill_scans-requires-clause-start_in_bounds
fill_scans-requires-clause-start_in_bounds c = search (checked_within, rules)

pub fill_scans-requires-clause-start_value : goal.fill_scans-requires-clause-start_value
fill_scans-requires-clause-start_value c = search (checked_scans, rules)

pub returns : goal.returns
returns c =
    read_whole _ _ _ _ _ _ _ c.well_formed-2.ensures _ c.in_ok-head.ensures.ok_part c.if-kinds-head.false c.if-keys-head.false c.if-payloads-head.false c.if-lows-head.false c.if-highs-head.false _ _ _ _ _ _ _
    c.fill_points-at.ensures.kinds_after c.fill_points-at.ensures.keys_after c.fill_points-at.ensures.payloads_after c.fill_points-at.ensures.value
    c.fill_scans.ensures.lows_after c.fill_scans.ensures.highs_after c.word4-snapshot.ensures
