-- `write` meets its contract: a law of WriteLaws for each return, and for what each step of the second pass asks.
-- Assumes nothing.
use Rattle.writer.proofs.WriteLaws.{write_two, write_length, write_length_fits, write_points_fit, write_scans_fit, write_keys_same, write_payloads_same, write_highs_same, write_version_least, write_version_most, write_points_width, write_scans_width, write_head_room, write_points_room, write_scans_room, write_whole, write_short, write_malformed}
use borrow.Author.Rules.{rules}
use Rattle.writer.proofs.write.Goals as goal

pub returns-in_err-size : goal.returns-in_err-size
returns-in_err-size c =
    let kept = write_malformed _ _ _ _ _ _ _ c.named_size.ensures c.in_err-size.ensures.ok_part c.in_err-size.ensures.value c.args.snapshot c.args.output.now in search rules

pub returns-then-output-size : goal.returns-then-output-size
returns-then-output-size c = write_short _ _ _ _ _ _ _ c.in_ok-size.ensures.ok_part c.named_size.ensures _ _ c.if-output-size.true

pub overflow_sub-size : goal.overflow_sub-size
overflow_sub-size c = search (write_two, rules)

pub overflow_cast-size : goal.overflow_cast-size
overflow_cast-size c = search (write_length_fits, rules)

pub overflow_cast-kinds : goal.overflow_cast-kinds
overflow_cast-kinds c = search (write_points_fit, rules)

pub overflow_cast-lows : goal.overflow_cast-lows
overflow_cast-lows c = search (write_scans_fit, rules)

pub put_head-requires : goal.put_head-requires
put_head-requires c = record { version_in_bounds = (search (write_head_room, rules), search (write_length, rules)); le_version = (search (write_version_least, rules), search (write_version_most, rules), search (write_points_width, rules), search (write_scans_width, rules)) }

pub put_points-at-requires : goal.put_points-at-requires
put_points-at-requires c = (search (write_keys_same, rules), search (write_payloads_same, rules), write_points_room _ _ _ _ _ _ _ c.in_ok-size.ensures.ok_part c.named_size.ensures _ c.version_for-version.ensures c.args.snapshot c.args.output.now _ c.put_head.ensures c.if-output-size.false _ c.head_size.ensures)

pub put_scans-requires : goal.put_scans-requires
put_scans-requires c = (search (write_highs_same, rules), write_scans_room _ _ _ _ _ _ _ c.in_ok-size.ensures.ok_part c.named_size.ensures _ c.version_for-version.ensures c.args.snapshot c.args.output.now _ c.put_head.ensures c.if-output-size.false _ c.head_size.ensures _ _ c.put_points-at.ensures.value c.put_points-at.ensures.output_after)

pub returns : goal.returns
returns c = write_whole _ _ _ _ _ _ _ c.in_ok-size.ensures.ok_part c.named_size.ensures _ _ _ _ _ _ _ _ c.version_for-version.ensures c.head_size.ensures c.put_scans.ensures c.put_points-at.ensures.output_after c.put_points-at.ensures.value c.put_head.ensures c.if-output-size.false
