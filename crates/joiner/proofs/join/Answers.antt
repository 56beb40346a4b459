-- `join` meets its contract: a law of JoinLaws for each return, and for what each step of the second pass asks.
-- Assumes nothing.
use Rattle.joiner.proofs.JoinLaws.{join_no_a, join_no_b, join_cannot, ready, join_two, join_length_fits, join_length, join_points_fit, join_scans_fit, join_snapshot, join_points, join_points_a, join_points_b, join_scans, join_scans_a, join_scans_b, join_version_least, join_version_most, join_points_width, join_scans_width, join_head_room, join_points_room, join_scans_room, join_whole, join_short}
use borrow.Author.Rules.{rules}
use Rattle.joiner.proofs.join.Goals as goal

pub returns-in_err-head_a : goal.returns-in_err-head_a
returns-in_err-head_a c =
    let e = join_no_a c.args.a.now c.args.b.now _ c.head_of.ensures c.in_err-head_a.ensures.ok_part _ c.in_err-head_a.ensures.value c.args.output.now in search rules

pub returns-in_err-head_b : goal.returns-in_err-head_b
returns-in_err-head_b c =
    let e = join_no_b c.args.a.now c.args.b.now _ c.head_of-2.ensures c.in_err-head_b.ensures.ok_part _ c.in_err-head_b.ensures.value c.args.output.now in search rules

pub returns-in_err-found : goal.returns-in_err-found
returns-in_err-found c =
    let e = join_cannot _ _ c.count_both.ensures c.in_err-found.ensures.ok_part _ c.in_err-found.ensures.value c.args.output.now in search rules

pub returns-then-output-found : goal.returns-then-output-found
returns-then-output-found c =
    join_short (ready c.head_of.ensures c.in_ok-head_a.ensures.ok_part c.head_of-2.ensures c.in_ok-head_b.ensures.ok_part c.count_both.ensures c.in_ok-found.ensures.ok_part) _ c.if-output-found.true

pub overflow_sub-found : goal.overflow_sub-found
overflow_sub-found c =
    join_two (ready c.head_of.ensures c.in_ok-head_a.ensures.ok_part c.head_of-2.ensures c.in_ok-head_b.ensures.ok_part c.count_both.ensures c.in_ok-found.ensures.ok_part)

pub overflow_cast-found : goal.overflow_cast-found
overflow_cast-found c =
    search (join_length_fits (ready c.head_of.ensures c.in_ok-head_a.ensures.ok_part c.head_of-2.ensures c.in_ok-head_b.ensures.ok_part c.count_both.ensures c.in_ok-found.ensures.ok_part), rules)

pub word4-requires : goal.word4-requires
word4-requires c =
    join_snapshot (ready c.head_of.ensures c.in_ok-head_a.ensures.ok_part c.head_of-2.ensures c.in_ok-head_b.ensures.ok_part c.count_both.ensures c.in_ok-found.ensures.ok_part)

pub overflow_cast-found-2 : goal.overflow_cast-found-2
overflow_cast-found-2 c =
    search (join_points_fit (ready c.head_of.ensures c.in_ok-head_a.ensures.ok_part c.head_of-2.ensures c.in_ok-head_b.ensures.ok_part c.count_both.ensures c.in_ok-found.ensures.ok_part), rules)

pub overflow_cast-found-3 : goal.overflow_cast-found-3
overflow_cast-found-3 c =
    search (join_scans_fit (ready c.head_of.ensures c.in_ok-head_a.ensures.ok_part c.head_of-2.ensures c.in_ok-head_b.ensures.ok_part c.count_both.ensures c.in_ok-found.ensures.ok_part), rules)

pub put_head-requires : goal.put_head-requires
put_head-requires c =
    let r = ready c.head_of.ensures c.in_ok-head_a.ensures.ok_part c.head_of-2.ensures c.in_ok-head_b.ensures.ok_part c.count_both.ensures c.in_ok-found.ensures.ok_part in
    record {
      version_in_bounds = (join_head_room r _ c.version_for-version.ensures _ c.if-output-found.false, join_length r);
      le_version = (
        join_version_least r _ c.version_for-version.ensures,
        join_version_most r _ c.version_for-version.ensures,
        join_points_width r _ c.version_for-version.ensures,
        join_scans_width r _ c.version_for-version.ensures,
      );
    }

pub put_joined_points-at-requires : goal.put_joined_points-at-requires
put_joined_points-at-requires c =
    let r = ready c.head_of.ensures c.in_ok-head_a.ensures.ok_part c.head_of-2.ensures c.in_ok-head_b.ensures.ok_part c.count_both.ensures c.in_ok-found.ensures.ok_part in
    record {
      points_join = join_points r;
      heads_fit = (join_points_a r, join_points_b r);
      room = join_points_room r _ c.version_for-version.ensures _ _ _ c.put_head.ensures c.if-output-found.false _ c.head_size.ensures;
    }

pub put_joined_scans-requires : goal.put_joined_scans-requires
put_joined_scans-requires c =
    let r = ready c.head_of.ensures c.in_ok-head_a.ensures.ok_part c.head_of-2.ensures c.in_ok-head_b.ensures.ok_part c.count_both.ensures c.in_ok-found.ensures.ok_part in
    record {
      heads_fit = (join_scans_a r, join_scans_b r);
      both_taken = join_scans r;
      room = join_scans_room r _ c.version_for-version.ensures _ _ _ c.put_head.ensures c.if-output-found.false _ c.head_size.ensures
          _ _ c.put_joined_points-at.ensures.value c.put_joined_points-at.ensures.output_after;
    }

pub returns : goal.returns
returns c =
    join_whole (ready c.head_of.ensures c.in_ok-head_a.ensures.ok_part c.head_of-2.ensures c.in_ok-head_b.ensures.ok_part c.count_both.ensures c.in_ok-found.ensures.ok_part)
    _ c.version_for-version.ensures _ _ _ c.put_head.ensures c.if-output-found.false _ c.head_size.ensures
    _ _ c.put_joined_points-at.ensures.value c.put_joined_points-at.ensures.output_after _ c.put_joined_scans.ensures c.word4.ensures
