-- `count_both` meets its contract: a law of CountLaws for each return.
-- Assumes nothing.
use Rattle.joiner.proofs.Parts.{few_points, few_scans, start_within, scans_fit, start_fits, snapshot_within}
use Rattle.joiner.proofs.CountLaws.{count_snapshots, count_short_a, count_short_b, count_scans_bad, count_scans_many, count_scans_took, count_points_bad, count_end_a, count_end_b, count_points_many, size_sum, size_total, count_whole}
use mathlib.Core.Path.{refl, sym, ◌∙◌}
use borrow.Author.Rules.{rules}
use Rattle.joiner.proofs.count_both.Goals as goal
use Rattle.joiner.proofs.count_both.Goals.{then-a-head_a-via-then-a-head_a, then-a-head_a-via-else-a-head_a+then-b-head_b, then-count-a-via-then-count-a, then-count-a-via-else-count-a+then-count-b}

pub word4-requires : goal.word4-requires
word4-requires c = search (snapshot_within, rules)

pub word4-requires-2 : goal.word4-requires-2
word4-requires-2 c = search (snapshot_within, rules)

pub returns-then-word4 : goal.returns-then-word4
returns-then-word4 c = search (count_snapshots, c.if-word4.true, rules)

pub overflow_mul-head_a : goal.overflow_mul-head_a
overflow_mul-head_a c = search (scans_fit, rules)

pub overflow_add-head_a : goal.overflow_add-head_a
overflow_add-head_a c = search (start_fits, rules)

pub overflow_mul-head_b : goal.overflow_mul-head_b
overflow_mul-head_b c = search (scans_fit, rules)

pub overflow_add-head_b : goal.overflow_add-head_b
overflow_add-head_b c = search (start_fits, rules)

pub returns-then-a-head_a : goal.returns-then-a-head_a
returns-then-a-head_a c = elim c.then-a-head_a.branch [
  | then-a-head_a-via-then-a-head_a w ↦ count_short_a _ _ _ _ c.requires.0 c.requires.1 w.if-a-head_a.true
  | then-a-head_a-via-else-a-head_a+then-b-head_b w ↦ count_short_b _ _ _ _ c.requires.0 c.requires.1 w.if-b-head_b.true
]

pub count_scans-requires : goal.count_scans-requires
count_scans-requires c =
    let n = few_scans _ _ c.requires.0 in
    let m = few_scans _ _ c.requires.1 in
    ((search rules, n), (search rules, m))

pub returns-in_err-scans : goal.returns-in_err-scans
returns-in_err-scans c = rw c.from_residual.ensures (count_scans_bad _ _ _ _ c.requires.0 c.requires.1 _ c.count_scans.ensures c.in_err-scans.was)

pub returns-then-scans-gt-MAX_SCANS : goal.returns-then-scans-gt-MAX_SCANS
returns-then-scans-gt-MAX_SCANS c = count_scans_many _ _ _ _ c.requires.0 c.requires.1 _ c.count_scans.ensures _ c.in_ok-scans.was c.if-scans-gt-MAX_SCANS.true

pub count_points-requires : goal.count_points-requires
count_points-requires c = record {
  heads_fit = ((start_within _ _ c.requires.0, few_points _ _ c.requires.0), (start_within _ _ c.requires.1, few_points _ _ c.requires.1), search rules);
  scans_taken = count_scans_took _ _ _ _ c.requires.0 c.requires.1 _ c.count_scans.ensures _ c.in_ok-scans.was;
}

pub returns-in_err-count : goal.returns-in_err-count
returns-in_err-count c =
    rw c.from_residual-in_err-count.ensures (count_points_bad _ _ _ _ c.requires.0 c.requires.1 _ c.count_scans.ensures _ c.in_ok-scans.was _ c.count_points.ensures c.in_err-count.was)

pub returns-then-count-a : goal.returns-then-count-a
returns-then-count-a c = elim c.then-count-a.branch [
  | then-count-a-via-then-count-a w ↦ count_end_a _ _ _ _ c.requires.0 c.requires.1 _ c.count_scans.ensures _ c.in_ok-scans.was _ c.count_points.ensures _ c.in_ok-count.was w.if-count-a.true
  | then-count-a-via-else-count-a+then-count-b w ↦ count_end_b _ _ _ _ c.requires.0 c.requires.1 _ c.count_scans.ensures _ c.in_ok-scans.was _ c.count_points.ensures _ c.in_ok-count.was w.if-count-b.true
]

pub returns-then-count-gt-MAX_POINTS : goal.returns-then-count-gt-MAX_POINTS
returns-then-count-gt-MAX_POINTS c =
    count_points_many _ _ _ _ c.requires.0 c.requires.1 _ c.count_scans.ensures _ c.in_ok-scans.was _ c.count_points.ensures _ c.in_ok-count.was c.if-count-gt-MAX_POINTS.true

pub overflow_add-result : goal.overflow_add-result
overflow_add-result c =
    search (size_sum _ _ _ _ c.requires.0 c.requires.1 _ c.count_scans.ensures _ c.in_ok-scans.was _ c.count_points.ensures _ c.in_ok-count.was _ _ c.version_for.ensures c.head_size.ensures, rules)

pub overflow_add-result-2 : goal.overflow_add-result-2
overflow_add-result-2 c =
    search (size_total _ _ _ _ c.requires.0 c.requires.1 _ c.count_scans.ensures _ c.in_ok-scans.was _ c.count_points.ensures _ c.in_ok-count.was _ _ c.version_for.ensures c.head_size.ensures, rules)

pub returns : goal.returns
returns c =
    count_whole _ _ _ _ c.requires.0 c.requires.1 _ c.count_scans.ensures _ c.in_ok-scans.was _ c.count_points.ensures _ c.in_ok-count.was c.if-scans-gt-MAX_SCANS.false
    (sym c.word4.ensures ∙ c.if-word4.false ∙ c.word4-2.ensures) c.if-a-head_a.false c.if-b-head_b.false c.if-count-a.false c.if-count-b.false c.if-count-gt-MAX_POINTS.false
    _ _ _ c.version_for.ensures c.head_size.ensures refl
