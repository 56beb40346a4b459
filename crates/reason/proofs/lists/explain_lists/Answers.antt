-- `lists::explain_lists` meets its promise: one law for each return and each call (Explaining.antt).
use Rattle.std.proofs.lemmas.Grind.{merely}
use Rattle.reason.proofs.Explaining.{is_fit, are_sorted, is_blamable, conflict_explained, lag_fits, old_explained, ahead_explained, crowded_explained, lean_explained, whole_explained}
use borrow.Author.Rules.{rules}
use Rattle.reason.proofs.lists.explain_lists.Goals as goal

pub judge_and_name-leaf-requires : goal.judge_and_name-leaf-requires
judge_and_name-leaf-requires c = is_fit c.requires

pub invariant_of-judge_and_name : goal.invariant_of-judge_and_name
invariant_of-judge_and_name c = record { sorted = merely (are_sorted c.requires) }

pub blame-requires : goal.blame-requires
blame-requires c = is_blamable c.requires _ c.judge_and_name-leaf.ensures _ c.in-Some.is

pub returns-in-Some : goal.returns-in-Some
returns-in-Some c = conflict_explained c.requires _ c.judge_and_name-leaf.ensures _ c.in-Some.is _ c.blame.ensures

pub overflow_sub-lag : goal.overflow_sub-lag
overflow_sub-lag c = lag_fits c.requires _ c.judge_and_name-leaf.ensures _ c.read_header.ensures (search rules)

pub returns-then-eq : goal.returns-then-eq
returns-then-eq c = old_explained c.requires _ c.judge_and_name-leaf.ensures _ c.read_header.ensures (search rules)

pub returns-then-ne : goal.returns-then-ne
returns-then-ne c = rw c.plain.ensures (ahead_explained c.requires _ c.judge_and_name-leaf.ensures c.in_default.is (search rules) (search rules))

pub returns-in-TooLittle : goal.returns-in-TooLittle
returns-in-TooLittle c = crowded_explained c.requires _ c.judge_and_name-leaf.ensures (search rules) _ c.room_for.ensures.room_is _ c.in-TooLittle.is

pub returns-in-AfterDrop : goal.returns-in-AfterDrop
returns-in-AfterDrop c = rw c.plain-in-AfterDrop.ensures (lean_explained c.requires _ c.judge_and_name-leaf.ensures (search rules) _ c.room_for.ensures.room_is c.in-AfterDrop.is)

pub returns-in-Enough : goal.returns-in-Enough
returns-in-Enough c = rw c.plain-in-Enough.ensures (whole_explained c.requires _ c.judge_and_name-leaf.ensures (search rules) _ c.room_for.ensures.room_is c.in-Enough.is)
