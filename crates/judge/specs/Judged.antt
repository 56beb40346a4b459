-- What `judge` and `judge_and_name` answer: R23's rows 5, 2 and 1 with their looks, and the leaf in conflict.
-- Assumes nothing: these are definitions.
use Rattle.std.specs.Prelude as Code
use Rattle.std.specs.Prelude.{ℕ, List, None}
use Rattle.record.specs.declared.answer.Answer.{Answer}
use Rattle.record.specs.declared.point.Scan.{Scan}
use Rattle.rules.specs.State.{State}
use Rattle.rules.specs.Verdict.{Verdict, committed, conflict, too_old, no_room, malformed, ahead, positions_used_up, verdict_answer, refusal_or}
use Rattle.rules.specs.Tree.{tree_of, walk, looks_for}
use Rattle.pool.specs.Image.{Arrangement, state_of}
use Rattle.conflict_search.specs.Conflict.{leaves_or, first_hit}
use Rattle.judge.specs.declared.judged.Judged.{Judged}
use Rattle.judge.specs.declared.judged.Named.{Named}

-- an answer, with its looks where the search takes n (R36)
abbrev pub judged : Verdict → ℕ → Judged
judged v n = record { answer = verdict_answer v; looks = looks_for n v }

-- an answer given before the search
abbrev pub unsearched : Answer → Named
unsearched a = record { judged = record { answer = a; looks = 0 }; leaf = None }

-- for a snapshot s and everything that a record names or scans: 5, 2 or 1, the first that applies, or 0
unfoldable pub judged_of : State → ℕ → List Scan → Judged
judged_of S s f = judged (refusal_or S s f committed) (walk s f (tree_of 32 0 S.kept)).looks

-- only a conflict names its leaf
abbrev pub leaf_for : Code.Option ℕ → Verdict → Code.Option ℕ
leaf_for i committed = None
leaf_for i conflict = i
leaf_for i too_old = None
leaf_for i no_room = None
leaf_for i malformed = None
leaf_for i ahead = None
leaf_for i positions_used_up = None

-- the same as `judged_of`, with the first leaf from the left that is in conflict
unfoldable pub named_in : Arrangement → ℕ → List Scan → Named
named_in A s f = record {
  judged = judged_of (state_of A) s f;
  leaf = leaf_for (first_hit s f (leaves_or A.tree)) (refusal_or (state_of A) s f committed);
}
