-- `judge::judge` meets its promise: it is `judge_and_name` without the leaf.
use Rattle.judge.proofs.Cases.{without_leaf}
use Rattle.judge.proofs.judged.judge.Goals as goal

pub returns : goal.returns
returns c = without_leaf _ _ _ _ c.judge_and_name.ensures
