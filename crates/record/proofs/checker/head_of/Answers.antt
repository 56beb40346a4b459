-- `head_of` meets its contract: a law for each return.
-- Assumes nothing.
use mathlib.Core.Path.{◌∙◌}
use native.Mathlib.Omega.{arith}
use Rattle.record.proofs.HeadLaws.{head_short, head_size_lem, head_1, head_2, head_rest}
use borrow.Author.Rules.{rules}
use Rattle.record.proofs.checker.head_of.Goals.{then-bytes-lt9-via-then-bytes-lt9, then-bytes-lt9-via-else-bytes-lt9+then-word2-bytes}
use Rattle.record.proofs.checker.head_of.Goals as goal

pub returns-then-bytes-lt9 : goal.returns-then-bytes-lt9
returns-then-bytes-lt9 c = elim c.then-bytes-lt9.branch [
  | then-bytes-lt9-via-then-bytes-lt9 w ↦ search (head_short, rules)
  | then-bytes-lt9-via-else-bytes-lt9+then-word2-bytes w ↦ search (head_size_lem, w.if-word2-bytes.true, rules)
]

pub returns-in-1 : goal.returns-in-1
returns-in-1 c = head_1 _ _ c.word2.ensures c.if-word2-bytes.false (omega arith) (omega arith) _ (c.counted.ensures ∙ rw (c.from.ensures, c.from-in-1.ensures))

pub returns-in-2 : goal.returns-in-2
returns-in-2 c = head_2 _ _ c.word2.ensures c.if-word2-bytes.false c.if-bytes-ge11.true (omega arith) _ _ c.word2-in-2.ensures c.word2-in-2-2.ensures _ c.counted-in-2.ensures

pub returns-in_default : goal.returns-in_default
returns-in_default c = search (head_rest, rules)

pub returns-in_default-2 : goal.returns-in_default-2
returns-in_default-2 c = search (head_rest, rules)
