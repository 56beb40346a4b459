-- `record_log::cut` meets its contract: at each return the tests on the way have shown that the place is the end, that too few bytes are
-- left, that the length cannot be, or that a record stands there whole (Cases.antt).
-- Assumes nothing.
use native.Mathlib.Omega.{arith}
use borrow.Author.Rules.{rules}
use Rattle.record_log.proofs.Cases.{is_end, is_short, is_impossible, is_cut_off, is_record_lem}
use Rattle.record_log.proofs.cut.Goals as goal

pub returns-then-place-log : goal.returns-then-place-log
returns-then-place-log c = is_end _ _ (omega arith)

pub returns-in_default : goal.returns-in_default
returns-in_default c = is_short _ _ (λ e. omega arith) (omega arith)

pub returns-then-left-lt2 : goal.returns-then-left-lt2
returns-then-left-lt2 c = is_short _ _ (λ e. omega arith) (omega arith)

pub returns-then-is_impossible : goal.returns-then-is_impossible
returns-then-is_impossible c = is_impossible _ _ (omega arith) _ c.word2-length.ensures _ c.is_impossible.ensures (search rules)

pub returns-then-left-length : goal.returns-then-left-length
returns-then-left-length c = is_cut_off _ _ (omega arith) _ c.word2-length.ensures _ c.is_impossible.ensures (search rules) (omega arith)

pub returns : goal.returns
returns c = is_record_lem _ _ (omega arith) _ c.word2-length.ensures _ c.is_impossible.ensures (search rules) (omega arith)
