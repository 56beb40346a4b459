-- A wide number is two narrow ones.
-- Assumes nothing.
use Rattle.std.proofs.Common.{rules}
use Rattle.words.proofs.Digits.{word_8}
use Rattle.words.proofs.word8.Goals as goal

pub returns : goal.returns
returns c = search (word_8, rules)
