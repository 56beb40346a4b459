-- The two bytes are the number's digits.
-- Assumes nothing.
use mathlib.Core.Path.{refl, ◌∙◌}
use Rattle.words.proofs.Digits.{word_2}
use Rattle.words.proofs.word2.Goals as goal

pub returns : goal.returns
returns c = c.from.ensures ∙ c.from_be_bytes.ensures ∙ word_2 _ _ _ _ refl refl
