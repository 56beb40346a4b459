-- The four bytes are the number's digits.
-- Assumes nothing.
use mathlib.Core.Path.{refl, ◌∙◌}
use Rattle.words.proofs.Digits.{word_4}
use Rattle.words.proofs.word4.Goals as goal

pub returns : goal.returns
returns c = c.from_be_bytes.ensures ∙ word_4 _ _ _ _ _ _ refl refl refl refl
