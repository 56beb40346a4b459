-- The bytes that it stores are the number's.
-- Assumes nothing.
use Rattle.words.proofs.Digits.{put_2}
use Rattle.words.proofs.put2.Goals as goal

pub returns : goal.returns
returns c = put_2 _ _ _ _ c.to_be_bytes-pair.ensures
