-- The bytes that it stores are the number's.
-- Assumes nothing.
use Rattle.words.proofs.Digits.{put_4}
use Rattle.words.proofs.put4.Goals as goal

pub returns : goal.returns
returns c = put_4 _ _ _ _ c.to_be_bytes-digits.ensures
