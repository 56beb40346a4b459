-- The bytes that it stores are the number's.
-- Assumes nothing.
use Rattle.std.proofs.Common.{rules}
use Rattle.words.proofs.Digits.{put_8}
use Rattle.words.proofs.put8.Goals as goal

pub returns : goal.returns
returns c = search (put_8, rules)
