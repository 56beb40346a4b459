-- `bits::part_height` meets its contract. The leading zeros are 32 at most, and what they leave of 32 is the height (`part_leading`).
-- Assumes nothing.
use lib.Count.{leading_le}
use Rattle.bits.proofs.Part.{part_leading}
use Rattle.bits.proofs.part_height.Goals as goal

pub overflow_sub-result : goal.overflow_sub-result
overflow_sub-result c = leading_le 32 _

pub returns : goal.returns
returns c = part_leading c.args.x c.args.y c.ranges.x.fits c.ranges.y.fits
