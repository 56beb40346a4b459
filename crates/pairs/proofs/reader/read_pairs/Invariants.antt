-- `pairs::reader::read_pairs` meets its contract: when i pairs are stored, their lows and highs are the fronts of the two lists, and the rest of the pairs
-- is as before. As many as were found have room.
use Rattle.std.proofs.Common.{◌≤◌, length}
use Rattle.record.specs.Reader.{low_of, high_of}
use Rattle.pairs.proofs.PairReadLaws.{Stored}
use Rattle.pairs.proofs.reader.read_pairs.Given as goal

abbrev pub invariant-loop-i : goal.invariant-loop-i
invariant-loop-i l =
    (l.i-end ≤ 64) × (l.i-end ≤ length l.initial.scans) × Stored low_of l.i l.lows l.initial.scans l.scans × Stored high_of l.i l.highs l.initial.scans l.scans
