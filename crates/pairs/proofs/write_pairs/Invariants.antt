-- `pairs::write_pairs` meets its contract: when i pairs are split, the fronts of the two lists are their lows and their highs.
use Rattle.record.specs.Reader.{low_of, high_of}
use Rattle.pairs.proofs.PairLaws.{Split}
use Rattle.pairs.proofs.write_pairs.Given as goal

abbrev pub invariant-loop-i : goal.invariant-loop-i
invariant-loop-i l = Split low_of l.i l.lows l.scans × Split high_of l.i l.highs l.scans
