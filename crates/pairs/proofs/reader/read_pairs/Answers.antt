-- As many scans as were found have room among the pairs, and stored there they are what is promised: by what the core says of the two lists (PairReadLaws.antt).
use Rattle.std.proofs.Common.{rules, refl, arith}
use Rattle.record.specs.Reader.{low_of, high_of}
use Rattle.pairs.proofs.PairReadLaws.{stored_more, pairs_meant}
use Rattle.pairs.proofs.reader.read_pairs.Goals as goal

pub returns-in_err-reading : goal.returns-in_err-reading
returns-in_err-reading c = let kept = (pairs_meant _ _ _ _ c.args.scans.now _ _ _ _ _ _ _ c.min-room.ensures c.read.ensures).kept _ c.in_err-reading.was in search rules

pub loop-i-init : goal.loop-i-init
loop-i-init c =
    let few = ((pairs_meant _ _ _ _ c.args.scans.now _ _ _ _ _ _ _ c.min-room.ensures c.read.ensures).meant _ c.in_ok-reading.was).few in
    (omega (arith, few, c.min-room.ensures), omega (arith, few, c.min-room.ensures), refl, refl)

pub loop-i-preserved : goal.loop-i-preserved
loop-i-preserved c =
    let meant = (pairs_meant _ _ _ _ c.args.scans.now _ _ _ _ _ _ _ c.min-room.ensures c.read.ensures).meant _ c.in_ok-reading.was in (
      c.loop-i.invariant.0,
      c.loop-i.invariant.1,
      stored_more low_of _ _ _ _ _ c.loop-i.invariant.2 (omega (arith, meant.lows)) (omega arith) refl,
      stored_more high_of _ _ _ _ _ c.loop-i.invariant.3 (omega (arith, meant.highs)) (omega arith) refl,
    )

pub returns : goal.returns
returns c =
    let meant = (pairs_meant _ _ _ _ c.args.scans.now _ _ _ _ _ _ _ c.min-room.ensures c.read.ensures).meant _ c.in_ok-reading.was in
    meant.read _ _ (omega arith) c.loop-i.invariant.2 c.loop-i.invariant.3
