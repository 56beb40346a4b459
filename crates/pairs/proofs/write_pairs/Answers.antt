-- A turn splits the next pair; more than 64 pairs name no record, and fewer are written as the writer's core writes their lows and highs (PairLaws.antt).
use Rattle.std.proofs.Common.{ap, sym, ◌∙◌, refl, arith}
use Rattle.writer.specs.Writer.{record_of, write_of}
use Rattle.record.specs.Reader.{lists, low_of, high_of}
use Rattle.pairs.proofs.PairLaws.{split_more, split_all, too_many}
use Rattle.pairs.proofs.write_pairs.Goals as goal

pub loop-i-init : goal.loop-i-init
loop-i-init c = ((refl, refl), (refl, refl))

pub loop-i-preserved : goal.loop-i-preserved
loop-i-preserved c = (split_more low_of _ _ _ _ c.loop-i.invariant.0 (omega arith) (omega arith), split_more high_of _ _ _ _ c.loop-i.invariant.1 (omega arith) (omega arith))

pub returns-then-count-gt-MAX_SCANS : goal.returns-then-count-gt-MAX_SCANS
unfolding write_of
returns-then-count-gt-MAX_SCANS c =
    ap (λ r. write_of r c.args.output.now) (sym (too_many c.args.snapshot c.args.kinds.now c.args.keys.now c.args.payloads.now c.args.scans.now c.if-count-gt-MAX_SCANS.true))

pub returns : goal.returns
returns c =
    c.write.ensures
    ∙ (λ j. write_of (record_of c.args.snapshot (lists c.args.kinds.now c.args.keys.now c.args.payloads.now
    (split_all low_of _ _ _ c.loop-i.invariant.0 c.loop-i-test.false c.loop-i.auto.i-end j) (split_all high_of _ _ _ c.loop-i.invariant.1 c.loop-i-test.false c.loop-i.auto.i-end j))) c.args.output.now)
