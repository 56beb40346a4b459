-- `asking::seek` meets its contract. The invariant: the records passed so far, and no more bytes are held than the window has.
-- Assumes nothing.
use Rattle.std.proofs.Common.{ℕ, List, [], Err, sym, refl, subst, inl, arith}
use Rattle.asking.specs.Seeking.{Passed}
use Rattle.asking.proofs.seeking.seek.Goals as goal

pub loop-records-init : goal.loop-records-init
loop-records-init g c = record { passed = ([], Passed.none_yet); inside = omega arith }

pub returns-in-Err : goal.returns-in-Err
returns-in-Err g c =
    let (brought, passed) = c.loop-records.invariant.passed in
    record {
      brought = brought;
      records = c.loop-records.records;
      held = c.loop-records.held;
      between = c.loop-records.window;
      passed =
          subst (λ (m : List ℕ). Passed c.args.pool.now c.args.window.now brought c.loop-records.records c.loop-records.held m c.loop-records.window)
          (sym c.in-Err.ensures.passed.1) passed;
      last = record { seen = Err c.in-Err.stop; looked = c.in-Err.ensures.passed.0; told_at = c.stopped.ensures };
      few = omega arith;
      all_passed = inl refl;
    }

pub loop-records-preserved : goal.loop-records-preserved
loop-records-preserved g c = record { passed = (_, Passed.one_more c.loop-records.invariant.passed.1 c.in-Ok.ensures.passed); inside = c.in-Ok.ensures.within }
