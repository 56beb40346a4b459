-- `take_scan` meets its contract: the next scan is a's or b's, the one that starts lower, a's if both start at one key. Assumes nothing.
use Rattle.joiner.proofs.ScanTakes.{take_bad_last, take_bad_a, take_bad_b, take_last_b, take_last_a, take_first_a, take_first_b}
use Rattle.joiner.proofs.scans.take_scan.Goals as goal

pub returns-in_err-scan : goal.returns-in_err-scan
returns-in_err-scan c = rw c.from_residual.ensures (take_bad_last _ _ _ _ _ c.first.ensures c.in_err-scan.was c.if-left_a-eq0.true c.requires.2)

pub returns-then-left_a-eq0 : goal.returns-then-left_a-eq0
returns-then-left_a-eq0 c = take_last_b _ _ _ _ _ _ _ c.first.ensures c.in_ok-scan.was c.pass.ensures c.requires.0 c.if-left_a-eq0.true c.requires.2

pub returns-in_err-first : goal.returns-in_err-first
returns-in_err-first c = rw c.from_residual-in_err-first.ensures (take_bad_a _ _ _ _ _ c.first-2.ensures c.in_err-first.was c.if-left_a-eq0.false)

pub returns-then-left_b-eq0 : goal.returns-then-left_b-eq0
returns-then-left_b-eq0 c =
    take_last_a _ _ _ _ _ _ _ c.first-2.ensures c.in_ok-first.was c.pass-then-left_b-eq0.ensures c.requires.1 c.if-left_a-eq0.false c.if-left_b-eq0.true

pub returns-in_err-second : goal.returns-in_err-second
returns-in_err-second c = rw c.from_residual-in_err-second.ensures (take_bad_b _ _ _ _ _ c.first-3.ensures c.in_err-second.was c.if-left_b-eq0.false)

pub returns-then-first-second : goal.returns-then-first-second
returns-then-first-second c =
    take_first_a _ _ _ _ _ _ c.first-2.ensures c.in_ok-first.was c.if-left_a-eq0.false _ _ c.first-3.ensures c.in_ok-second.was c.if-left_b-eq0.false
    _ c.pass-then-first-second.ensures c.requires.1 c.if-first-second.true

pub returns : goal.returns
returns c =
    take_first_b _ _ _ _ _ _ c.first-2.ensures c.in_ok-first.was c.if-left_a-eq0.false _ _ c.first-3.ensures c.in_ok-second.was c.if-left_b-eq0.false
    _ c.pass-2.ensures c.requires.0 c.if-first-second.false
