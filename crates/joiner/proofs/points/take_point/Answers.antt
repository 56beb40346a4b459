-- `take_point` meets its contract: a law of PointTakes for each return.
-- Assumes nothing.
use mathlib.Core.Path.{◌≡◌}
use borrow.Author.Rules.{rules}
use Rattle.joiner.specs.Joined.{entry_of}
use Rattle.joiner.proofs.PointTakes.{bad_last_b, bad_a, bad_b, take_last_b, take_last_a, take_a, take_b, take_clash, take_both}
use Rattle.joiner.proofs.points.take_point.Goals as goal

pub returns-in_err-point : goal.returns-in_err-point
returns-in_err-point c = rw c.from_residual.ensures (bad_last_b _ _ _ _ _ c.first.ensures c.in_err-point.was c.requires.2 c.if-left_a-eq0.true)

pub returns-then-left_a-eq0 : goal.returns-then-left_a-eq0
returns-then-left_a-eq0 c = take_last_b _ _ _ _ _ _ _ c.first.ensures c.in_ok-point.was c.pass.ensures c.requires.0 c.requires.2 c.if-left_a-eq0.true

pub returns-in_err-first : goal.returns-in_err-first
returns-in_err-first c = rw c.from_residual-in_err-first.ensures (bad_a _ _ _ _ _ c.first-2.ensures c.in_err-first.was c.if-left_a-eq0.false)

pub returns-then-left_b-eq0 : goal.returns-then-left_b-eq0
returns-then-left_b-eq0 c =
    take_last_a _ _ _ _ _ _ c.first-2.ensures c.in_ok-first.was c.if-left_a-eq0.false _ c.puts_or_deletes-changed.ensures _ c.pass-then-left_b-eq0.ensures c.requires.1 c.if-left_b-eq0.true

pub returns-in_err-second : goal.returns-in_err-second
returns-in_err-second c = rw c.from_residual-in_err-second.ensures (bad_b _ _ _ _ _ c.first-3.ensures c.in_err-second.was c.if-left_b-eq0.false)

pub returns-then-key : goal.returns-then-key
returns-then-key c =
    take_a _ _ _ _ _ _ c.first-2.ensures c.in_ok-first.was c.if-left_a-eq0.false _ c.puts_or_deletes-changed.ensures _ _ c.first-3.ensures c.in_ok-second.was c.if-left_b-eq0.false
    _ _ c.key.ensures c.key-2.ensures _ c.pass-then-key.ensures c.requires.1 c.if-key.true

pub returns-then-key-2 : goal.returns-then-key-2
returns-then-key-2 c =
    take_b _ _ _ _ _ _ c.first-2.ensures c.in_ok-first.was c.if-left_a-eq0.false _ c.puts_or_deletes-changed.ensures _ _ c.first-3.ensures c.in_ok-second.was c.if-left_b-eq0.false
    _ _ c.key-4.ensures c.key-3.ensures _ c.pass-then-key-2.ensures c.requires.0 c.if-key-2.true

pub returns-then-changed : goal.returns-then-changed
returns-then-changed c =
    take_clash _ _ _ _ _ _ c.first-2.ensures c.in_ok-first.was c.if-left_a-eq0.false _ c.puts_or_deletes-changed.ensures _ _ c.first-3.ensures c.in_ok-second.was c.if-left_b-eq0.false
    _ _ c.key.ensures c.key-2.ensures c.if-key.false (search rules) c.if-changed.true

pub returns-then-puts_or_deletes : goal.returns-then-puts_or_deletes
returns-then-puts_or_deletes c =
    let entry : c.in_ok-second.second ≡ entry_of c.in_ok-first.first c.in_ok-second.second = search rules in
    take_both _ _ _ _ _ _ c.first-2.ensures c.in_ok-first.was c.if-left_a-eq0.false _ c.puts_or_deletes-changed.ensures _ _ c.first-3.ensures c.in_ok-second.was c.if-left_b-eq0.false
    _ _ c.key.ensures c.key-2.ensures c.if-key.false (search rules) _ _ _ c.if-changed.false entry c.pass-2.ensures c.pass-3.ensures

pub returns-else-puts_or_deletes : goal.returns-else-puts_or_deletes
returns-else-puts_or_deletes c =
    let entry : c.in_ok-first.first ≡ entry_of c.in_ok-first.first c.in_ok-second.second = search rules in
    take_both _ _ _ _ _ _ c.first-2.ensures c.in_ok-first.was c.if-left_a-eq0.false _ c.puts_or_deletes-changed.ensures _ _ c.first-3.ensures c.in_ok-second.was c.if-left_b-eq0.false
    _ _ c.key.ensures c.key-2.ensures c.if-key.false (search rules) _ _ _ c.if-changed.false entry c.pass-2.ensures c.pass-3.ensures
