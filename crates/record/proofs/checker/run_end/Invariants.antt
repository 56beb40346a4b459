-- `run_end` meets its contract. The loop's invariant: what is left to parse, from this place on, ends where the whole run ends.
-- Assumes nothing.
use Rattle.std.proofs.Common.{◌≡◌, ◌≤◌, ◌-◌, length}
use Rattle.record.specs.Parse.{parse_run, end_of}
use Rattle.record.proofs.checker.run_end.Given as goal

abbrev pub invariant-loop : goal.invariant-loop
invariant-loop g l = (l.at ≤ length l.bytes)
    × (end_of (parse_run g.T.Item.items l.count 0 l.bytes l.start) ≡ end_of (parse_run g.T.Item.items (l.count - l.counter) l.least l.bytes l.at))
