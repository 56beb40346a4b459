-- What is left of a record's points or scans. No public promise cites it.
-- Assumes nothing: these are definitions.
use Rattle.std.specs.Prelude.{ℕ, ◌+◌, ◌-◌, List}
use Rattle.record.specs.Parse.{Items, Parsed, parse_run}
use Rattle.joiner.specs.declared.left.Left.{Left}

-- the run of them
abbrev pub run_left : {A : Type 0} → Items A → List ℕ → Left → Parsed A
run_left k bs l = parse_run k l.count l.least bs l.at

-- what is left behind the first
abbrev pub behind : {A : Type 0} → Items A → Left → A → Left
behind k l a = record { at = l.at + k.size a; count = l.count - 1; least = k.above a }
