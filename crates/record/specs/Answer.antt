-- The answers (R3), each number with its name, as the library's constants have them.
-- Assumes nothing: these are definitions.
use Rattle.std.specs.Prelude.{ℕ, Result, Ok, Err}
use Rattle.record.specs.declared.answer.Answer.{Answer}

-- R3: 0
abbrev pub committed : Answer
committed = record { number = 0 }

-- R3: 1
abbrev pub conflict : Answer
conflict = record { number = 1 }

-- R3: 2
abbrev pub too_old : Answer
too_old = record { number = 2 }

-- R3: 3
abbrev pub no_room : Answer
no_room = record { number = 3 }

-- R3: 4
abbrev pub malformed : Answer
malformed = record { number = 4 }

-- R3: 5
abbrev pub ahead : Answer
ahead = record { number = 5 }

-- R3: 6
abbrev pub positions_used_up : Answer
positions_used_up = record { number = 6 }

-- R3: 7
abbrev pub unfit_pool : Answer
unfit_pool = record { number = 7 }

-- R3: 8
abbrev pub output_short : Answer
output_short = record { number = 8 }

-- R3: 9
abbrev pub bad_limits : Answer
bad_limits = record { number = 9 }

-- R3: 10
abbrev pub torn_log : Answer
torn_log = record { number = 10 }

-- R3: 11
abbrev pub impossible_length : Answer
impossible_length = record { number = 11 }

-- R3: 12
abbrev pub cannot_join : Answer
cannot_join = record { number = 12 }

-- R10, R56: the number that is given back, as a size; 0 with a refusal
abbrev pub given : Result ℕ Answer → ℕ
given (Ok n) = n
given (Err a) = 0
