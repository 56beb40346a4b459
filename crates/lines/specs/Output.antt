-- Printing, whose first failure is kept and told at the end.
-- Assumes nothing: these are definitions.
use Rattle.std.specs.Prelude.{◌≡◌, Option, Some, None, Result, Ok, Err}
use Rattle.std.specs.declared.io.Error.{Error}

-- a failure that was there before stays
abbrev pub Kept : Option Error → Option Error → Type 0
Kept before after = (e : Error) → before ≡ Some e → after ≡ Some e

-- what is told at the end: the failure, where there was one
abbrev pub told_by : Option Error → Result Unit Error
told_by None = Ok tt
told_by (Some e) = Err e
