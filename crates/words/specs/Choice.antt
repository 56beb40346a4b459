-- The choice by whether there is a value, for every definition of the library.
-- Assumes nothing: these are definitions.
use Rattle.std.proofs.Math.Option.{Option, none, some}

-- the value, or another where there is none (R15 is said with it)
abbrev pub value_or : {A : Type 0} → A → Option A → A
value_or y none = y
value_or y (some x) = x
