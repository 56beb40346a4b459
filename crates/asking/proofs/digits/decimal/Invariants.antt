-- `asking::decimal` meets its contract. The invariant: so many digits were read, and the value is theirs (Decimals.antt).
-- Assumes nothing.
use Rattle.asking.proofs.Decimals.{Read}
use Rattle.asking.proofs.digits.decimal.Given as goal

abbrev pub invariant-loop-byte : goal.invariant-loop-byte
invariant-loop-byte l = Read l.text l.value l.byte-index
