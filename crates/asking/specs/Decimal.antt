-- The number that an argument gives in decimal digits (R52).
-- Assumes nothing: these are definitions.
use Rattle.std.specs.Prelude.{ℕ, ◌+◌, ◌-◌, ◌*◌, Bool, true, ◌&&◌, List, [], ◌∷◌, nat_le, nat_lt, Option, Some, None, is_some, unwrap_or}
use Rattle.std.specs.Prelude.{if◌then◌else◌}
use Rattle.rules.specs.State.{last_position}

-- the digit that a byte is, 0 to 9, if it is one (R52)
abbrev pub digit_of : ℕ → Option ℕ
digit_of byte = if nat_lt byte 48 then None else if nat_lt 57 byte then None else Some (byte - 48)

-- every byte is a digit (R52)
abbrev pub all_digits : List ℕ → Bool
all_digits [] = true
all_digits (byte ∷ rest) = is_some (digit_of byte) && all_digits rest

-- a number with more digits behind it; a byte that is no digit counts as 0 there, and `number_of` asks that there is none (R52)
abbrev pub with_digits : ℕ → List ℕ → ℕ
with_digits value [] = value
with_digits value (byte ∷ rest) = with_digits (value * 10 + unwrap_or (digit_of byte) 0) rest

-- R52: the number that a text gives, where it has a byte, all are digits, and the number is no larger than the last position (R2)
abbrev pub number_of : List ℕ → Option ℕ
number_of [] = None
number_of (byte ∷ rest) =
    if all_digits (byte ∷ rest) && nat_le (with_digits 0 (byte ∷ rest)) last_position then Some (with_digits 0 (byte ∷ rest)) else
    None
