-- The height where two keys part.
-- Assumes nothing: these are definitions.
use Rattle.std.specs.Prelude.{ℕ, zero, suc, ◌/◌, ◌^◌, eqb}
use Rattle.std.specs.Prelude.{if◌then◌else◌}

-- the least height from h on at which x and y have the same bits above it, after f more heights at most
unfoldable pub part_from : ℕ → ℕ → ℕ → ℕ → ℕ
part_from zero h x y = h
part_from (suc f) h x y = if eqb (x / 2 ^ h) (y / 2 ^ h) then h else part_from f (suc h) x y

-- the least height h with x / 2 ^ h ≡ y / 2 ^ h, of keys of 32 bits
abbrev pub part_height : ℕ → ℕ → ℕ
part_height x y = part_from 32 0 x y
