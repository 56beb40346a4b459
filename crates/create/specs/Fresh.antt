-- A new pool, every byte of it (R18).
-- Assumes nothing: these are definitions.
use Rattle.std.specs.Prelude.{ℕ, zero, suc, ◌+◌, ◌*◌, ◌≡◌, Bool, true, false, ◌&&◌, List, [], ◌∷◌, leb, eqb, length}
use Rattle.std.proofs.Math.Option.{none}
use Rattle.record.specs.Answer.{committed, bad_limits}
use Rattle.record.specs.declared.answer.Answer.{Answer}
use Rattle.pool.specs.Image.{Arrangement, Image}

-- so many numbers, from i on (R18)
unfoldable pub up_from : ℕ → ℕ → List ℕ
up_from i zero = []
up_from i (suc k) = i ∷ up_from (suc i) k

-- R18: no tree, and all nodes free in the order of their numbers
abbrev pub fresh_plan : ℕ → ℕ → Arrangement
fresh_plan n z = record { N = n; Z = z; p = 0; tree = none; free = up_from 0 (2 * n) }

-- R18: N and Z are in range, and the pool has exactly 64 + 64·N bytes
unfoldable pub limits_ok : ℕ → ℕ → ℕ → Bool
limits_ok n z size = leb 1 n && (leb n 65536 && (leb 1 z && (leb z 4096 && eqb size (64 + 64 * n))))

-- R18: what creation promises of the bytes m that are lent, its answer r and the bytes m' left behind
pub record Created (m : List ℕ) (n z : ℕ) (r : Answer) (m' : List ℕ) : Type 0 where
  pub made : limits_ok n z (length m) ≡ true → (r ≡ committed) × Image m' (fresh_plan n z)
  pub refused : limits_ok n z (length m) ≡ false → (r ≡ bad_limits) × (m' ≡ m)
