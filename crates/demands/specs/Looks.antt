-- The limit of the looks, on any bytes (R37).
-- Assumes nothing: these are definitions.
use Rattle.std.specs.Prelude.{ℕ, ◌+◌, ◌*◌, ◌≤◌, ◌≡◌, List, length}
use Rattle.std.proofs.Math.Option.{none, some}
use Rattle.record.specs.Record.{Rec}
use Rattle.record.specs.Parse.{parse}
use Rattle.pool.specs.Image.{Fit}

-- R37, and R36 where there is nothing to look for: of a meld of bytes into a pool m, so many looks
pub record LooksLimited (m bytes : List ℕ) (looks : ℕ) : Type 0 where
  pub limit : (r : Rec) → parse bytes ≡ some r → looks ≤ 65 + 64 * (length r.points + 2 * length r.scans)
  pub malformed : parse bytes ≡ none → looks ≡ 0
  pub unfit : (Fit m → ⊥) → looks ≡ 0
