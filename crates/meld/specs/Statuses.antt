-- What the status of a pool promises (R45).
-- Assumes nothing: these are definitions.
use Rattle.std.specs.Prelude.{ℕ, ◌≡◌, Bool, not, List, length, Result, Ok, Err}
use Rattle.record.specs.declared.answer.Answer.{Answer}
use Rattle.record.specs.Answer.{unfit_pool}
use Rattle.rules.specs.Lists.{keep}
use Rattle.rules.specs.State.{Entry, State, is_live}
use Rattle.pool.specs.Image.{Arrangement, Image, Fit, state_of}
use Rattle.meld.specs.declared.kept.Status.{Status}

-- R17: deleted, with a tombstone for it
abbrev pub is_tombstone : Entry → Bool
is_tombstone e = not (is_live e.payload)

-- R45: the limits, the position, how many keys are kept and how many of them are tombstones
abbrev pub status_of : State → Status
status_of S =
    record {
      limit = S.N;
      zone = S.Z;
      position = S.p;
      kept = length S.kept;
      tombstones = length (keep is_tombstone S.kept);
    }

-- R45: the status of the state that the pool means; 7 where it means none
pub record StatusIs (m : List ℕ) (r : Result Status Answer) : Type 0 where
  pub fit : (A : Arrangement) → Image m A → r ≡ Ok (status_of (state_of A))
  pub unfit : (Fit m → ⊥) → r ≡ Err unfit_pool
