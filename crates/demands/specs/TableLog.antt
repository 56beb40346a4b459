-- The records of a table of rows as one log of bytes, melded by a card (R44, R55).
-- Assumes nothing: these are definitions.
use Rattle.std.specs.Prelude.{ℕ, ◌+◌, ◌≡◌, List, [], ◌∷◌, map}
use Rattle.record_log.specs.declared.found.Cut.{Cut}
use Rattle.record_log.specs.declared.found.Cut.TheVariants.{End}
use Rattle.record_log.specs.Walk.{joined}
use Rattle.rules.specs.State.{State, key_in}
use Rattle.rules.specs.Table.{Row, bytes_in, Line, line_of}
use Rattle.meld.specs.declared.melding.Melded.{Melded}
use Rattle.demands.specs.Runs.{Means}

-- R44, R55: the records' bytes of a table of rows back to back
abbrev pub log_of : List Row → List ℕ
log_of rs = joined (map bytes_in rs)

-- the lines of what melds answer, one after the other: the first record has position v, the next v + 1 (R13)
abbrev pub lines_from : ℕ → List Melded → List Line
lines_from v [] = []
lines_from v (x ∷ xs) = record { v = v; answer = x.answer; looks = x.looks } ∷ lines_from (v + 1) xs

-- R44, R55: the answers are the lines of these rows, then comes "end", and these keys are kept in the state that the pool means
pub record TableRun (rs : List Row) (keys : List ℕ) (xs : List Melded) (last : Cut) (m : List ℕ) : Type 0 where
  pub lines : lines_from 1 xs ≡ map line_of rs
  pub ends : last ≡ End
  pub S : State
  pub means : Means m S
  pub kept_keys : map key_in S.kept ≡ keys
